use Rattle.std.proofs.Common.{◌≡◌, map, take}
use Rattle.c_grammar.specs.Program.{narrowed}
use Rattle.affine_c.proofs.forms.forms_of.Given as goal

abbrev pub invariant-loop-row : goal.invariant-loop-row
invariant-loop-row l = l.forms.items ≡ map (narrowed l.parameters l.depth) (take l.row-index l.rows)
