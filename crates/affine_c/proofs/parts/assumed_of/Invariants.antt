use Rattle.std.proofs.Common.{◌≡◌, map, take}
use Rattle.c_grammar.specs.Program.{narrowed}
use Rattle.affine_c.proofs.parts.assumed_of.Given as goal

abbrev pub invariant-loop-row : goal.invariant-loop-row
invariant-loop-row l = l.system ≡ record { vars = l.parameters; rows = map (narrowed l.parameters 0) (take l.row-index l.rows) }
