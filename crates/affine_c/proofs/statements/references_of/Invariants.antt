use Rattle.std.proofs.Common.{◌≡◌, map, take}
use Rattle.std.specs.List.{AllByRecursion}
use Rattle.affine_program.specs.Limits.{IsSmallReference}
use Rattle.affine_program.specs.Parts.{access_of}
use Rattle.c_grammar.specs.Program.{narrowed_access}
use Rattle.affine_c.proofs.statements.references_of.Given as goal

abbrev pub invariant-loop-access : goal.invariant-loop-access
invariant-loop-access l = (map access_of l.references.items ≡ map (narrowed_access l.parameters l.depth) (take l.access-index l.accesses)) × AllByRecursion IsSmallReference l.references.items
