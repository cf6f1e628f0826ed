use Rattle.std.proofs.Common.{vec_len}
use Rattle.poly_tree.specs.Expansion.{IsTrimmed}
use Rattle.poly_tree.specs.Tree.{expansions}
use Rattle.poly_tree.proofs.join.trim.Given as goal

abbrev pub invariant-loop-parts : goal.invariant-loop-parts
invariant-loop-parts l = IsTrimmed (expansions l.initial.parts.items) (expansions l.parts.items)

abbrev pub decreases-loop-parts : goal.decreases-loop-parts
decreases-loop-parts l = vec_len l.parts
