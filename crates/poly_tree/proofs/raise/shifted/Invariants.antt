use Rattle.std.proofs.Common.{◌≡◌, ◌∷◌, take}
use Rattle.poly_tree.specs.Expansion.{zero_expansion}
use Rattle.poly_tree.specs.Tree.{expansions}
use Rattle.poly_tree.proofs.raise.shifted.Given as goal

abbrev pub invariant-loop-part : goal.invariant-loop-part
invariant-loop-part l = expansions l.copies.items ≡ zero_expansion ∷ expansions (take l.part-index l.parts)
