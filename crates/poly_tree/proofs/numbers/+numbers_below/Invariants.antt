use Rattle.std.proofs.Common.{drop}
use Rattle.std.specs.Prelude.{◌↔◌}
use Rattle.std.specs.List.{AllByRecursion}
use Rattle.affine_form.specs.Form.{IsSmall}
use Rattle.poly_tree.specs.Expansion.{coefficients, parts_coefficients}
use Rattle.poly_tree.specs.Tree.{expansion, parts_of}
use Rattle.poly_tree.proofs.numbers.+numbers_below.Given as goal

abbrev pub invariant-loop-part : goal.invariant-loop-part
invariant-loop-part l =
    AllByRecursion (IsSmall l.limit) (parts_coefficients (parts_of (drop l.part-index l.part-items))) ↔ AllByRecursion (IsSmall l.limit) (coefficients (expansion l.tree))
