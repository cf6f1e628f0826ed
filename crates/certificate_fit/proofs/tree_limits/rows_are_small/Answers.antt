use Rattle.std.proofs.Common.{◌≡◌, ℕ, suc, ◌+◌, ◌<◌, List, ◌∷◌, Vec, Global, length, drop, get_or, arith, subst, sym, ap, ◌∙◌}
use Rattle.std.proofs.Math.Seq.{drop-cons}
use Rattle.std.specs.Prelude.{◌↔◌}
use Rattle.std.specs.List.{AllByRecursion}
use Rattle.dep_quast.specs.declared.quast.Quast.{Quast}
use Rattle.dep_quast.specs.Tree.{tree_of}
use Rattle.certificate_fit.specs.Limits.{IsSmallTree}
use Rattle.certificate_fit.proofs.tree_limits.rows_are_small.Goals as goal

step : {X : Type 0} (P : X → Type 0) (xs : List X) (i : ℕ) (x : X) (all : Type 0) → i < length xs → x ≡ get_or xs i x → P x
    → (AllByRecursion P (drop i xs) ↔ all) → (AllByRecursion P (drop (i + 1) xs) ↔ all)
step P xs i x all lt is here so_far =
    let one : i + 1 ≡ suc i = omega arith in
    let next : drop i xs ≡ x ∷ drop (suc i) xs = drop-cons xs i x lt ∙ ap (λ y. y ∷ drop (suc i) xs) (sym is) in
    rw one (λ h. so_far.0 (subst (AllByRecursion P) (sym next) (here, h)), λ h. (subst (AllByRecursion P) next (so_far.1 h)).1)

pub loop-row-preserved : goal.loop-row-preserved
loop-row-preserved c =
    let P : Vec Quast Global → Type 0 = λ row. AllByRecursion (λ (quast : Quast). IsSmallTree (tree_of quast)) row.items in
    step P c.args.rows.now c.loop-row.row-index c.row-item.result (AllByRecursion P c.args.rows.now) c.loop-row-test.true c.row-item.is
    (subst (AllByRecursion (λ (quast : Quast). IsSmallTree (tree_of quast))) c.as_slice.ensures.value (c.are_small_trees.ensures.0 c.if-not-are_small_trees.false)) c.loop-row.invariant
