use Rattle.std.proofs.Common.{◌≡◌, ℕ, suc, ◌+◌, ◌<◌, List, [], ◌∷◌, ◌++◌, length, drop, get_or, ap, arith, subst, sym, ◌∙◌}
use Rattle.std.specs.Prelude.{ℤ}
use Rattle.std.specs.List.{AllByRecursion}
use Rattle.std.proofs.Math.Seq.{drop-cons}
use Rattle.base_laws.proofs.Lists.{All-append}
use Rattle.affine_form.specs.Form.{IsSmall}
use Rattle.poly_tree.specs.declared.tree.Tree.{Tree}
use Rattle.poly_tree.specs.Expansion.{coefficients, parts_coefficients}
use Rattle.poly_tree.specs.Tree.{expansion, parts_of}
use Rattle.poly_tree.proofs.numbers.+numbers_below.Goals as goal

-- the numbers of the parts that are left are those of the next part, and those of the parts behind it
next : (parts : List Tree) (i : ℕ) (part : Tree) → i < length parts → part ≡ get_or parts i part
    → parts_coefficients (parts_of (drop i parts)) ≡ coefficients (expansion part) ++ parts_coefficients (parts_of (drop (i + 1) parts))
next parts i part lt is =
    let one : i + 1 ≡ suc i = omega arith in
    rw one (ap (λ (ts : List Tree). parts_coefficients (parts_of ts)) (drop-cons parts i part lt) ∙ ap (λ (t : Tree). coefficients (expansion t) ++ parts_coefficients (parts_of (drop (suc i) parts))) (sym is))

all_first : (P : ℤ → Type 0) (xs ys : List ℤ) → AllByRecursion P (xs ++ ys) → AllByRecursion P xs
all_first P [] ys h = tt
all_first P (x ∷ xs) ys h = (h.0, all_first P xs ys h.1)

all_second : (P : ℤ → Type 0) (xs ys : List ℤ) → AllByRecursion P (xs ++ ys) → AllByRecursion P ys
all_second P [] ys h = h
all_second P (x ∷ xs) ys h = all_second P xs ys h.1

pub returns-then-not-numbers_below : goal.returns-then-not-numbers_below
returns-then-not-numbers_below t c =
    let parts = c.deref-part-items.result.now in
    let k = c.loop-part.part-index in
    let small = IsSmall c.args.limit in
    let rest = parts_coefficients (parts_of (drop (k + 1) parts)) in
    let is = next parts k c.part-item.result c.loop-part-test.true c.part-item.is in
    (λ e. absurd cc, λ h. absurd (let below = c.numbers_below.ensures.1 (all_first small (coefficients (expansion c.part-item.result)) rest (subst (AllByRecursion small) is (c.loop-part.invariant.1 h))) in cc))

pub loop-part-preserved : goal.loop-part-preserved
loop-part-preserved t c =
    let parts = c.deref-part-items.result.now in
    let k = c.loop-part.part-index in
    let small = IsSmall c.args.limit in
    let here = coefficients (expansion c.part-item.result) in
    let rest = parts_coefficients (parts_of (drop (k + 1) parts)) in
    let is = next parts k c.part-item.result c.loop-part-test.true c.part-item.is in (
      λ h. c.loop-part.invariant.0 (subst (AllByRecursion small) (sym is) (All-append small here rest (c.numbers_below.ensures.0 c.if-not-numbers_below.false) h)),
      λ h. all_second small here rest (subst (AllByRecursion small) is (c.loop-part.invariant.1 h)),
    )
