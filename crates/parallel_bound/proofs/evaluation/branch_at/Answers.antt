use Rattle.std.proofs.Common.{◌≡◌, ap, subst, inl, inr, ℕ, ◌+◌, ◌<◌, ◌≤◌, max, min, List, [], drop, map, arith}
use Rattle.std.specs.Prelude.{◌⊎◌, fold}
use Rattle.std.proofs.lemmas.List.{drop_all}
use Rattle.iolb_model.specs.Parallel.{ceiling, own_part}
use Rattle.iolb_model.specs.declared.limits.TheConstants.{MEASURE}
use Rattle.iolb_check.specs.Bounds.{terms_of}
use Rattle.iolb_check.specs.declared.bound.Value.{Value}
use Rattle.parallel_bound.specs.Widths.{HasWideParallelTerm, shared_sum}
use Rattle.parallel_bound.proofs.Values.{greatest-also}
use Rattle.parallel_bound.proofs.evaluation.branch_at.Goals as goal

-- what is found where no terms are left
found : (all shared top own rounded value processors : ℕ) (owns : List ℕ) → shared < top → min (shared + 0) top ≡ min all top → own ≡ fold max 0 owns
    → rounded ≡ ceiling shared processors → value ≡ max rounded own → (all < top) × (value ≡ fold max (ceiling all processors) owns)
found all shared top own rounded value processors owns low sum best round is =
    let same : shared ≡ all = omega (arith, low, sum) in (
      omega (arith, low, same),
      omega (
        arith,
        is,
        round,
        best,
        ap (λ (n : ℕ). ceiling n processors) same,
        greatest-also (ceiling all processors) 0 owns,
        ap (λ (n : ℕ). fold max n owns) (none (ceiling all processors)),
      ),
    ) where
      none : (n : ℕ) → max n 0 ≡ n
      none n = omega arith

pub returns-then-all_shared-lt-MEASURE : goal.returns-then-all_shared-lt-MEASURE
returns-then-all_shared-lt-MEASURE c =
    let point = c.args.point.now in
    let processors : ℕ = c.args.processors in
    let s : ℕ = c.args.s in
    let terms : List Value = c.args.terms.now in
    let none : drop c.loop-term.term-index terms ≡ [] = drop_all c.loop-term.term-index terms c.loop-term-test.false in
    let sum : min (c.loop-term.all_shared + 0) MEASURE ≡ min (shared_sum terms point processors s) MEASURE =
    subst (λ (rest : List Value). min (c.loop-term.all_shared + shared_sum rest point processors s) MEASURE ≡ min (shared_sum terms point processors s) MEASURE) none c.loop-term.invariant.shared in
    let best : c.loop-term.greatest_own ≡ fold max 0 (map (λ term. own_part term point processors s) (terms_of terms)) =
    subst (λ (rest : List Value). fold max c.loop-term.greatest_own (map (λ term. own_part term point processors s) (terms_of rest)) ≡ fold max 0 (map (λ term. own_part term point processors s) (terms_of terms)))
    none c.loop-term.invariant.own in
    let is = found (shared_sum terms point processors s) c.loop-term.all_shared MEASURE c.loop-term.greatest_own c.rounded_up.result c.max.result processors
    (map (λ term. own_part term point processors s) (terms_of terms)) c.if-all_shared-lt-MEASURE.true sum best c.rounded_up.ensures c.max.ensures in
    let narrow : HasWideParallelTerm point processors s terms → ⊥ =
    c.loop-term.invariant.narrow (λ h. subst (λ (rest : List Value). HasWideParallelTerm point processors s rest) none h) in
    (tt, λ wide. by (shared_sum terms point processors s) is.0 narrow wide, is.1) where
      by : (all : ℕ) → all < MEASURE → {W : Type 0} → (W → ⊥) → W ⊎ (MEASURE ≤ all) → ⊥
      by all low not (inl h) = not h
      by all low not (inr h) = omega (arith, low, h)
