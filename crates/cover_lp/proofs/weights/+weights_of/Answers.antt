use Rattle.std.proofs.Common.{◌≡◌, ◌+◌, sym, subst, ℕ, ◌-◌, ◌<◌, List, ◌∷◌, arith}
use Rattle.cover_lp.specs.Search.{Meets, lowered}
use Rattle.cover_lp.proofs.Search.{step-meets, step-none, all-none, found-none, found-some}
use Rattle.cover_lp.proofs.weights.+weights_of.Goals as goal

pub returns-in-Some-2 : goal.returns-in-Some-2
returns-in-Some-2 t c =
    let found : Meets c.in-Some.others.now c.as_slice.result.now (c.args.total - c.loop-weight.weight) c.in-Some-2.weights.items =
    found-some (Meets c.in-Some.others.now c.as_slice.result.now (c.args.total - c.loop-weight.weight)) c.in_ok-weights.field-0 c.in-Some-2.weights c.in-Some-2.is c.in_ok-weights.ensures in
    let needs : c.as_slice.result.now ≡ lowered c.in-Some.set.now c.loop-weight.weight 0 c.args.needs.now = rw c.as_slice.ensures.value (c.in_ok-needs.ensures.lower) in
    rw (c.in_ok-insert.ensures.items, c.in-Some.ensures.cases.0)
    (step-meets c.in-Some.set.now c.in-Some.others.now c.args.needs.now c.args.total c.loop-weight.weight c.in-Some-2.weights.items (omega (arith, c.loop-weight-test.true))
    (subst (λ (list : List ℕ). Meets c.in-Some.others.now list (c.args.total - c.loop-weight.weight) c.in-Some-2.weights.items) needs found))

pub loop-weight-preserved : goal.loop-weight-preserved
loop-weight-preserved t c =
    let none = found-none (Meets c.in-Some.others.now c.as_slice.result.now (c.args.total - c.loop-weight.weight)) c.in_ok-weights.field-0 c.in_default-2.is c.in_ok-weights.ensures in
    let needs : c.as_slice.result.now ≡ lowered c.in-Some.set.now c.loop-weight.weight 0 c.args.needs.now = rw c.as_slice.ensures.value (c.in_ok-needs.ensures.lower) in
    subst (λ (sets : List (List ℕ)). (weight : ℕ) (weights : List ℕ) → weight < c.loop-weight.weight + 1 → Meets sets c.args.needs.now c.args.total (weight ∷ weights) → ⊥) (sym c.in-Some.ensures.cases.0)
    (step-none c.in-Some.set.now c.in-Some.others.now c.args.needs.now c.args.total c.loop-weight.weight
    (subst (λ (sets : List (List ℕ)). (weight : ℕ) (weights : List ℕ) → weight < c.loop-weight.weight → Meets sets c.args.needs.now c.args.total (weight ∷ weights) → ⊥) c.in-Some.ensures.cases.0 c.loop-weight.invariant)
    (subst (λ (list : List ℕ). (found : List ℕ) → Meets c.in-Some.others.now list (c.args.total - c.loop-weight.weight) found → ⊥) needs none))

pub returns : goal.returns
returns t c =
    subst (λ (sets : List (List ℕ)). (found : List ℕ) → Meets sets c.args.needs.now c.args.total found → ⊥) (sym c.in-Some.ensures.cases.0)
    (all-none c.in-Some.set.now c.in-Some.others.now c.args.needs.now c.args.total c.loop-weight.weight (omega (arith, c.loop-weight-test.false))
    (subst (λ (sets : List (List ℕ)). (weight : ℕ) (weights : List ℕ) → weight < c.loop-weight.weight → Meets sets c.args.needs.now c.args.total (weight ∷ weights) → ⊥) c.in-Some.ensures.cases.0 c.loop-weight.invariant))
