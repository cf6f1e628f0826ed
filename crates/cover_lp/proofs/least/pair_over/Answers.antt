use Rattle.std.proofs.Common.{◌≡◌, ℕ, List}
use Rattle.std.specs.Prelude.{◌≤◌, sum, Some, None, Ok, Err, IfOk, IfNone}
use Rattle.cover_lp.specs.Cover.{IsPair}
use Rattle.cover_lp.proofs.Pairs.{known-ratio, only-total, no-other}
use Rattle.cover_lp.proofs.least.pair_over.Goals as goal

pub total_over-requires : goal.total_over-requires
total_over-requires c = (known-ratio c.args.sets.now c.args.d c.args.ratio c.in-Some.ratio c.in-Some.is c.requires.known).positive

pub returns-in-Some-total_over-clause-none : goal.returns-in-Some-total_over-clause-none
returns-in-Some-total_over-clause-none c =
    let ratio = known-ratio c.args.sets.now c.args.d c.args.ratio c.in-Some.ratio c.in-Some.is c.requires.known in
    elim c.pair_of.result as (λ r. IfOk r (λ found. IfNone found ((weights packing : List ℕ) → sum weights ≡ c.in-Some-total_over.total → IsPair c.args.sets.now c.args.d c.args.q weights packing → ⊥))
    → IfOk r (λ found. IfNone found ((weights packing : List ℕ) → sum weights ≤ 24 → IsPair c.args.sets.now c.args.d c.args.q weights packing → ⊥))) [
      | Ok (Some cover) ↦ λ h. tt
      | Ok None ↦ λ none weights packing small is_pair. only-total c.args.sets.now c.args.d c.args.q c.in-Some.ratio.total c.in-Some.ratio.q c.in-Some-total_over.total ratio c.in-Some-total_over.ensures.same none weights packing is_pair
      | Err e ↦ λ h. tt
    ] c.pair_of.ensures.none

pub returns-in-None-clause-none : goal.returns-in-None-clause-none
returns-in-None-clause-none c =
    let ratio = known-ratio c.args.sets.now c.args.d c.args.ratio c.in-Some.ratio c.in-Some.is c.requires.known in
    no-other c.args.sets.now c.args.d c.args.q c.in-Some.ratio.total c.in-Some.ratio.q ratio c.in-None.ensures.none
