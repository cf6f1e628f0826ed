use Rattle.std.proofs.Common.{arith, ◌*◌, ◌^◌, ◌<◌, ◌≤◌, ◌+◌, ℕ, ⊎_elim}
use Rattle.std.proofs.lemmas.Bool.{cases_lt}
use Rattle.uniform_cover.proofs.Powers.{pow-scaled_mono, self-le-pow_scaled}
use Rattle.uniform_cover.proofs.greatest.greatest_within.Goals as goal

pub loop-low-init : goal.loop-low-init
loop-low-init c =
    let past : c.args.top + 1 ≤ (c.args.top + 1) ^ c.args.q * c.args.den =
    self-le-pow_scaled (c.args.top + 1) c.args.q c.args.den (omega arith) c.requires.q_positive c.requires.den_positive in
    record { at_least_one = omega arith; ordered = omega arith; small = omega arith; within = λ h. absurd (omega arith); past = omega arith }

below_past : (q den top high v : ℕ) → top < high ^ q * den → v ^ q * den ≤ top → v < high
below_past q den top high v past fits =
    ⊎_elim (λ h. h) (λ h. let risen : high ^ q * den ≤ v ^ q * den = pow-scaled_mono den q high v h in absurd (omega arith)) (cases_lt v high)

pub returns : goal.returns
returns c = record {
  at_least_one = omega arith;
  within = c.loop-low.invariant.within;
  greatest = λ v fits. let below : v < c.loop-low.high = below_past c.args.q c.args.den c.args.top c.loop-low.high v c.loop-low.invariant.past fits in omega arith;
}
