use Rattle.std.proofs.Common.{refl, inl, inr, ℕ}
use Rattle.std.specs.Prelude.{◌⊎◌}
use Rattle.iolb_check.specs.Bounds.{HasWideTerm}
use Rattle.store_bound.specs.Counted.{named_values}
use Rattle.store_bound.specs.Values.{HasWideCount, IsWideTraffic}
use Rattle.store_bound.proofs.NamedTerms.{named-wide}
use Rattle.store_bound.proofs.evaluation.both_at.Goals as goal

pub returns-in_default : goal.returns-in_default
returns-in_default c = (c.in_ok-loads.ensures.0, by (c.in_default.ensures.wide refl)) where
  by : {both : ℕ} → HasWideCount c.args.sizes.now c.args.counts.now ⊎ HasWideTerm c.args.sizes.now c.args.s (named_values c.args.bound.now.branches c.args.branch)
      → IsWideTraffic c.args.sizes.now c.args.s c.args.bound.now.branches c.args.counts.now both
  by (inl h) = inr (inl h)
  by (inr h) = inl (named-wide c.args.sizes.now c.args.s c.args.bound.now.branches c.args.branch h)
