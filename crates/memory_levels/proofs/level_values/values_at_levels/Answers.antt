-- One boundary more.
use Rattle.std.proofs.Common.{◌∙◌, ap, subst, ℕ, ◌+◌, Bool, cond, ◌++◌, ◌∷◌, [], map, get_or, arith}
use Rattle.iolb_model.specs.Bound.{bound_value}
use Rattle.iolb_check.specs.Bounds.{HasWideBranch, bound_of}
use Rattle.memory_levels.specs.Climbs.{boundaries}
use Rattle.memory_levels.specs.Values.{value_at_level}
use Rattle.memory_levels.proofs.LevelValues.{narrow-all, narrow-more, next-values, sum-more, wide-here}
use Rattle.memory_levels.proofs.level_values.values_at_levels.Goals as goal

pub returns-in-Err-Wide : goal.returns-in-Err-Wide
returns-in-Err-Wide c =
    let wide = rw c.in-Err-Wide.field-0-is at c.in-Err-Wide.ensures in
    let index = c.loop-capacity.capacity-index in
    let held = c.loop-capacity.held + get_or c.args.capacities.now index 0 in (
      wide.0,
      wide-here c.args.sizes.now c.args.capacities.now c.args.bound.now.branches index held c.loop-capacity-test.true
          (sum-more c.args.capacities.now index c.loop-capacity.held c.loop-capacity-test.true c.loop-capacity.invariant.held) wide.1,
    )

pub loop-capacity-preserved : goal.loop-capacity-preserved
loop-capacity-preserved c =
    let now = c.loop-capacity.invariant in
    let index = c.loop-capacity.capacity-index in
    let more = sum-more c.args.capacities.now index c.loop-capacity.held c.loop-capacity-test.true now.held in
    let found = c.in-Ok.ensures in
    record {
      held = more;
      values = next-values (value_at_level (bound_of c.args.bound.now) c.args.sizes.now c.args.capacities.now) index c.in-Ok.value c.loop-capacity.values.items c.push.new.self.items now.values
          (found.2 ∙ ap (λ (s : ℕ). bound_value (bound_of c.args.bound.now) c.args.sizes.now s) more)
          (c.push.ensures.items ∙ ap (λ (b : Bool). cond b (c.loop-capacity.values.items ++ c.in-Ok.value ∷ []) c.loop-capacity.values.items) c.if-is_err.ensures.negation);
      narrow = narrow-more c.args.sizes.now c.args.capacities.now c.args.bound.now.branches index now.narrow
          (subst (λ (s : ℕ). ¬ HasWideBranch c.args.sizes.now s c.args.bound.now.branches) more found.1);
      met = λ some. found.0;
    }

pub returns : goal.returns
returns c =
    let now = c.loop-capacity.invariant in (
      now.met (omega (arith, c.loop-capacity-test.false, c.requires.held.some)),
      narrow-all c.args.sizes.now c.args.capacities.now c.args.bound.now.branches c.loop-capacity.capacity-index c.loop-capacity-test.false now.narrow,
      now.values ∙ ap (λ (n : ℕ). map (value_at_level (bound_of c.args.bound.now) c.args.sizes.now c.args.capacities.now) (boundaries n)) (omega (arith, c.loop-capacity-test.false, c.loop-capacity.auto.capacity-index-end)),
    )
