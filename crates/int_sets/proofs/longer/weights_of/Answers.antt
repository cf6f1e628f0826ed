use Rattle.std.proofs.Common.{ℕ, ◌+◌, ◌<◌, arith}
use Rattle.base_laws.proofs.Lists.{All-push}
use Rattle.affine_form.specs.Multipliers.{IsWeight}
use Rattle.int_sets.proofs.Rising.{rising-push, below-next}
use Rattle.int_sets.proofs.longer.weights_of.Goals as goal
use Rattle.int_sets.proofs.longer.weights_of.Goals.{then-weight-gt0+in_ok-push, else-weight-gt0}

pub loop-row-preserved : goal.loop-row-preserved
loop-row-preserved c = elim c.if-weight-gt0.branch [
  | then-weight-gt0+in_ok-push w ↦ rw (w.weights-is, w.in_ok-push.ensures.items) (record {
    small = All-push IsWeight c.loop-row.weights.items (c.loop-row.row, c.in-Some.weight) c.loop-row.invariant.small (omega (arith, w.if-weight-gt0.true), c.in-Some.ensures);
    rising = rising-push c.loop-row.row c.in-Some.weight c.loop-row.weights.items c.loop-row.invariant.rising c.loop-row.invariant.below;
    below = All-push (λ (weight : ℕ × ℕ). weight.0 < c.loop-row.row + 1) c.loop-row.weights.items (c.loop-row.row, c.in-Some.weight)
        (below-next c.loop-row.row c.loop-row.weights.items c.loop-row.invariant.below) (omega arith);
  })
  | else-weight-gt0 w ↦ rw w.weights-is (record {
    small = c.loop-row.invariant.small;
    rising = c.loop-row.invariant.rising;
    below = below-next c.loop-row.row c.loop-row.weights.items c.loop-row.invariant.below;
  })
]
