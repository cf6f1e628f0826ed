use Rattle.std.proofs.Common.{subst, sym, List, ◌+◌, take}
use Rattle.comparisons.specs.Outcomes.{AreOutcomes, IsOutcome}
use Rattle.comparisons.specs.declared.capacity.Capacity.{Capacity}
use Rattle.comparisons.specs.declared.plays.Played.{Played}
use Rattle.comparisons.proofs.Zipped.{zip_more}
use Rattle.comparisons.proofs.plays.play_all.Goals as goal

pub loop-capacity-preserved : goal.loop-capacity-preserved
loop-capacity-preserved c =
    let graph = c.args.graph.now in
    let order = c.args.order.now in
    subst (λ (all : List Played). AreOutcomes graph order (take (c.loop-capacity.capacity-index + 1) c.args.capacities.now) all) (sym c.in_ok-push.ensures.items)
    (zip_more (λ (capacity : Capacity) (outcome : Played). IsOutcome graph order capacity.words outcome) c.args.capacities.now c.loop-capacity.all.items c.loop-capacity.capacity-index
    c.capacity-item.result c.in_ok-play_order.field-0 c.loop-capacity-test.true c.capacity-item.is c.loop-capacity.invariant c.in_ok-play_order.ensures)
