use Rattle.std.proofs.Common.{subst, ℕ, List}
use Rattle.iolb_model.specs.Graph.{ComputationGraph}
use Rattle.comparisons.specs.Outcomes.{AreOutcomes}
use Rattle.comparisons.proofs.plays.play_schedule.Goals as goal

pub returns-clause-plays : goal.returns-clause-plays
returns-clause-plays c = record {
  order = c.in_ok-order.order.items;
  ordered = record { met = c.in_ok-graph.ensures.0; reach = c.in_ok-graph.ensures.1; order_is = c.in_ok-order.ensures.order };
  outcomes = subst (λ (graph : ComputationGraph). AreOutcomes graph c.in_ok-order.order.items c.args.capacities.now c.in_ok-all.all.items) c.in_ok-graph.ensures.2
      (subst (λ (order : List ℕ). AreOutcomes c.in_ok-graph.graph order c.args.capacities.now c.in_ok-all.all.items) c.as_slice.ensures.value c.in_ok-all.ensures);
}
