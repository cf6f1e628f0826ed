-- A computation graph is well formed.
use Rattle.std.proofs.Common.{sym, subst, ◌+◌, ◌<◌, ◌^◌, arith}
use Rattle.std.proofs.lemmas.Grind.{common_steps}
use Rattle.iolb_model.specs.Graph.{ComputationGraph}
use Rattle.pebble_game.specs.Graphs.{IsWellFormedGraph}
use Rattle.pebble_game.proofs.WellFormed.{computation_graph-well_formed}
use Rattle.plain_graph.specs.Views.{program_with}
use Rattle.plain_graph.proofs.graphs.graph.Goals as goal

pub new-requires : goal.new-requires
new-requires c =
    let below : c.in_ok-instances.instances + c.in_ok-instances.inputs < 2 ^ 32 = grind (arith, common_steps) in (
      subst (λ (graph : ComputationGraph). IsWellFormedGraph graph) (sym c.in_ok-instances.ensures) (computation_graph-well_formed (program_with c.args.statements.now c.args.tree.now) c.args.parameters.now),
      below,
    )
