use Rattle.std.proofs.Common.{◌≡◌, sym, ◌∙◌, ap, subst, List, length, arith}
use Rattle.std.specs.Prelude.{ℤ}
use Rattle.iolb_model.specs.Program.{AffineProgram}
use Rattle.iolb_model.specs.Execution.{execution}
use Rattle.iolb_model.specs.Graph.{ComputationGraph, computation_graph}
use Rattle.affine_program.specs.Parts.{meaning}
use Rattle.pebble_game.specs.Graphs.{IsWellFormedGraph, graph_with}
use Rattle.pebble_game.proofs.WellFormed.{computation_graph-well_formed}
use Rattle.loop_graph.specs.Found.{AreFound, AreListed, IsWithin}
use Rattle.loop_graph.proofs.Scanned.{runs-many}
use Rattle.loop_graph.proofs.Built.{whole}
use Rattle.loop_graph.proofs.graphs.graph_at.Goals as goal

pub new-requires : goal.new-requires
new-requires c =
    let program : AffineProgram = meaning c.args.program.now in
    let values : List ℤ = c.args.values.now in
    let listed : AreListed program values c.as_slice.result.now = subst (AreListed program values) (sym c.as_slice.ensures.value) c.in_ok-runs.ensures.runs in
    let within : IsWithin (computation_graph program values) c.in-Some-2.found =
    subst (AreFound (computation_graph program values)) c.in-Some-2.is (c.in_ok-found.ensures values listed) in
    let many : length c.as_slice-2.result.now ≡ length (execution program values) = ap length c.as_slice-2.ensures.value ∙ runs-many program values c.in_ok-runs.runs.items c.in_ok-runs.ensures.runs in
    let made : graph_with (length c.as_slice-2.result.now) c.in-Some-2.found.inputs c.in-Some-2.found.preds.items c.in-Some-2.found.last.items ≡ computation_graph program values =
    whole program values (length c.as_slice-2.result.now) c.in-Some-2.found.inputs c.in-Some-2.found.preds.items c.in-Some-2.found.last.items many within.inputs within.predecessors within.last_writers in
    (subst (λ (graph : ComputationGraph). IsWellFormedGraph graph) (sym made) (computation_graph-well_formed program values), omega (arith, within.few, many, within.inputs))
