use Rattle.std.proofs.Common.{◌∙◌, ap, sym, subst, ◌<◌, ◌≤◌, ℕ, List, [], map, Vec, Global}
use Rattle.std.proofs.lemmas.List.{length-map, map_push}
use Rattle.iolb_model.specs.Graph.{predecessors_of}
use Rattle.plain_graph.specs.Views.{instance_of, cell_view, program_with}
use Rattle.plain_graph.proofs.Placed.{pushed, all_pushed}
use Rattle.plain_graph.proofs.graphs.all_predecessors.Goals as goal

abbrev items : Vec ℕ Global → List ℕ
items vertices = vertices.items

pub loop-place-preserved : goal.loop-place-preserved
loop-place-preserved c = pushed (predecessors_of (program_with c.args.statements.now []) c.args.parameters.now (map instance_of c.args.runs.now) (map cell_view c.args.cells.now)) (map instance_of c.args.runs.now) c.loop-place.place
    (map items c.loop-place.all.items) (map items c.push.new.self.items) c.in_ok-predecessors_at.field-0.items (subst (λ (n : ℕ). c.loop-place.place < n) (sym (length-map c.args.runs.now instance_of)) c.loop-place-test.true)
    (ap (map items) c.in_ok-push.ensures.items ∙ map_push items c.loop-place.all.items c.in_ok-predecessors_at.field-0) c.loop-place.invariant c.in_ok-predecessors_at.ensures

pub returns : goal.returns
returns c = all_pushed (predecessors_of (program_with c.args.statements.now []) c.args.parameters.now (map instance_of c.args.runs.now) (map cell_view c.args.cells.now)) (map instance_of c.args.runs.now) c.loop-place.place
    (map items c.loop-place.all.items) (subst (λ (n : ℕ). n ≤ c.loop-place.place) (sym (length-map c.args.runs.now instance_of)) c.loop-place-test.false) c.loop-place.invariant
