use Rattle.std.proofs.Common.{◌∙◌, ap, sym, subst, ◌<◌, ◌≤◌, ℕ, [], map}
use Rattle.std.specs.Prelude.{flat_map}
use Rattle.std.proofs.lemmas.List.{length-map, map-append}
use Rattle.iolb_model.specs.Source.{sources_of}
use Rattle.iolb_model.specs.Graph.{placed}
use Rattle.plain_graph.specs.Views.{instance_of, source_view, program_with}
use Rattle.plain_graph.proofs.Placed.{appended, all_appended}
use Rattle.plain_graph.proofs.graphs.all_sources.Goals as goal

pub loop-place-preserved : goal.loop-place-preserved
loop-place-preserved c = appended (sources_of (program_with c.args.statements.now []) c.args.parameters.now (map instance_of c.args.runs.now)) (map instance_of c.args.runs.now) c.loop-place.place
    (map source_view c.loop-place.all.items) (map source_view c.append.new.self.items) (map source_view c.in_ok-sources.sources.items)
    (flat_map (sources_of (program_with c.args.statements.now []) c.args.parameters.now (map instance_of c.args.runs.now)) (placed (map instance_of c.args.runs.now)))
    (subst (λ (n : ℕ). c.loop-place.place < n) (sym (length-map c.args.runs.now instance_of)) c.loop-place-test.true)
    (ap (map source_view) c.in_ok-append.ensures.items ∙ map-append source_view c.loop-place.all.items c.in_ok-sources.sources.items) c.in_ok-sources.ensures c.loop-place.invariant

pub returns : goal.returns
returns c = all_appended (sources_of (program_with c.args.statements.now []) c.args.parameters.now (map instance_of c.args.runs.now)) (map instance_of c.args.runs.now) c.loop-place.place
    (map source_view c.loop-place.all.items) (flat_map (sources_of (program_with c.args.statements.now []) c.args.parameters.now (map instance_of c.args.runs.now)) (placed (map instance_of c.args.runs.now)))
    (subst (λ (n : ℕ). n ≤ c.loop-place.place) (sym (length-map c.args.runs.now instance_of)) c.loop-place-test.false) c.loop-place.invariant
