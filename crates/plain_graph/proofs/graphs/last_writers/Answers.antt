use Rattle.std.proofs.Common.{sym, subst, ◌<◌, ◌≤◌, ℕ, [], map}
use Rattle.std.proofs.lemmas.List.{length-map}
use Rattle.iolb_model.specs.Graph.{is_last_writer}
use Rattle.plain_graph.specs.Views.{instance_of, program_with}
use Rattle.plain_graph.proofs.Placed.{pushed, all_pushed}
use Rattle.plain_graph.proofs.graphs.last_writers.Goals as goal

pub loop-place-preserved : goal.loop-place-preserved
loop-place-preserved c = pushed (is_last_writer (program_with c.args.statements.now []) c.args.parameters.now (map instance_of c.args.runs.now)) (map instance_of c.args.runs.now) c.loop-place.place
    c.loop-place.all.items c.push.new.self.items c.in_ok-is_last.field-0 (subst (λ (n : ℕ). c.loop-place.place < n) (sym (length-map c.args.runs.now instance_of)) c.loop-place-test.true)
    c.in_ok-push.ensures.items c.loop-place.invariant c.in_ok-is_last.ensures

pub returns : goal.returns
returns c = all_pushed (is_last_writer (program_with c.args.statements.now []) c.args.parameters.now (map instance_of c.args.runs.now)) (map instance_of c.args.runs.now) c.loop-place.place
    c.loop-place.all.items (subst (λ (n : ℕ). n ≤ c.loop-place.place) (sym (length-map c.args.runs.now instance_of)) c.loop-place-test.false) c.loop-place.invariant
