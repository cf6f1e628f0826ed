use Rattle.std.proofs.Common.{◌≡◌, refl, sym, subst, ◌+◌, List, ℕ, length, Vec, Global, arith}
use Rattle.iolb_model.specs.Execution.{execution}
use Rattle.iolb_model.specs.Graph.{computation_graph}
use Rattle.affine_program.specs.Parts.{meaning}
use Rattle.loop_graph.proofs.Marked.{mark-run, start-marked, last-marked, IsMarked}
use Rattle.loop_graph.proofs.Scanned.{IsScanned, runs-many, scan-inputs, scan-preds, scan-run, scan-start, stops-run}
use Rattle.loop_graph.proofs.predecessors.gathered.Goals as goal

pub returns-then-instances-known-gt-VERTICES : goal.returns-then-instances-known-gt-VERTICES
returns-then-instances-known-gt-VERTICES c = λ parameters listed.
    stops-run (meaning c.args.program.now) parameters c.args.runs.now listed c.loop-place.place c.index-runs-place.result (length c.args.runs.now) c.loop-place.known c.predecessors_of.new.known
    c.loop-place.preds.items c.in_ok-predecessors_of.field-0 c.loop-place-test.true c.index-runs-place.is refl (c.loop-place.invariant.scanned parameters listed)
    (λ writer before known. c.in_ok-predecessors_of.ensures.preceded writer before known) c.if-instances-known-gt-VERTICES.true

pub loop-place-preserved : goal.loop-place-preserved
loop-place-preserved c = record {
  few = omega (arith, c.if-instances-known-gt-VERTICES.false, c.in_ok-before.ensures.inputs);
  scanned = λ parameters listed. subst (λ (l : List (Vec ℕ Global)). IsScanned (meaning c.args.program.now) parameters (c.loop-place.place + 1) c.write.new.self l) (sym c.in_ok-push.ensures.items)
      (scan-run (meaning c.args.program.now) parameters c.args.runs.now listed c.loop-place.place c.index-runs-place.result (length c.args.runs.now) c.loop-place.known c.predecessors_of.new.known c.write.new.self
      c.loop-place.preds.items c.in_ok-predecessors_of.field-0 c.written_by.result c.loop-place-test.true c.index-runs-place.is refl (c.loop-place.invariant.scanned parameters listed)
      (λ writer before known. c.in_ok-predecessors_of.ensures.preceded writer before known) c.written_by.ensures c.in_ok-before.ensures.puts c.in_ok-before.ensures.inputs);
  marked = λ parameters listed. mark-run (meaning c.args.program.now) parameters c.args.runs.now listed c.loop-place.place c.index-runs-place.result (length c.args.runs.now) c.loop-place.known c.predecessors_of.new.known
      c.loop-place.preds.items c.in_ok-predecessors_of.field-0 c.written_by.result c.loop-place.last.items c.unmark.new.last.items c.in_ok-before.before c.loop-place-test.true c.index-runs-place.is refl
      (c.loop-place.invariant.scanned parameters listed) (λ writer before known. c.in_ok-predecessors_of.ensures.preceded writer before known) c.written_by.ensures c.in_ok-before.ensures.before c.unmark.ensures
      (c.loop-place.invariant.marked parameters listed);
}

pub loop-place-init : goal.loop-place-init
loop-place-init c = record {
  few = omega (arith, c.requires.few, c.new-known.ensures.zero_inputs);
  scanned = λ parameters listed. scan-start (meaning c.args.program.now) parameters c.new-known.result c.new-preds.result.items c.new-known.ensures c.new-preds.ensures.items;
  marked = λ parameters listed. start-marked (meaning c.args.program.now) parameters (length c.args.runs.now) c.in_ok-last.last.items (c.in_ok-last.ensures.items_if_clones_equal (λ y e. e))
      (runs-many (meaning c.args.program.now) parameters c.args.runs.now listed);
}

pub returns : goal.returns
returns c = λ parameters listed.
    let many : length c.args.runs.now ≡ length (execution (meaning c.args.program.now) parameters) = runs-many (meaning c.args.program.now) parameters c.args.runs.now listed in
    let end : c.loop-place.place ≡ length (execution (meaning c.args.program.now) parameters) = omega (arith, many, c.loop-place-test.false, c.loop-place.auto.place-end) in
    let scanned : IsScanned (meaning c.args.program.now) parameters c.loop-place.place c.loop-place.known c.loop-place.preds.items = c.loop-place.invariant.scanned parameters listed in
    let inputs : c.loop-place.known.inputs ≡ (computation_graph (meaning c.args.program.now) parameters).inputs = scan-inputs (meaning c.args.program.now) parameters c.loop-place.place c.loop-place.known c.loop-place.preds.items end scanned in record {
      few = omega (arith, c.loop-place.invariant.few, many, inputs);
      inputs = inputs;
      predecessors = scan-preds (meaning c.args.program.now) parameters c.loop-place.place c.loop-place.known c.loop-place.preds.items end scanned;
      last_writers = last-marked (meaning c.args.program.now) parameters c.loop-place.last.items
          (subst (λ (n : ℕ). IsMarked (meaning c.args.program.now) parameters n c.loop-place.last.items) end (c.loop-place.invariant.marked parameters listed));
    }
