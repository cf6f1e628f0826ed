use Rattle.std.proofs.Common.{◌≡◌, sym, ◌∙◌, ap, ℕ, List, Bool, true, false, ◌∷◌, [], ◌||◌, ◌+◌, ◌<◌, length, map, drop, get_or}
use Rattle.std.specs.List.{list_any}
use Rattle.std.proofs.lemmas.List.{drop_more}
use Rattle.iolb_model.specs.Execution.{Instance as ModelInstance}
use Rattle.iolb_model.specs.Source.{Cell as ModelCell, same_cell, written_cell}
use Rattle.plain_graph.specs.declared.runs.Instance.{Instance}
use Rattle.plain_graph.specs.Views.{cell_view, instance_of, program_with}
use Rattle.plain_graph.proofs.graphs.some_writes.Goals as goal

-- what holds of one of the instances from a place on is told by the one there and those behind it
told-there : (p : ModelInstance → Bool) (runs : List Instance) (k : ℕ) (run : Instance) (told : Bool) → k < length runs → run ≡ get_or runs k run → p (instance_of run) ≡ told
    → list_any p (map instance_of (drop k runs)) ≡ (told || list_any p (map instance_of (drop (k + 1) runs)))
told-there p runs k run told below is there =
    ap (λ (l : List Instance). list_any p (map instance_of l)) (drop_more runs k run below ∙ ap (λ (r : Instance). r ∷ drop (k + 1) runs) (sym is))
    ∙ ap (λ (b : Bool). b || list_any p (map instance_of (drop (k + 1) runs))) there

pub loop-k-preserved : goal.loop-k-preserved
loop-k-preserved c =
    let cell = cell_view c.args.cell.now in
    let there = ap (λ (w : ModelCell). same_cell w cell) (sym c.in_ok-written.ensures) ∙ sym c.same.ensures ∙ c.if-same.false in
    sym (told-there (λ later. same_cell (written_cell (program_with c.args.statements.now []) c.args.parameters.now later) cell) c.args.runs.now c.loop-k.k c.index-runs-k.result false c.loop-k-test.true c.index-runs-k.is there)
    ∙ c.loop-k.invariant

pub returns-then-same : goal.returns-then-same
returns-then-same c =
    let cell = cell_view c.args.cell.now in
    let there = ap (λ (w : ModelCell). same_cell w cell) (sym c.in_ok-written.ensures) ∙ sym c.same.ensures ∙ c.if-same.true in
    sym (told-there (λ later. same_cell (written_cell (program_with c.args.statements.now []) c.args.parameters.now later) cell) c.args.runs.now c.loop-k.k c.index-runs-k.result true c.loop-k-test.true c.index-runs-k.is there)
    ∙ c.loop-k.invariant
