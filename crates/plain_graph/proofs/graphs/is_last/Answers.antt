use Rattle.std.proofs.Common.{◌≡◌, ◌∙◌, ap, sym, ◌+◌, ℕ, suc, not, List, [], map, drop, get_or, arith}
use Rattle.std.specs.List.{list_any}
use Rattle.std.proofs.lemmas.List.{get_or-map, drop-map}
use Rattle.iolb_model.specs.Execution.{Instance as ModelInstance}
use Rattle.iolb_model.specs.Source.{Cell as ModelCell, same_cell, written_cell}
use Rattle.plain_graph.specs.Views.{instance_of, cell_view, program_with, no_instance}
use Rattle.plain_graph.proofs.graphs.is_last.Goals as goal

pub returns : goal.returns
returns c =
    let written : ModelInstance → ModelCell = written_cell (program_with c.args.statements.now []) c.args.parameters.now in
    let there : instance_of c.index-runs-place.result ≡ get_or (map instance_of c.args.runs.now) c.args.place no_instance =
    ap instance_of c.index-runs-place.is ∙ sym (get_or-map instance_of c.args.runs.now c.args.place c.index-runs-place.result no_instance c.requires) in
    let cell : cell_view c.in_ok-cell.cell ≡ written (get_or (map instance_of c.args.runs.now) c.args.place no_instance) = c.in_ok-cell.ensures ∙ ap written there in
    let more : c.args.place + 1 ≡ suc c.args.place = omega (arith) in
    let later : map instance_of (drop (c.args.place + 1) c.args.runs.now) ≡ drop (suc c.args.place) (map instance_of c.args.runs.now) =
    sym (drop-map instance_of (c.args.place + 1) c.args.runs.now) ∙ ap (λ (n : ℕ). drop n (map instance_of c.args.runs.now)) more in
    ap not (c.in_ok-rewritten.ensures
    ∙ ap (λ (runs : List ModelInstance). list_any (λ (i : ModelInstance). same_cell (written i) (cell_view c.in_ok-cell.cell)) runs) later
    ∙ ap (λ (x : ModelCell). list_any (λ (i : ModelInstance). same_cell (written i) x) (drop (suc c.args.place) (map instance_of c.args.runs.now))) cell)
