use Rattle.std.proofs.Common.{◌≡◌, ◌∙◌, ap, sym, ℕ, Bool, List, [], map, length, Vec, Global}
use Rattle.std.specs.Prelude.{ℤ, flat_map, filter_map}
use Rattle.std.proofs.lemmas.List.{length-map}
use Rattle.iolb_model.specs.Program.{AffineProgram}
use Rattle.iolb_model.specs.Execution.{Instance as ModelInstance, execution}
use Rattle.iolb_model.specs.Source.{Cell as ModelCell, same_cell, sources_of}
use Rattle.iolb_model.specs.Graph.{ComputationGraph, distinct, placed, input_cell, input_cells, predecessors_of, is_last_writer, computation_graph}
use Rattle.plain_graph.specs.declared.runs.Instance.{Instance}
use Rattle.plain_graph.specs.declared.cells.Cell.{Cell}
use Rattle.plain_graph.specs.declared.sources.Source.{Source}
use Rattle.plain_graph.specs.Views.{instance_of, cell_view, source_view, program_with}
use Rattle.plain_graph.proofs.graphs.parts.Goals as goal

abbrev graph_of_lists : ℕ → ℕ → List (List ℕ) → List Bool → ComputationGraph
graph_of_lists instances inputs preds last = record { instances = instances; inputs = inputs; predecessors = preds; last_writers = last }

-- the parts of a graph make it
made : (program : AffineProgram) (parameters : List ℤ) (runs : List ModelInstance) (cells : List ModelCell) (instances inputs : ℕ) (preds : List (List ℕ)) (last : List Bool)
    → runs ≡ execution program parameters → cells ≡ distinct same_cell (filter_map input_cell (flat_map (sources_of program parameters runs) (placed runs)))
    → instances ≡ length runs → inputs ≡ length cells → preds ≡ map (predecessors_of program parameters runs cells) (placed runs) → last ≡ map (is_last_writer program parameters runs) (placed runs)
    → graph_of_lists instances inputs preds last ≡ computation_graph program parameters
made program parameters runs cells instances inputs preds last e f g h k l =
    let cells_are : cells ≡ input_cells program parameters = f ∙ ap (λ (r : List ModelInstance). distinct same_cell (filter_map input_cell (flat_map (sources_of program parameters r) (placed r)))) e in
    ap (λ (n : ℕ). graph_of_lists n inputs preds last) g
    ∙ ap (λ (n : ℕ). graph_of_lists (length runs) n preds last) h
    ∙ ap (λ (p : List (List ℕ)). graph_of_lists (length runs) (length cells) p last) k
    ∙ ap (graph_of_lists (length runs) (length cells) (map (predecessors_of program parameters runs cells) (placed runs))) l
    ∙ ap (λ (r : List ModelInstance). graph_of_lists (length r) (length cells) (map (predecessors_of program parameters r cells) (placed r)) (map (is_last_writer program parameters r) (placed r))) e
    ∙ ap (λ (s : List ModelCell). graph_of_lists (length (execution program parameters)) (length s) (map (predecessors_of program parameters (execution program parameters) s) (placed (execution program parameters))) (map (is_last_writer program parameters (execution program parameters)) (placed (execution program parameters)))) cells_are

abbrev items : Vec ℕ Global → List ℕ
items vertices = vertices.items

pub returns : goal.returns
returns c = made (program_with c.args.statements.now c.args.tree.now) c.args.parameters.now (map instance_of c.in_ok-runs.runs.items) (map cell_view c.in_ok-cells-2.cells.items)
    c.in_ok-instances.instances c.in_ok-inputs.inputs (map items c.in_ok-preds.preds.items) c.in_ok-last.last.items
    c.in_ok-runs.ensures
    (c.in_ok-cells-2.ensures ∙ ap (λ (cells : List Cell). distinct same_cell (map cell_view cells)) c.as_slice-3.ensures.value ∙ ap (distinct same_cell) (c.in_ok-cells.ensures
    ∙ ap (λ (sources : List Source). filter_map input_cell (map source_view sources)) c.as_slice-2.ensures.value ∙ ap (filter_map input_cell) (c.in_ok-sources.ensures
    ∙ ap (λ (runs : List Instance). flat_map (sources_of (program_with c.args.statements.now []) c.args.parameters.now (map instance_of runs)) (placed (map instance_of runs))) c.as_slice.ensures.value)))
    (c.in_ok-instances.ensures ∙ ap length c.as_slice-7.ensures.value ∙ sym (length-map c.in_ok-runs.runs.items instance_of))
    (c.in_ok-inputs.ensures ∙ ap length c.as_slice-8.ensures.value ∙ sym (length-map c.in_ok-cells-2.cells.items cell_view))
    (c.in_ok-preds.ensures
    ∙ ap (λ (runs : List Instance). map (predecessors_of (program_with c.args.statements.now []) c.args.parameters.now (map instance_of runs) (map cell_view c.as_slice-5.result.now)) (placed (map instance_of runs))) c.as_slice-4.ensures.value
    ∙ ap (λ (cells : List Cell). map (predecessors_of (program_with c.args.statements.now []) c.args.parameters.now (map instance_of c.in_ok-runs.runs.items) (map cell_view cells)) (placed (map instance_of c.in_ok-runs.runs.items))) c.as_slice-5.ensures.value)
    (c.in_ok-last.ensures ∙ ap (λ (runs : List Instance). map (is_last_writer (program_with c.args.statements.now []) c.args.parameters.now (map instance_of runs)) (placed (map instance_of runs))) c.as_slice-6.ensures.value)
