use Rattle.std.proofs.Common.{◌≡◌, refl, sym, ◌∙◌, ap, ◌-◌, ◌<◌, ◌≤◌, ℕ, suc, Bool, false, List, [], map, length, get_or, if◌then◌else◌, arith}
use Rattle.std.specs.Prelude.{ℤ, Option, Some, slice_get, option_map}
use Rattle.std.specs.Option.{option_map_or}
use Rattle.std.proofs.lemmas.Option.{slice_get-map, slice_get_read}
use Rattle.iolb_model.specs.Program.{AffineProgram}
use Rattle.iolb_model.specs.Execution.{Instance as ModelInstance}
use Rattle.iolb_model.specs.Source.{Cell as ModelCell, same_cell, written_cell, writes_at, last_write_before}
use Rattle.plain_graph.specs.declared.runs.Instance.{Instance}
use Rattle.plain_graph.specs.Views.{cell_view, instance_of, program_with}
use Rattle.plain_graph.proofs.sources.last_writer_before.Goals as goal

-- an instance that doesn't write the cell is passed
passed : (program : AffineProgram) (parameters : List ℤ) (runs : List Instance) (cell written : ModelCell) (instance : Instance) (place : ℕ) → 0 < place → place ≤ length runs
    → instance ≡ get_or runs (place - 1) instance → written ≡ written_cell program parameters (instance_of instance) → same_cell written cell ≡ false
    → last_write_before program parameters (map instance_of runs) cell (place - 1) ≡ last_write_before program parameters (map instance_of runs) cell place
passed program parameters runs cell written instance place some within e f g =
    let below : place - 1 < length runs = omega (arith, some, within) in
    let more : suc (place - 1) ≡ place = omega (arith, some) in
    let there : slice_get (map instance_of runs) (place - 1) ≡ Some (instance_of instance) = slice_get-map instance_of runs (place - 1) ∙ ap (λ (o : Option Instance). option_map instance_of o) (slice_get_read runs (length runs) (place - 1) instance refl below e) in
    let no : writes_at program parameters (map instance_of runs) cell (place - 1) ≡ false =
    ap (λ (o : Option ModelInstance). option_map_or (λ (i : ModelInstance). same_cell (written_cell program parameters i) cell) o false) there
    ∙ ap (λ (w : ModelCell). same_cell w cell) (sym f) ∙ g in
    sym (ap (λ (b : Bool). if b then Some (place - 1) else last_write_before program parameters (map instance_of runs) cell (place - 1)) no)
    ∙ ap (last_write_before program parameters (map instance_of runs) cell) more

pub loop-k-preserved : goal.loop-k-preserved
loop-k-preserved c = record {
  within = omega (arith, c.loop-k.invariant.within);
  same = passed (program_with c.args.statements.now []) c.args.parameters.now c.args.runs.now (cell_view c.args.cell.now) (cell_view c.in_ok-written.written) c.index-runs-k.result c.loop-k.k
      (omega (arith, c.loop-k-test.true)) (omega (arith, c.loop-k.invariant.within, c.requires)) c.index-runs-k.is c.in_ok-written.ensures (sym c.same.ensures ∙ c.if-same.false) ∙ c.loop-k.invariant.same;
}
