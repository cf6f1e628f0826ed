use Rattle.std.proofs.Common.{◌≡◌, sym, ◌∙◌, ap, subst, ℕ, List, length, map, get_or}
use Rattle.std.specs.Prelude.{ℤ, IfOk}
use Rattle.std.specs.List.{AllByRecursion}
use Rattle.iolb_model.specs.Source.{Cell, cell_of}
use Rattle.affine_program.specs.declared.reference.Reference.{Reference}
use Rattle.affine_program.specs.declared.statement.Statement.{Statement}
use Rattle.affine_program.specs.Parts.{access_of, meaning}
use Rattle.loop_graph.specs.Runs.{run_of}
use Rattle.loop_graph.specs.Cells.{Fits, cells_read}
use Rattle.loop_graph.specs.Known.{ArePreceded, source_by}
use Rattle.loop_graph.proofs.References.{read-fit, read-cells}
use Rattle.loop_graph.proofs.predecessors.predecessors_of.Goals as goal

pub read_all-requires-clause-fit : goal.read_all-requires-clause-fit
read_all-requires-clause-fit c =
    subst (λ (references : List Reference). AllByRecursion (Fits (length c.as_slice-2.result.now)) references) (sym c.as_slice.ensures.value)
    (subst (λ (point : List ℤ). AllByRecursion (Fits (length point)) c.index-statements-from.result.reads.items) (sym c.as_slice-2.ensures.value)
    (read-fit c.args.program.now c.args.run.now c.index-statements-from.result c.statements.ensures.kept c.requires.run
    (c.index-statements-from.is ∙ ap (λ (n : ℕ). get_or c.statements.result.now n c.index-statements-from.result) c.from.ensures
    ∙ ap (λ (table : List Statement). get_or table c.args.run.now.statement c.index-statements-from.result) c.statements.ensures.statements)))

pub returns-clause-preceded : goal.returns-clause-preceded
returns-clause-preceded c = λ writer before met.
    let read = c.index-statements-from.is ∙ ap (λ (n : ℕ). get_or c.statements.result.now n c.index-statements-from.result) c.from.ensures
    ∙ ap (λ (table : List Statement). get_or table c.args.run.now.statement c.index-statements-from.result) c.statements.ensures.statements in
    let cells : map (λ (reference : Reference). cell_of (access_of reference) c.as_slice-2.result.now) c.as_slice.result.now ≡ cells_read (meaning c.args.program.now) (run_of c.args.run.now) =
    ap (λ (references : List Reference). map (λ reference. cell_of (access_of reference) c.as_slice-2.result.now) references) c.as_slice.ensures.value
    ∙ ap (λ (point : List ℤ). map (λ reference. cell_of (access_of reference) point) c.index-statements-from.result.reads.items) c.as_slice-2.ensures.value
    ∙ read-cells c.args.program.now c.args.run.now c.index-statements-from.result c.statements.ensures.kept c.requires.run read in
    subst (λ (l : List Cell). IfOk c.read_all.result (λ preds. ArePreceded c.args.instances writer before (map (source_by writer) l) c.read_all.new.self preds.items)) cells
    (c.read_all.ensures.preceded writer before met)
