use Rattle.std.proofs.Common.{sym, ◌∙◌, ap, subst, ℕ, List, length, get_or}
use Rattle.std.specs.Prelude.{ℤ}
use Rattle.std.specs.List.{AllByRecursion}
use Rattle.iolb_model.specs.Program.{IsOver}
use Rattle.affine_program.specs.declared.statement.Statement.{Statement}
use Rattle.loop_graph.proofs.References.{written-fits}
use Rattle.loop_graph.proofs.cells.written_by.Goals as goal

pub cell_at-requires-clause-over : goal.cell_at-requires-clause-over
cell_at-requires-clause-over c =
    subst (λ (point : List ℤ). AllByRecursion (IsOver (length point)) c.index-statements-from.result.writes.subs.items) (sym c.as_slice.ensures.value)
    (written-fits c.args.program.now c.args.run.now c.index-statements-from.result c.statements.ensures.kept c.requires
    (c.index-statements-from.is ∙ ap (λ (n : ℕ). get_or c.statements.result.now n c.index-statements-from.result) c.from.ensures
    ∙ ap (λ (table : List Statement). get_or table c.args.run.now.statement c.index-statements-from.result) c.statements.ensures.statements)).over

pub cell_at-requires-clause-few : goal.cell_at-requires-clause-few
cell_at-requires-clause-few c =
    (written-fits c.args.program.now c.args.run.now c.index-statements-from.result c.statements.ensures.kept c.requires
    (c.index-statements-from.is ∙ ap (λ (n : ℕ). get_or c.statements.result.now n c.index-statements-from.result) c.from.ensures
    ∙ ap (λ (table : List Statement). get_or table c.args.run.now.statement c.index-statements-from.result) c.statements.ensures.statements)).few
