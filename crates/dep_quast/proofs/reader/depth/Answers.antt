use Rattle.std.proofs.Common.{ap, arith, sym, ◌∙◌, length}
use Rattle.affine_program.specs.declared.statement.Statement.{Statement}
use Rattle.dep_quast.proofs.Fits.{depth-read, depth-few}
use Rattle.dep_quast.proofs.reader.depth.Goals as goal

pub returns-clause-depth : goal.returns-clause-depth
returns-clause-depth c =
    depth-read c.args.program.now c.statements.result.now c.args.statement c.from.result (length c.as_slice.result.now) c.index-statements-from.result c.statements.ensures.kept
    c.statements.ensures.statements c.requires c.from.ensures c.index-statements-from.is
    (ap length c.as_slice.ensures.value ∙ ap (λ (s : Statement). length s.bounds.items) (sym c.index-statements-from.is))

pub returns-clause-few : goal.returns-clause-few
returns-clause-few c =
    omega (arith, returns-clause-depth c, depth-few c.args.program.now c.statements.ensures.kept c.args.statement c.requires)
