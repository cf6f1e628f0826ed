use Rattle.std.proofs.Common.{◌≡◌, length, ap, sym, ◌∙◌, arith}
use Rattle.affine_program.specs.Parts.{meaning}
use Rattle.affine_program.specs.Domain.{bounds_at}
use Rattle.affine_program.specs.declared.statement.Statement.{Statement}
use Rattle.affine_program.proofs.Bounds.{bounds-read}
use Rattle.tile_sched.proofs.reading.variables_of.Goals as goal

pub returns-clause-value : goal.returns-clause-value
returns-clause-value c =
    let bounds : bounds_at (meaning c.args.program.now) c.args.statement ≡ c.as_slice.result.now =
    bounds-read c.args.program.now c.statements.result.now c.args.statement c.index-statements-statement.result c.as_slice.result.now c.params-params.ensures.kept c.statements.ensures.statements
    c.requires c.index-statements-statement.is (c.as_slice.ensures.value ∙ ap (λ (s : Statement). s.bounds.items) (sym c.index-statements-statement.is)) in
    omega (arith, ap length bounds, ap length c.params-params.ensures.params)
