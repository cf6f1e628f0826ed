use Rattle.std.proofs.Common.{◌≡◌, ap, subst, List, get_or, length, arith}
use Rattle.affine_program.specs.declared.statement.Statement.{Statement}
use Rattle.affine_program.proofs.Bounds.{bounds-read, guards-read, limits-at}
use Rattle.affine_program.proofs.program.Program.domain_size.Goals as goal

pub returns-clause-size : goal.returns-clause-size
returns-clause-size c =
    let at = simp c.from.ensures at c.index-statements-from.is in
    let bounds = bounds-read c.args.self.now c.statements.result.now c.args.statement c.index-statements-from.result c.as_slice.result.now c.statements.ensures.kept c.statements.ensures.statements c.requires at c.as_slice.ensures.value in
    let guards = guards-read c.args.self.now c.statements.result.now c.args.statement c.index-statements-from.result c.as_slice-2.result.now c.statements.ensures.kept c.statements.ensures.statements c.requires at c.as_slice-2.ensures.value in
    omega (arith, ap length bounds, ap length guards)

pub returns-clause-few : goal.returns-clause-few
returns-clause-few c =
    let limits = limits-at c.args.self.now c.args.statement c.index-statements-from.result c.statements.ensures.kept c.requires
    (subst (λ (xs : List Statement). c.index-statements-from.result ≡ get_or xs c.args.statement c.index-statements-from.result) c.statements.ensures.statements (simp c.from.ensures at c.index-statements-from.is)) in
    omega (arith, limits.depth, limits.guards, ap length c.as_slice.ensures.value, ap length c.as_slice-2.ensures.value)
