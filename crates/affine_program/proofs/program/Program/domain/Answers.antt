use Rattle.std.proofs.Common.{◌≡◌, ◌∙◌, ap, sym, subst, length, get_or, ℕ, ◌+◌, List, arith}
use Rattle.iolb_model.specs.Form.{AffineForm}
use Rattle.affine_program.specs.declared.statement.Statement.{Statement}
use Rattle.affine_program.specs.Parts.{meaning}
use Rattle.affine_program.proofs.Bounds.{bounds-are, guards-are, limits-at}
use Rattle.affine_program.proofs.Domains.{domain-is}
use Rattle.affine_program.proofs.program.Program.domain.Goals as goal

pub domain_rows-requires-clause-one_each : goal.domain_rows-requires-clause-one_each
domain_rows-requires-clause-one_each c =
    let read = subst (λ (xs : List Statement). c.index-statements-from.result ≡ get_or xs c.args.statement c.index-statements-from.result) c.statements.ensures.statements (simp c.from.ensures at c.index-statements-from.is) in
    let bounds = bounds-are c.args.self.now c.args.statement c.index-statements-from.result c.statements.ensures.kept c.requires read in
    omega (
      arith,
      ap length c.as_slice.ensures.value,
      c.in_ok-point.ensures.many,
      ap length (c.as_slice-bounds.ensures.value ∙ ap (λ (s : Statement). s.bounds.items) (sym c.index-statements-from.is)),
      ap length bounds,
      ap length c.params.ensures.params,
    )

pub system_of-requires-clause-few_rows : goal.system_of-requires-clause-few_rows
system_of-requires-clause-few_rows c =
    let read = subst (λ (xs : List Statement). c.index-statements-from.result ≡ get_or xs c.args.statement c.index-statements-from.result) c.statements.ensures.statements (simp c.from.ensures at c.index-statements-from.is) in
    let bounds = bounds-are c.args.self.now c.args.statement c.index-statements-from.result c.statements.ensures.kept c.requires read in
    let guards = guards-are c.args.self.now c.args.statement c.index-statements-from.result c.statements.ensures.kept c.requires read in
    let limits = limits-at c.args.self.now c.args.statement c.index-statements-from.result c.statements.ensures.kept c.requires read in
    omega (arith, ap length c.as_slice-2.ensures.value, c.in_ok-rows.ensures.many, ap length bounds, ap length guards, limits.depth, limits.guards)

pub returns : goal.returns
returns c =
    let read = subst (λ (xs : List Statement). c.index-statements-from.result ≡ get_or xs c.args.statement c.index-statements-from.result) c.statements.ensures.statements (simp c.from.ensures at c.index-statements-from.is) in
    let bounds = bounds-are c.args.self.now c.args.statement c.index-statements-from.result c.statements.ensures.kept c.requires read in
    let vars : ℕ = length c.params.result.now + length c.as_slice-bounds.result.now in
    domain-is (meaning c.args.self.now) c.args.statement vars c.as_slice.result.now c.in_ok-rows.rows.items c.in_ok-system.system
    (omega (
      arith,
      ap length (c.as_slice-bounds.ensures.value ∙ ap (λ (s : Statement). s.bounds.items) (sym c.index-statements-from.is)),
      ap length bounds,
      ap length c.params.ensures.params,
    ))
    (c.as_slice.ensures.value ∙ c.in_ok-point.ensures.forms) c.in_ok-rows.ensures.rows (c.in_ok-system.ensures ∙ ap (λ (rs : List AffineForm). record { vars = vars; rows = rs }) c.as_slice-2.ensures.value)
