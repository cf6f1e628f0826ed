use Rattle.std.proofs.Common.{◌≡◌, ◌∙◌, ap, sym, subst, ℕ, ◌+◌, ◌-◌, List, get_or, length, take, drop, arith}
use Rattle.std.proofs.lemmas.List.{length-drop, length-take-le, take_all}
use Rattle.base_laws.proofs.Lists.{All-append}
use Rattle.iolb_model.specs.Form.{AffineForm}
use Rattle.affine_form.specs.Form.{variables}
use Rattle.affine_form.specs.Rows.{guard_rows}
use Rattle.affine_form.specs.System.{AllOver}
use Rattle.affine_form.proofs.RowLemmas.{guard_rows-over}
use Rattle.affine_program.specs.declared.statement.Statement.{Statement}
use Rattle.affine_program.specs.Domain.{depth_of}
use Rattle.affine_program.specs.Parts.{meaning}
use Rattle.affine_program.proofs.Bounds.{bounds-read, guards-read, read-fit, read-guards, limits-at}
use Rattle.affine_program.proofs.Domains.{rows-are, length-domain_rows}
use Rattle.affine_program.proofs.program.Program.domain_rows.Goals as goal

-- what stands behind the first of a list, taken whole
rest : (point : List AffineForm) (p : ℕ) → take (length point - p) (drop p point) ≡ drop p point
rest point p = take_all (length point - p) (drop p point) (omega (arith, length-drop p point))

-- how many stand in front and behind
front-many : (point : List AffineForm) (p d : ℕ) → length point ≡ p + d → length (take p point) ≡ p
front-many point p d e = length-take-le p point (omega arith)

rest-many : (point : List AffineForm) (p d : ℕ) → length point ≡ p + d → length (take (length point - p) (drop p point)) ≡ d
rest-many point p d e = ap length (rest point p) ∙ length-drop p point ∙ omega arith

pub within_rows-requires-clause-one_each : goal.within_rows-requires-clause-one_each
within_rows-requires-clause-one_each c =
    let bounds = bounds-read c.args.self.now c.statements.result.now c.args.statement c.index-statements-from.result c.as_slice-bounds.result.now c.statements.ensures.kept c.statements.ensures.statements c.requires.there
    (simp c.from.ensures at c.index-statements-from.is) c.as_slice-bounds.ensures.value in
    rest-many c.args.point.now (length c.params-params.result.now) (depth_of (meaning c.args.self.now) c.args.statement)
    (c.requires.one_each ∙ ap (λ (n : ℕ). n + depth_of (meaning c.args.self.now) c.args.statement) (sym (ap length c.params-params.ensures.params)))
    ∙ ap length bounds

pub within_rows-requires-clause-few_forms : goal.within_rows-requires-clause-few_forms
within_rows-requires-clause-few_forms c =
    let bounds = bounds-read c.args.self.now c.statements.result.now c.args.statement c.index-statements-from.result c.as_slice-bounds.result.now c.statements.ensures.kept c.statements.ensures.statements c.requires.there
    (simp c.from.ensures at c.index-statements-from.is) c.as_slice-bounds.ensures.value in
    let each = (c.requires.one_each ∙ ap (λ (n : ℕ). n + depth_of (meaning c.args.self.now) c.args.statement) (sym (ap length c.params-params.ensures.params))) in
    let depth = (limits-at c.args.self.now c.args.statement c.index-statements-from.result c.statements.ensures.kept c.requires.there
    (subst (λ (xs : List Statement). c.index-statements-from.result ≡ get_or xs c.args.statement c.index-statements-from.result) c.statements.ensures.statements (simp c.from.ensures at c.index-statements-from.is))).depth in
    omega (
      arith,
      front-many c.args.point.now (length c.params-params.result.now) (depth_of (meaning c.args.self.now) c.args.statement) each,
      rest-many c.args.point.now (length c.params-params.result.now) (depth_of (meaning c.args.self.now) c.args.statement) each,
      ap length bounds,
      ap length c.as_slice-bounds.ensures.value,
      ap length c.params-params.ensures.params,
      c.statements.ensures.kept.limits.parameters,
      depth,
    )

pub within_rows-requires-clause-bounds_fit : goal.within_rows-requires-clause-bounds_fit
within_rows-requires-clause-bounds_fit c =
    read-fit c.args.self.now c.statements.result.now c.params-params.result.now c.args.statement (length (take (length c.params-params.result.now) c.args.point.now)) c.index-statements-from.result c.as_slice-bounds.result.now
    c.statements.ensures.kept c.statements.ensures.statements c.params-params.ensures.params c.requires.there (simp c.from.ensures at c.index-statements-from.is) c.as_slice-bounds.ensures.value
    (front-many c.args.point.now (length c.params-params.result.now) (depth_of (meaning c.args.self.now) c.args.statement)
    (c.requires.one_each ∙ ap (λ (n : ℕ). n + depth_of (meaning c.args.self.now) c.args.statement) (sym (ap length c.params-params.ensures.params))))

pub push_guards-requires-clause-few_forms : goal.push_guards-requires-clause-few_forms
push_guards-requires-clause-few_forms c =
    let bounds = bounds-read c.args.self.now c.statements.result.now c.args.statement c.index-statements-from.result c.as_slice-bounds.result.now c.statements.ensures.kept c.statements.ensures.statements c.requires.there
    (simp c.from.ensures at c.index-statements-from.is) c.as_slice-bounds.ensures.value in
    let depth = (limits-at c.args.self.now c.args.statement c.index-statements-from.result c.statements.ensures.kept c.requires.there
    (subst (λ (xs : List Statement). c.index-statements-from.result ≡ get_or xs c.args.statement c.index-statements-from.result) c.statements.ensures.statements (simp c.from.ensures at c.index-statements-from.is))).depth in
    omega (arith, c.requires.one_each, ap length bounds, ap length c.as_slice-bounds.ensures.value, c.statements.ensures.kept.limits.parameters, depth)

pub push_guards-requires-clause-guards_over : goal.push_guards-requires-clause-guards_over
push_guards-requires-clause-guards_over c =
    let bounds = bounds-read c.args.self.now c.statements.result.now c.args.statement c.index-statements-from.result c.as_slice-bounds.result.now c.statements.ensures.kept c.statements.ensures.statements c.requires.there
    (simp c.from.ensures at c.index-statements-from.is) c.as_slice-bounds.ensures.value in
    read-guards c.args.self.now c.statements.result.now c.args.statement (length c.args.point.now) c.index-statements-from.result c.as_slice.result.now c.statements.ensures.kept c.statements.ensures.statements c.requires.there
    (simp c.from.ensures at c.index-statements-from.is) c.as_slice.ensures.value (c.requires.one_each ∙ ap (λ (n : ℕ). length c.args.self.now.params + n) (ap length bounds ∙ ap length c.as_slice-bounds.ensures.value))

pub returns-clause-rows : goal.returns-clause-rows
returns-clause-rows c =
    let bounds = bounds-read c.args.self.now c.statements.result.now c.args.statement c.index-statements-from.result c.as_slice-bounds.result.now c.statements.ensures.kept c.statements.ensures.statements c.requires.there
    (simp c.from.ensures at c.index-statements-from.is) c.as_slice-bounds.ensures.value in
    let guards = guards-read c.args.self.now c.statements.result.now c.args.statement c.index-statements-from.result c.as_slice.result.now c.statements.ensures.kept c.statements.ensures.statements c.requires.there
    (simp c.from.ensures at c.index-statements-from.is) c.as_slice.ensures.value in
    rows-are (meaning c.args.self.now) c.args.statement c.args.vars (length c.params-params.result.now) c.as_slice-bounds.result.now c.as_slice.result.now c.args.point.now
    (take (length c.args.point.now - length c.params-params.result.now) (drop (length c.params-params.result.now) c.args.point.now)) c.in_ok-rows.rows.items c.push_guards.new.rows.items
    bounds guards (ap length c.params-params.ensures.params) (rest c.args.point.now (length c.params-params.result.now)) c.in_ok-rows.ensures.rows c.in_ok-push_guards.ensures

pub returns-clause-many : goal.returns-clause-many
returns-clause-many c =
    let bounds = bounds-read c.args.self.now c.statements.result.now c.args.statement c.index-statements-from.result c.as_slice-bounds.result.now c.statements.ensures.kept c.statements.ensures.statements c.requires.there
    (simp c.from.ensures at c.index-statements-from.is) c.as_slice-bounds.ensures.value in
    let guards = guards-read c.args.self.now c.statements.result.now c.args.statement c.index-statements-from.result c.as_slice.result.now c.statements.ensures.kept c.statements.ensures.statements c.requires.there
    (simp c.from.ensures at c.index-statements-from.is) c.as_slice.ensures.value in
    let params : ℕ = length c.args.self.now.params in
    ap length
    (rows-are (meaning c.args.self.now) c.args.statement c.args.vars (length c.params-params.result.now) c.as_slice-bounds.result.now c.as_slice.result.now c.args.point.now
    (take (length c.args.point.now - length c.params-params.result.now) (drop (length c.params-params.result.now) c.args.point.now)) c.in_ok-rows.rows.items c.push_guards.new.rows.items
    bounds guards (ap length c.params-params.ensures.params) (rest c.args.point.now (length c.params-params.result.now)) c.in_ok-rows.ensures.rows c.in_ok-push_guards.ensures)
    ∙ length-domain_rows (meaning c.args.self.now) c.args.statement c.args.vars (take params c.args.point.now) (drop params c.args.point.now)
    (length-drop params c.args.point.now ∙ omega (arith, c.requires.one_each))

pub returns-clause-over : goal.returns-clause-over
returns-clause-over c =
    let bounds = bounds-read c.args.self.now c.statements.result.now c.args.statement c.index-statements-from.result c.as_slice-bounds.result.now c.statements.ensures.kept c.statements.ensures.statements c.requires.there
    (simp c.from.ensures at c.index-statements-from.is) c.as_slice-bounds.ensures.value in
    let over = (read-guards c.args.self.now c.statements.result.now c.args.statement (length c.args.point.now) c.index-statements-from.result c.as_slice.result.now c.statements.ensures.kept c.statements.ensures.statements c.requires.there
    (simp c.from.ensures at c.index-statements-from.is) c.as_slice.ensures.value (c.requires.one_each ∙ ap (λ (n : ℕ). length c.args.self.now.params + n) (ap length bounds ∙ ap length c.as_slice-bounds.ensures.value))) in
    subst (AllOver c.args.vars) (sym c.in_ok-push_guards.ensures)
    (All-append (λ (row : AffineForm). variables row ≡ c.args.vars) c.in_ok-rows.rows.items (guard_rows c.args.vars c.as_slice.result.now c.args.point.now) c.in_ok-rows.ensures.over
    (guard_rows-over c.args.vars c.as_slice.result.now c.args.point.now c.requires.point_over over))
