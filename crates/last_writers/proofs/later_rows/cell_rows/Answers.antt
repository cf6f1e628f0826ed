use Rattle.std.proofs.Common.{◌≡◌, ◌≤◌, sym, subst, arith, ℕ, List}
use Rattle.std.specs.List.{AllByRecursion}
use Rattle.base_laws.proofs.Lists.{All-weaken}
use Rattle.iolb_model.specs.Form.{AffineForm}
use Rattle.affine_form.specs.Form.{variables}
use Rattle.affine_form.specs.Rows.{equality_rows}
use Rattle.affine_form.specs.System.{AllOver}
use Rattle.affine_form.proofs.RowLemmas.{equality_rows-over}
use Rattle.affine_program.specs.Parts.{meaning}
use Rattle.claims.proofs.Found.{IfOk-then}
use Rattle.store_terms.specs.Claims.{claim_of_output}
use Rattle.last_writers.specs.OutputClaims.{variables_with}
use Rattle.last_writers.proofs.later_rows.cell_rows.Goals as goal

-- forms over at most so many variables, also of what a slice holds
within : (few many : ℕ) (forms slice : List AffineForm) → few ≤ many → slice ≡ forms → AllByRecursion (λ (form : AffineForm). variables form ≤ few) forms
    → AllByRecursion (λ (form : AffineForm). variables form ≤ many) slice
within few many forms slice le e h =
    subst (AllByRecursion (λ (form : AffineForm). variables form ≤ many)) (sym e)
    (All-weaken (λ (form : AffineForm). variables form ≤ few) (λ (form : AffineForm). variables form ≤ many) forms (λ form less. omega (arith, less, le)) h)

pub equal_rows-requires-clause-one_within : goal.equal_rows-requires-clause-one_within
equal_rows-requires-clause-one_within c =
    within c.variables-first.result c.variables_beside-vars.result c.in_ok-here.here.items c.as_slice.result.now
    (omega (arith, c.variables-first.ensures.variables, c.variables_beside-vars.ensures.variables)) c.as_slice.ensures.value c.in_ok-here.ensures.within

pub returns-clause-over : goal.returns-clause-over
returns-clause-over c =
    let vars : ℕ = variables_with (meaning c.args.program.now) (claim_of_output c.args.output.now) c.args.writer in
    let many : ℕ = c.variables_beside-vars.result in
    let one : List AffineForm = c.as_slice.result.now in
    let other : List AffineForm = c.as_slice-2.result.now in
    let over : AllOver many (equality_rows many one other) =
    equality_rows-over many one other
    (within c.variables-first.result many c.in_ok-here.here.items one (omega (arith, c.variables-first.ensures.variables, c.variables_beside-vars.ensures.variables)) c.as_slice.ensures.value c.in_ok-here.ensures.within)
    (within many many c.in_ok-there.there.items other (omega arith) c.as_slice-2.ensures.value c.in_ok-there.ensures.within) in
    IfOk-then c.equal_rows.result (λ rows. rows.items ≡ equality_rows many one other) (λ rows. AllOver vars rows.items) c.equal_rows.ensures
    (λ rows e. subst (AllOver vars) (sym e) (subst (λ (n : ℕ). AllOver n (equality_rows many one other)) c.variables_beside-vars.ensures.variables over))
