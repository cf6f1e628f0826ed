use Rattle.std.specs.Prelude.{codes}
use Rattle.std.proofs.Common.{◌≡◌, sym, ◌∙◌, ap, subst, rules, ℕ, List, length, take}
use Rattle.iolb_model.specs.Form.{AffineForm}
use Rattle.affine_form.specs.Rows.{BoundsFit}
use Rattle.affine_program.specs.Parts.{meaning}
use Rattle.claims.specs.Claims.{Claim, AllHold, IsRefusal}
use Rattle.claims.proofs.Found.{refused-first, refused-later}
use Rattle.claims.proofs.Laws.{AllHold-append}
use Rattle.domain_count.specs.Count.{IsSumFrom}
use Rattle.domain_count.specs.CountClaims.{count_claims, sums_claims}
use Rattle.domain_count.proofs.Front.{BoundsFit-take}
use Rattle.poly_tree.specs.Poly.{Quotient}
use Rattle.wavefront.specs.FrontClaims.{front_counts}
use Rattle.wavefront.specs.FrontTerm.{outer_nest}
use Rattle.wavefront.specs.View.{front_of}
use Rattle.wavefront.proofs.front_checker.counted.Goals as goal

pub returns-in_err-pairs-clause-refused : goal.returns-in_err-pairs-clause-refused
returns-in_err-pairs-clause-refused c =
    let program = meaning c.args.program.now in
    let place = c.args.place.now in
    let term = front_of c.args.term.now in
    let refused : IsRefusal (front_counts program place term) c.in_err-pairs.field-0.0 =
    refused-first (count_claims program term.nest term.count place) (sums_claims program (outer_nest term) term.outer_sums place (codes "outer_sums")) c.in_err-pairs.field-0.0 c.in_err-pairs.ensures.refused in
    search rules

pub check_sums-requires-clause-fit : goal.check_sums-requires-clause-fit
check_sums-requires-clause-fit c =
    BoundsFit-take (length c.args.program.now.params) c.from.result c.bounds.result.now (subst (BoundsFit (length c.args.program.now.params)) (sym c.bounds.ensures) c.requires.count.bounds)

pub returns-in_err-outer-clause-refused : goal.returns-in_err-outer-clause-refused
returns-in_err-outer-clause-refused c =
    let program = meaning c.args.program.now in
    let place = c.args.place.now in
    let term = front_of c.args.term.now in
    let is : sums_claims program (take c.from.result c.bounds.result.now) c.as_slice-sums.result.now place (codes "outer_sums") ≡ sums_claims program (outer_nest term) term.outer_sums place (codes "outer_sums") =
    ap (λ (n : ℕ). sums_claims program (take n c.bounds.result.now) c.as_slice-sums.result.now place (codes "outer_sums")) c.from.ensures
    ∙ ap (λ (nest : List (AffineForm × AffineForm)). sums_claims program (take term.outer nest) c.as_slice-sums.result.now place (codes "outer_sums")) c.bounds.ensures
    ∙ ap (λ (sums : List Quotient). sums_claims program (outer_nest term) sums place (codes "outer_sums")) c.as_slice-sums.ensures.value in
    let refused : IsRefusal (front_counts program place term) c.in_err-outer.field-0.0 =
    refused-later (count_claims program term.nest term.count place) (sums_claims program (outer_nest term) term.outer_sums place (codes "outer_sums")) c.in_err-outer.field-0.0 c.in_ok-pairs.ensures.holds
    (subst (λ (cs : List Claim). IsRefusal cs c.in_err-outer.field-0.0) is c.in_err-outer.ensures.refused) in
    search rules

pub returns-clause-holds : goal.returns-clause-holds
returns-clause-holds c =
    let program = meaning c.args.program.now in
    let place = c.args.place.now in
    let term = front_of c.args.term.now in
    let is : sums_claims program (take c.from.result c.bounds.result.now) c.as_slice-sums.result.now place (codes "outer_sums") ≡ sums_claims program (outer_nest term) term.outer_sums place (codes "outer_sums") =
    ap (λ (n : ℕ). sums_claims program (take n c.bounds.result.now) c.as_slice-sums.result.now place (codes "outer_sums")) c.from.ensures
    ∙ ap (λ (nest : List (AffineForm × AffineForm)). sums_claims program (take term.outer nest) c.as_slice-sums.result.now place (codes "outer_sums")) c.bounds.ensures
    ∙ ap (λ (sums : List Quotient). sums_claims program (outer_nest term) sums place (codes "outer_sums")) c.as_slice-sums.ensures.value in
    AllHold-append (count_claims program term.nest term.count place) (sums_claims program (outer_nest term) term.outer_sums place (codes "outer_sums")) c.in_ok-pairs.ensures.holds
    (subst AllHold is c.in_ok-outer.ensures.holds)

pub returns-clause-outer_counts : goal.returns-clause-outer_counts
returns-clause-outer_counts c =
    let params : ℕ = length c.args.program.now.params in
    let term = front_of c.args.term.now in
    let sums : IsSumFrom params (outer_nest term) term.outer_sums c.in_ok-outer.outer =
    subst (λ (n : ℕ). IsSumFrom params (take n term.nest) term.outer_sums c.in_ok-outer.outer) c.from.ensures
    (subst (λ (nest : List (AffineForm × AffineForm)). IsSumFrom params (take c.from.result nest) term.outer_sums c.in_ok-outer.outer) c.bounds.ensures
    (subst (λ (qs : List Quotient). IsSumFrom params (take c.from.result c.bounds.result.now) qs c.in_ok-outer.outer) c.as_slice-sums.ensures.value c.in_ok-outer.ensures.total)) in
    c.first_variables_are_counted.ensures (meaning c.args.program.now) term.outer term.nest term.count.shown term.outer_sums c.in_ok-outer.outer
    c.params-params.ensures.kept.well_formed c.requires.count.bounds c.requires.fits.parts.outer c.in_ok-pairs.ensures.right.shown sums
