use Rattle.std.proofs.Common.{◌≡◌, ◌<◌, ℕ, refl, subst, ap, ◌∙◌, arith, to_z, of_z}
use mir.Syntax.{w128}
use Rattle.std.proofs.lemmas.Int.{to_z-of_z, fits_signed_from_abs}
use Rattle.std.specs.Prelude.{ℤ, unsigned_abs}
use Rattle.std.proofs.lemmas.Bool.{lt-ltb}
use Rattle.poly_tree.specs.Terms.{terms_of, terms_size, IsNoGreater, IsTermsOver}
use Rattle.certificate_parts.specs.Polynomials.{reads_polynomial}
use Rattle.certificate_parts.proofs.polynomials.OfPolynomialPart.read.Goals as goal
use Rattle.iolb_model.specs.declared.limits.TheConstants.{COEFFICIENT_SIZE, MEASURE}

pub returns-in-Ok : goal.returns-in-Ok
unfolding reads_polynomial
returns-in-Ok c =
    let terms = c.in_ok-den.terms.items in
    let den : ℕ = c.in_ok-den.den in
    let z : ℤ = to_z w128 (of_z w128 c.from.result) in
    let small : unsigned_abs c.from.result < COEFFICIENT_SIZE = rw c.from.ensures (omega (arith, c.in_ok-den.ensures.small)) in
    let bits : z ≡ c.from.result = to_z-of_z w128 c.from.result (fits_signed_from_abs w128 c.from.result (omega (arith, small))) in
    let over : unsigned_abs z ≡ den = ap unsigned_abs (bits ∙ c.from.ensures) in
    let narrow : terms_size (terms_of terms) den < MEASURE =
    subst (λ (n : ℕ). terms_size (terms_of terms) n < MEASURE) over
    (subst (λ ts. terms_size (terms_of ts) (unsigned_abs z) < MEASURE) c.as_slice.ensures.value (c.in-Ok.ensures.narrow refl)) in
    let value : IsTermsOver (terms_of terms) den c.in-Ok.poly =
    subst (λ (n : ℕ). IsTermsOver (terms_of terms) n c.in-Ok.poly) over
    (subst (λ ts. IsTermsOver (terms_of ts) (unsigned_abs z) c.in-Ok.poly) c.as_slice.ensures.value c.in-Ok.ensures.value) in
    let within : IsNoGreater (terms_of terms) den c.in-Ok.poly =
    subst (λ (n : ℕ). IsNoGreater (terms_of terms) n c.in-Ok.poly) over
    (subst (λ ts. IsNoGreater (terms_of ts) (unsigned_abs z) c.in-Ok.poly) c.as_slice.ensures.value c.in-Ok.ensures.within) in
    (record { terms = terms_of terms; denominator = den }, rw (c.in_ok-den.ensures.read, lt-ltb _ _ narrow) refl, record { value = value; legal = c.in-Ok.ensures.legal; within = within })
