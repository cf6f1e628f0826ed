use Rattle.std.proofs.Common.{◌≡◌, List, length, Ok, ◌++◌, ◌∷◌, [], sym, ap, ◌∙◌, subst, refl, arith, to_z, of_z}
use Rattle.std.specs.Prelude.{ℤ}
use Rattle.std.specs.List.{AllByRecursion}
use Rattle.std.proofs.lemmas.Int.{to_z-of_z, fits_signed_from_abs}
use Rattle.std.proofs.lemmas.List.{length-append}
use mir.Syntax.{w128}
use Rattle.affine_form.specs.Form.{IsSmall}
use Rattle.certificate_parts.specs.Forms.{reads_form, form_in}
use Rattle.certificate_parts.proofs.FormNumbers.{form_in-last, all_last, small_more}
use Rattle.certificate_parts.proofs.forms.OfFormPart.read.Goals as goal
use Rattle.iolb_model.specs.declared.limits.TheConstants.{NUMBER_SIZE}

small : (all front : List ℤ) (last : ℤ) → all ≡ front ++ last ∷ [] → AllByRecursion (IsSmall NUMBER_SIZE) all → AllByRecursion (IsSmall NUMBER_SIZE) front × IsSmall NUMBER_SIZE last
small all front last e h = all_last (IsSmall NUMBER_SIZE) front last (subst (AllByRecursion (IsSmall NUMBER_SIZE)) e h)

bits : (z : ℤ) → IsSmall NUMBER_SIZE z → to_z w128 (of_z w128 z) ≡ z
bits z h = to_z-of_z w128 z (fits_signed_from_abs w128 z (omega (arith, h)))

pub new-requires-clause-few : goal.new-requires-clause-few
new-requires-clause-few c =
    omega (arith, ap length c.in-Some.ensures.items, length-append c.pop.new.self.items (c.in-Some.constant ∷ []), c.in_ok-numbers.ensures.all, c.in_ok-values.ensures.few)

pub new-requires-clause-small : goal.new-requires-clause-small
new-requires-clause-small c = small_more c.pop.new.self.items (small c.in_ok-numbers.numbers.items c.pop.new.self.items c.in-Some.constant c.in-Some.ensures.items c.in_ok-numbers.ensures.small).0

pub new-requires-clause-small_constant : goal.new-requires-clause-small_constant
new-requires-clause-small_constant c =
    let s = small c.in_ok-numbers.numbers.items c.pop.new.self.items c.in-Some.constant c.in-Some.ensures.items c.in_ok-numbers.ensures.small in
    rw (bits c.in-Some.constant s.1) (omega (arith, s.1))

pub returns-in-Some : goal.returns-in-Some
unfolding reads_form
returns-in-Some c =
    let s = small c.in_ok-numbers.numbers.items c.pop.new.self.items c.in-Some.constant c.in-Some.ensures.items c.in_ok-numbers.ensures.small in
    let made : c.new.result ≡ record { coefficients = c.pop.new.self.items; constant = c.in-Some.constant } =
    c.new.ensures ∙ ap (λ (z : ℤ). record { coefficients = c.pop.new.self.items; constant = z }) (bits c.in-Some.constant s.1) in
    let given : form_in c.in_ok-numbers.numbers.items ≡ Ok c.new.result =
    ap form_in c.in-Some.ensures.items ∙ form_in-last c.pop.new.self.items c.in-Some.constant ∙ ap Ok (sym made) in
    (c.new.result, rw (c.in_ok-values.ensures.read, c.in_ok-numbers.ensures.read) given, refl)
