-- Reading the terms of a polynomial one after the other.
use Rattle.std.proofs.Common.{◌≡◌, ℕ, suc, ◌+◌, ◌<◌, ◌≤◌, Bool, true, false, bytes_eq, List, [], ◌∷◌, ◌++◌, length, drop, map, get_or, Ok, Err, refl, sym, ap, ◌∙◌, arith}
use Rattle.std.specs.Prelude.{◌&&◌, ◌==◌, not, ◌≢◌}
use Rattle.std.proofs.Math.ListN.{drop_of_length-le}
use Rattle.std.proofs.lemmas.List.{append-nil}
use Rattle.std.proofs.lemmas.Bool.{and_parts, eqb-true, false≢true}
use Rattle.std.proofs.lemmas.Slice.Eq.{bytes_eq-Decides}
use Rattle.std.specs.Bool.{Decides}
use Rattle.base_laws.proofs.Lists.{All-push}
use Rattle.iolb_model.specs.Polynomial.{Term}
use Rattle.claims.specs.declared.place.Step.TheVariants.{Index}
use Rattle.poly_tree.specs.Terms.{AreApart}
use Rattle.serde_json.specs.Data.{Data}
use Rattle.json_values.specs.View.{json_data}
use Rattle.json_values.specs.declared.value.Json.{Json}
use Rattle.json_parts.specs.declared.error.CertError.{CertError}
use Rattle.json_parts.specs.declared.error.CertError.TheVariants.{Fault, Memory}
use Rattle.json_parts.specs.Outcome.{Outcome, behind, Fails, IsUnder}
use Rattle.certificate_parts.specs.Polynomials.{reads_term_behind, terms_from, stands_apart}
use Rattle.json_parts.proofs.Loop.{with_front, regroup, next}

abbrev pub left : List Term → List Json → ℕ → Outcome (List Term)
left front values i = with_front front (terms_from i front (map json_data (drop i values)))

-- the loop goes on behind a term that was read
pub goes_on : (front : List Term) (values : List Json) (i : ℕ) (value : Json) (term : Term) (total : Outcome (List Term))
    → i < length values → value ≡ get_or values i value → reads_term_behind front (json_data value) ≡ Ok term
    → left front values i ≡ total → left (front ++ term ∷ []) values (i + 1) ≡ total
unfolding terms_from
goes_on front values i value term total lt is read so_far =
    let one : i + 1 ≡ suc i = omega arith in
    let step : left front values i ≡ left (front ++ term ∷ []) values (i + 1) =
    ap (λ (ds : List Data). with_front front (terms_from i front ds)) (next values i value lt is)
    ∙ rw (read, ← one) (regroup front term (terms_from (i + 1) (front ++ term ∷ []) (map json_data (drop (i + 1) values)))) in
    sym step ∙ so_far

-- it ends at a term that isn't read
pub ends : (front : List Term) (values : List Json) (i : ℕ) (value : Json) (e e' : CertError) (total : Outcome (List Term))
    → i < length values → value ≡ get_or values i value → Fails e (reads_term_behind front (json_data value)) → IsUnder (Index i) e e'
    → left front values i ≡ total → Fails e' total
unfolding terms_from
ends front values i value e Memory total lt is read seen so_far = tt
ends front values i value Memory (Fault g) total lt is read seen so_far = absurd seen
ends front values i value (Fault f) (Fault g) total lt is read seen so_far =
    let step : left front values i ≡ Err (behind (Index i) f) =
    ap (λ (ds : List Data). with_front front (terms_from i front ds)) (next values i value lt is) ∙ rw read refl in
    sym so_far ∙ step ∙ ap Err (sym seen)

-- it is done behind the last one
pub is_done : (front : List Term) (values : List Json) (i : ℕ) (total : Outcome (List Term)) → length values ≤ i → left front values i ≡ total → total ≡ Ok front
unfolding terms_from
is_done front values i total le so_far =
    let step : left front values i ≡ Ok front =
    ap (λ (vs : List Json). with_front front (terms_from i front (map json_data vs))) (drop_of_length-le values le) ∙ ap Ok (append-nil front) in
    sym so_far ∙ step

-- ---- terms that stand apart

others : (es fs : List ℕ) → not (bytes_eq es fs) ≡ true → fs ≢ es
others es fs e same = differs (bytes_eq es fs) (bytes_eq-Decides es fs) e (sym same) where
  differs : (b : Bool) → Decides b (es ≡ fs) → not b ≡ true → es ≡ fs → ⊥
  differs true d e same = absurd cc
  differs false d e same = absurd (false≢true (d.1 same))

-- a term that stands apart from all goes behind them
pub AreApart-push : (terms : List Term) (term : Term) → AreApart terms → stands_apart terms term.exponents ≡ true → AreApart (terms ++ term ∷ [])
AreApart-push [] term apart test = (tt, tt)
AreApart-push (first ∷ terms) term apart test =
    let A : Bool = length first.exponents == length term.exponents in
    let B : Bool = not (bytes_eq first.exponents term.exponents) in
    let C : Bool = stands_apart terms term.exponents in
    let all = and_parts (A && B) C test in
    let both = and_parts A B all.0 in
    let P : Term → Type 0 = λ later. (length later.exponents ≡ length first.exponents) × (later.exponents ≢ first.exponents) in
    (All-push P terms term apart.0 (sym (eqb-true _ _ both.0), others first.exponents term.exponents both.1), AreApart-push terms term apart.1 all.1)
