-- Reading the members of a list one after the other.
use Rattle.std.proofs.Common.{◌≡◌, ℕ, suc, ◌+◌, ◌<◌, ◌≤◌, List, [], ◌∷◌, ◌++◌, length, drop, map, get_or, Ok, Err, refl, sym, ap, ◌∙◌, append_assoc, arith}
use Rattle.std.proofs.Math.Seq.{drop-cons}
use Rattle.std.proofs.Math.ListN.{drop_of_length-le}
use Rattle.std.proofs.lemmas.List.{append-nil}
use Rattle.claims.specs.declared.place.Step.TheVariants.{Index}
use Rattle.serde_json.specs.Data.{Data}
use Rattle.json_values.specs.View.{json_data}
use Rattle.json_values.specs.declared.value.Json.{Json}
use Rattle.json_parts.specs.declared.error.CertError.{CertError}
use Rattle.json_parts.specs.declared.error.CertError.TheVariants.{Fault, Memory}
use Rattle.json_parts.specs.Outcome.{Outcome, ◌>>=◌, behind, Fails, IsUnder}
use Rattle.json_parts.specs.Json.{each}

-- what was read before, and what is still read
abbrev pub with_front : {A : Type 0} → List A → Outcome (List A) → Outcome (List A)
with_front front read = read >>= λ more. Ok (front ++ more)

pub regroup : {A : Type 0} (front : List A) (a : A) (read : Outcome (List A)) → with_front front (read >>= λ more. Ok (a ∷ more)) ≡ with_front (front ++ a ∷ []) read
regroup front a (Ok more) = ap Ok (sym (append_assoc front (a ∷ []) more))
regroup front a (Err f) = refl

-- the next member, and those behind it
pub next : (values : List Json) (i : ℕ) (value : Json) → i < length values → value ≡ get_or values i value → map json_data (drop i values) ≡ json_data value ∷ map json_data (drop (i + 1) values)
next values i value lt is =
    let one : i + 1 ≡ suc i = omega arith in
    rw one (ap (map json_data) (drop-cons values i value lt) ∙ ap (λ (v : Json). json_data v ∷ map json_data (drop (suc i) values)) (sym is))

-- the loop goes on behind a member that was read
pub goes_on : {A : Type 0} (reader : Data → Outcome A) (front : List A) (values : List Json) (i k : ℕ) (value : Json) (a : A) (total : Outcome (List A))
    → i < length values → value ≡ get_or values i value → reader (json_data value) ≡ Ok a
    → with_front front (each reader k (map json_data (drop i values))) ≡ total → with_front (front ++ a ∷ []) (each reader (k + 1) (map json_data (drop (i + 1) values))) ≡ total
unfolding each
goes_on reader front values i k value a total lt is read so_far =
    let one : k + 1 ≡ suc k = omega arith in
    let step : with_front front (each reader k (map json_data (drop i values))) ≡ with_front (front ++ a ∷ []) (each reader (k + 1) (map json_data (drop (i + 1) values))) =
    ap (λ (ds : List Data). with_front front (each reader k ds)) (next values i value lt is)
    ∙ rw (read, ← one) (regroup front a (each reader (k + 1) (map json_data (drop (i + 1) values)))) in
    sym step ∙ so_far

-- it ends at a member that isn't read
pub ends : {A : Type 0} (reader : Data → Outcome A) (front : List A) (values : List Json) (i k : ℕ) (value : Json) (e e' : CertError) (total : Outcome (List A))
    → i < length values → value ≡ get_or values i value → Fails e (reader (json_data value)) → IsUnder (Index k) e e'
    → with_front front (each reader k (map json_data (drop i values))) ≡ total → Fails e' total
unfolding each
ends reader front values i k value e Memory total lt is read seen so_far = tt
ends reader front values i k value Memory (Fault g) total lt is read seen so_far = absurd seen
ends reader front values i k value (Fault f) (Fault g) total lt is read seen so_far =
    let step : with_front front (each reader k (map json_data (drop i values))) ≡ Err (behind (Index k) f) =
    ap (λ (ds : List Data). with_front front (each reader k ds)) (next values i value lt is) ∙ rw read refl in
    sym so_far ∙ step ∙ ap Err (sym seen)

-- it is done behind the last member
pub is_done : {A : Type 0} (reader : Data → Outcome A) (front : List A) (values : List Json) (i k : ℕ) (total : Outcome (List A)) → length values ≤ i
    → with_front front (each reader k (map json_data (drop i values))) ≡ total → total ≡ Ok front
unfolding each
is_done reader front values i k total le so_far =
    let step : with_front front (each reader k (map json_data (drop i values))) ≡ Ok front =
    ap (λ (vs : List Json). with_front front (each reader k (map json_data vs))) (drop_of_length-le values le) ∙ ap Ok (append-nil front) in
    sym so_far ∙ step
