-- Reading the keys of the statements one after the other.
use Rattle.std.proofs.Common.{◌≡◌, ℕ, suc, ◌+◌, ◌<◌, ◌≤◌, List, [], ◌∷◌, ◌++◌, length, drop, map, get_or, Ok, Err, refl, sym, ap, ◌∙◌, Vec, Global, arith}
use Rattle.std.proofs.Math.ListN.{drop_of_length-le}
use Rattle.std.proofs.lemmas.List.{append-nil, map-append}
use Rattle.iolb_model.specs.Program.{AffineProgram}
use Rattle.claims.specs.declared.place.Step.TheVariants.{Index}
use Rattle.serde_json.specs.Data.{Data}
use Rattle.json_values.specs.View.{json_data}
use Rattle.json_values.specs.declared.value.Json.{Json}
use Rattle.json_parts.specs.declared.error.CertError.{CertError}
use Rattle.json_parts.specs.declared.error.CertError.TheVariants.{Fault, Memory}
use Rattle.json_parts.specs.Outcome.{Outcome, behind, Fails, IsUnder}
use Rattle.json_parts.proofs.Loop.{with_front, regroup, next}
use Rattle.tile_sched.specs.declared.schedule.Key.{Key}
use Rattle.tile_sched.specs.Schedules.{rows_of, key_variables}
use Rattle.tile_sched.specs.Reading.{reads_keys, reads_rows}

-- the loop goes on behind a statement whose keys were read
pub goes_on : (program : AffineProgram) (count : ℕ) (front : List (List Key)) (values : List Json) (i : ℕ) (value : Json) (keys : List Key) (total : Outcome (List (List Key)))
    → i < length values → value ≡ get_or values i value → reads_keys count (key_variables program i) (json_data value) ≡ Ok keys
    → with_front front (reads_rows program count i (map json_data (drop i values))) ≡ total → with_front (front ++ keys ∷ []) (reads_rows program count (i + 1) (map json_data (drop (i + 1) values))) ≡ total
unfolding reads_rows
goes_on program count front values i value keys total lt is read so_far =
    let one : i + 1 ≡ suc i = omega arith in
    let step : with_front front (reads_rows program count i (map json_data (drop i values))) ≡ with_front (front ++ keys ∷ []) (reads_rows program count (i + 1) (map json_data (drop (i + 1) values))) =
    ap (λ (ds : List Data). with_front front (reads_rows program count i ds)) (next values i value lt is)
    ∙ rw (read, ← one) (regroup front keys (reads_rows program count (i + 1) (map json_data (drop (i + 1) values)))) in
    sym step ∙ so_far

-- it ends at a statement whose keys aren't read
pub ends : (program : AffineProgram) (count : ℕ) (front : List (List Key)) (values : List Json) (i : ℕ) (value : Json) (e e' : CertError) (total : Outcome (List (List Key)))
    → i < length values → value ≡ get_or values i value → Fails e (reads_keys count (key_variables program i) (json_data value)) → IsUnder (Index i) e e'
    → with_front front (reads_rows program count i (map json_data (drop i values))) ≡ total → Fails e' total
unfolding reads_rows
ends program count front values i value e Memory total lt is read seen so_far = tt
ends program count front values i value Memory (Fault g) total lt is read seen so_far = absurd seen
ends program count front values i value (Fault f) (Fault g) total lt is read seen so_far =
    let step : with_front front (reads_rows program count i (map json_data (drop i values))) ≡ Err (behind (Index i) f) =
    ap (λ (ds : List Data). with_front front (reads_rows program count i ds)) (next values i value lt is) ∙ rw read refl in
    sym so_far ∙ step ∙ ap Err (sym seen)

-- it is done behind the last statement
pub is_done : (program : AffineProgram) (count : ℕ) (front : List (List Key)) (values : List Json) (i : ℕ) (total : Outcome (List (List Key))) → length values ≤ i
    → with_front front (reads_rows program count i (map json_data (drop i values))) ≡ total → total ≡ Ok front
unfolding reads_rows
is_done program count front values i total le so_far =
    let step : with_front front (reads_rows program count i (map json_data (drop i values))) ≡ Ok front =
    ap (λ (vs : List Json). with_front front (reads_rows program count i (map json_data vs))) (drop_of_length-le values le) ∙ ap Ok (append-nil front) in
    sym so_far ∙ step

-- one statement's keys more
pub pushed : (rows new : List (Vec Key Global)) (found : Vec Key Global) → new ≡ rows ++ found ∷ [] → rows_of new ≡ rows_of rows ++ found.items ∷ []
pushed rows new found is = ap rows_of is ∙ map-append (λ (keys : Vec Key Global). keys.items) rows (found ∷ [])
