-- Reading the weights of multipliers one after the other, and whether their rows rise.
use Rattle.std.proofs.Common.{◌≡◌, ℕ, suc, ◌+◌, ◌-◌, ◌<◌, ◌≤◌, List, [], ◌∷◌, ◌++◌, length, drop, map, get_or, Ok, Err, refl, sym, ap, subst, leb, ◌∙◌, arith}
use Rattle.std.proofs.Math.ListN.{drop_of_length-le}
use Rattle.std.proofs.lemmas.List.{append-nil, length-map, length-drop}
use Rattle.std.proofs.lemmas.Bool.{and_parts, leb-true}
use Rattle.std.specs.Prelude.{true}
use Rattle.std.specs.List.{AllByRecursion}
use Rattle.base_laws.proofs.Lists.{All-weaken}
use Rattle.affine_form.specs.Multipliers.{RowsRise}
use Rattle.claims.specs.declared.place.Step.TheVariants.{Index}
use Rattle.serde_json.specs.Data.{Data}
use Rattle.json_values.specs.View.{json_data}
use Rattle.json_values.specs.declared.value.Json.{Json}
use Rattle.json_parts.specs.declared.error.CertError.{CertError}
use Rattle.json_parts.specs.declared.error.CertError.TheVariants.{Fault, Memory}
use Rattle.json_parts.specs.Outcome.{Outcome, under, Fails}
use Rattle.json_parts.specs.Json.{reads_natural}
use Rattle.certificate_parts.specs.Multipliers.{reads_weights, rise_from}
use Rattle.json_parts.proofs.Loop.{with_front, regroup, next}
use Rattle.iolb_model.specs.declared.limits.TheConstants.{MULTIPLIER_SIZE}

abbrev Weights : Type 0
Weights = List (ℕ × ℕ)

-- the next two members, and those behind them
two : (values : List Json) (i : ℕ) (a b : Json) → i + 1 < length values → a ≡ get_or values i a → b ≡ get_or values (i + 1) b
    → map json_data (drop i values) ≡ json_data a ∷ json_data b ∷ map json_data (drop (i + 2) values)
two values i a b lt is is' =
    let one : (i + 1) + 1 ≡ i + 2 = omega arith in
    next values i a (omega arith) is ∙ ap (λ (ds : List Data). json_data a ∷ ds) (next values (i + 1) b lt is') ∙ ap (λ (k : ℕ). json_data a ∷ json_data b ∷ map json_data (drop k values)) one

abbrev pub left : Weights → List Json → ℕ → Outcome Weights
left front values i = with_front front (reads_weights (i + 2) (map json_data (drop i values)))

-- the loop goes on behind a weight that was read
pub goes_on : (front : Weights) (values : List Json) (i : ℕ) (a b : Json) (row multiplier : ℕ) (total : Outcome Weights)
    → i + 1 < length values → a ≡ get_or values i a → b ≡ get_or values (i + 1) b
    → under (Index (i + 2)) (reads_natural 0 127 (json_data a)) ≡ Ok row → under (Index (i + 3)) (reads_natural 1 (MULTIPLIER_SIZE - 1) (json_data b)) ≡ Ok multiplier
    → left front values i ≡ total → left (front ++ (row, multiplier) ∷ []) values (i + 2) ≡ total
unfolding reads_weights
goes_on front values i a b row multiplier total lt is is' read read' so_far =
    let three : (i + 2) + 1 ≡ i + 3 = omega arith in
    let step : left front values i ≡ left (front ++ (row, multiplier) ∷ []) values (i + 2) =
    ap (λ (ds : List Data). with_front front (reads_weights (i + 2) ds)) (two values i a b lt is is')
    ∙ rw (read, three, read') (regroup front (row, multiplier) (reads_weights ((i + 2) + 2) (map json_data (drop (i + 2) values)))) in
    sym step ∙ so_far

first_fails : (e : CertError) (front : Weights) (k : ℕ) (d : Data) (ds : List Data) → 1 ≤ length ds
    → Fails e (under (Index k) (reads_natural 0 127 d)) → Fails e (with_front front (reads_weights k (d ∷ ds)))
unfolding reads_weights
first_fails e front k d [] some read = absurd (omega arith)
first_fails Memory front k d (d' ∷ ds) some read = tt
first_fails (Fault f) front k d (d' ∷ ds) some read = rw read refl

-- it ends at a row that isn't read
pub ends_first : (front : Weights) (values : List Json) (i : ℕ) (a : Json) (e : CertError) (total : Outcome Weights)
    → i + 1 < length values → a ≡ get_or values i a
    → Fails e (under (Index (i + 2)) (reads_natural 0 127 (json_data a))) → left front values i ≡ total → Fails e total
ends_first front values i a e total lt is read so_far =
    let some : 1 ≤ length (map json_data (drop (i + 1) values)) = omega (arith, length-map (drop (i + 1) values) json_data, length-drop (i + 1) values) in
    let fails : Fails e (with_front front (reads_weights (i + 2) (map json_data (drop i values)))) =
    subst (λ (ds : List Data). Fails e (with_front front (reads_weights (i + 2) ds))) (sym (next values i a (omega arith) is))
    (first_fails e front (i + 2) (json_data a) (map json_data (drop (i + 1) values)) some read) in
    subst (Fails e) so_far fails

-- it ends at a multiplier that isn't read
pub ends_second : (front : Weights) (values : List Json) (i : ℕ) (a b : Json) (row : ℕ) (e : CertError) (total : Outcome Weights)
    → i + 1 < length values → a ≡ get_or values i a → b ≡ get_or values (i + 1) b
    → under (Index (i + 2)) (reads_natural 0 127 (json_data a)) ≡ Ok row → Fails e (under (Index (i + 3)) (reads_natural 1 (MULTIPLIER_SIZE - 1) (json_data b)))
    → left front values i ≡ total → Fails e total
unfolding reads_weights
ends_second front values i a b row Memory total lt is is' read read' so_far = tt
ends_second front values i a b row (Fault f) total lt is is' read read' so_far =
    let three : (i + 2) + 1 ≡ i + 3 = omega arith in
    let step : left front values i ≡ Err f =
    ap (λ (ds : List Data). with_front front (reads_weights (i + 2) ds)) (two values i a b lt is is') ∙ rw (read, three, read') refl in
    sym so_far ∙ step

-- it is done behind the last one
pub is_done : (front : Weights) (values : List Json) (i : ℕ) (total : Outcome Weights) → length values ≤ i → left front values i ≡ total → total ≡ Ok front
unfolding reads_weights
is_done front values i total le so_far =
    let step : left front values i ≡ Ok front =
    ap (λ (vs : List Json). with_front front (reads_weights (i + 2) (map json_data vs))) (drop_of_length-le values le) ∙ ap Ok (append-nil front) in
    sym so_far ∙ step

-- ---- rows that rise

-- rows from a number on, each behind the one before it, rise
pub rise_is : (least : ℕ) (weights : Weights) → rise_from least weights ≡ true → AllByRecursion (λ (w : ℕ × ℕ). least ≤ w.0) weights × RowsRise weights
rise_is least [] e = (tt, tt)
rise_is least (w ∷ weights) e =
    let both = and_parts (leb least w.0) (rise_from (w.0 + 1) weights) e in
    let here : least ≤ w.0 = leb-true least w.0 both.0 in
    let more = rise_is (w.0 + 1) weights both.1 in
    ((here, weaker (w.0 + 1) least weights (omega arith) more.0), (weaker (w.0 + 1) (suc w.0) weights (omega arith) more.0, more.1)) where
      weaker : (m n : ℕ) (ws : Weights) → n ≤ m → AllByRecursion (λ (w : ℕ × ℕ). m ≤ w.0) ws → AllByRecursion (λ (w : ℕ × ℕ). n ≤ w.0) ws
      weaker m n ws le = All-weaken (λ (w : ℕ × ℕ). m ≤ w.0) (λ (w : ℕ × ℕ). n ≤ w.0) ws (λ w h. omega arith)
