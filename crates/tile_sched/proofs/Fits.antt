-- A schedule that was read fits the program.
use Rattle.std.proofs.Common.{◌≡◌, refl, ap, ◌∙◌, subst, ℕ, suc, ◌+◌, ◌≤◌, List, [], ◌∷◌, length, Ok, Err, codes, arith}
use Rattle.std.specs.Prelude.{ℤ, ◌==◌, nat_le, IfOk}
use Rattle.std.specs.List.{AllByRecursion, enumerate_from}
use Rattle.std.proofs.lemmas.Bool.{eqb-true}
use Rattle.claims.specs.declared.place.Step.TheVariants.{Index}
use Rattle.iolb_model.specs.Form.{AffineForm}
use Rattle.iolb_model.specs.Program.{AffineProgram, IsOver}
use Rattle.iolb_model.specs.declared.limits.TheConstants.{DIVISOR, NUMBER_SIZE}
use Rattle.serde_json.specs.Data.{Data}
use Rattle.json_parts.specs.Given.{given_then, given_behind, given_under, given_if, given_part, given_each, given_keys, given_natural}
use Rattle.json_parts.specs.Json.{reads_list, reads_short_list, each, reads_integer, reads_natural}
use Rattle.json_parts.specs.Outcome.{Outcome, fault, under}
use Rattle.certificate_parts.specs.Forms.{reads_form, form_in, form_of}
use Rattle.certificate_parts.specs.Matrices.{columns_of}
use Rattle.tile_sched.specs.declared.schedule.Key.{Key}
use Rattle.tile_sched.specs.Schedules.{key_variables, IsKey, IsSchedule}
use Rattle.tile_sched.specs.Reading.{reads_form_over, key_in, reads_key, reads_key_list, reads_keys, reads_rows, rows_in, reads_all, reads_schedule}

-- what is read is what was read
itself : {A : Type 0} (read : Outcome A) → IfOk read (λ a. read ≡ Ok a)
itself (Ok a) = refl
itself (Err e) = tt

weaker : {A : Type 0} (read : Outcome A) (P Q : A → Type 0) → ((a : A) → P a → Q a) → IfOk read P → IfOk read Q
weaker (Ok a) P Q f h = f a h
weaker (Err e) P Q f h = tt

-- ---- keys

form_long : (number : ℤ) (numbers : List ℤ) → length (form_of number numbers).coefficients ≡ length numbers
form_long number [] = refl
form_long number (next ∷ numbers) = ap suc (form_long next numbers)

form_in_long : (count : ℕ) (numbers : List ℤ) → length numbers ≡ count → IfOk (form_in numbers) (λ form. length form.coefficients + 1 ≡ count)
form_in_long count [] many = tt
form_in_long count (number ∷ numbers) many = omega (arith, many, form_long number numbers)

-- a form has a coefficient fewer than its list has members
form_read : (d : Data) (ds : List Data) → reads_list d ≡ Ok ds → IfOk (reads_form d) (λ form. length form.coefficients + 1 ≡ length ds)
unfolding reads_form reads_short_list
form_read d ds is =
    let P : AffineForm → Type 0 = λ form. length form.coefficients + 1 ≡ length ds in
    rw is (given_then _ _ (λ (members : List Data). members ≡ ds) P (given_if (nat_le (length ds) 25) (Ok ds) (fault 3) (λ (members : List Data). members ≡ ds) (λ few. refl) tt)
    (λ members same. given_then (each (reads_integer NUMBER_SIZE) 0 members) form_in (λ (numbers : List ℤ). AllByRecursion (λ _. Unit {0}) numbers × (length numbers ≡ length members)) P
    (given_each (reads_integer NUMBER_SIZE) (λ _. Unit {0}) (λ v. weaker (reads_integer NUMBER_SIZE v) (λ z. reads_integer NUMBER_SIZE v ≡ Ok z) (λ _. Unit {0}) (λ z h. tt) (itself (reads_integer NUMBER_SIZE v))) 0 members)
    (λ numbers all. form_in_long (length ds) numbers (all.1 ∙ ap length same))))

form_over : (variables : ℕ) (d : Data) → IfOk (reads_form_over variables d) (IsOver variables)
unfolding reads_form_over
form_over variables d =
    given_then (reads_list d) _ (λ (ds : List Data). reads_list d ≡ Ok ds) (IsOver variables) (itself (reads_list d))
    (λ ds is. given_if (length ds == variables + 1) (reads_form d) (fault 2) (IsOver variables)
    (λ many. weaker (reads_form d) (λ form. length form.coefficients + 1 ≡ length ds) (IsOver variables) (λ form h. omega (arith, h, eqb-true (length ds) (variables + 1) many)) (form_read d ds is)) tt)

key_fits : (variables : ℕ) (ds : List Data) → IfOk (key_in variables ds) (IsKey variables)
key_fits variables [] = tt
key_fits variables (d ∷ []) = tt
key_fits variables (d ∷ e ∷ []) =
    given_then (under (Index 0) (reads_form_over variables d)) _ (IsOver variables) (IsKey variables) (given_under (Index 0) (reads_form_over variables d) (IsOver variables) (form_over variables d))
    (λ form over. given_then (under (Index 1) (reads_natural 1 DIVISOR e)) _ (λ (n : ℕ). (1 ≤ n) × (n ≤ DIVISOR)) (IsKey variables)
    (given_under (Index 1) (reads_natural 1 DIVISOR e) (λ (n : ℕ). (1 ≤ n) × (n ≤ DIVISOR)) (given_natural 1 DIVISOR e)) (λ divisor some. record { over = over; divides = some.0 }))
key_fits variables (d ∷ e ∷ more ∷ others) = tt

key_read : (variables : ℕ) (d : Data) → IfOk (reads_key variables d) (IsKey variables)
unfolding reads_key
key_read variables d = given_behind (reads_list d) (key_in variables) (IsKey variables) (key_fits variables)

keys_read : (count variables : ℕ) (d : Data) → IfOk (reads_keys count variables d) (AllByRecursion (IsKey variables))
unfolding reads_keys
keys_read count variables d =
    given_behind (reads_key_list count d) (each (reads_key variables) 0) (AllByRecursion (IsKey variables))
    (λ ds. weaker (each (reads_key variables) 0 ds) (λ keys. AllByRecursion (IsKey variables) keys × (length keys ≡ length ds)) (AllByRecursion (IsKey variables)) (λ keys h. h.0) (given_each (reads_key variables) (IsKey variables) (key_read variables) 0 ds))

-- ---- schedules

-- the keys of the statements from one on fit
abbrev AreOver : AffineProgram → ℕ → List (List Key) → Type 0
AreOver program first rows = AllByRecursion (λ (placed : ℕ × List Key). AllByRecursion (IsKey (key_variables program placed.0)) placed.1) (enumerate_from first rows)

abbrev RowsFit : AffineProgram → ℕ → ℕ → List (List Key) → Type 0
RowsFit program first count rows = AreOver program first rows × (length rows ≡ count)

rows_fit : (program : AffineProgram) (count first : ℕ) (ds : List Data) → IfOk (reads_rows program count first ds) (RowsFit program first (length ds))
unfolding reads_rows
rows_fit program count first [] = (tt, refl)
rows_fit program count first (d ∷ ds) =
    let variables = key_variables program first in
    given_then (under (Index first) (reads_keys count variables d)) _ (AllByRecursion (IsKey variables)) (RowsFit program first (suc (length ds)))
    (given_under (Index first) (reads_keys count variables d) (AllByRecursion (IsKey variables)) (keys_read count variables d))
    (λ keys here. given_then (reads_rows program count (suc first) ds) _ (RowsFit program (suc first) (length ds)) (RowsFit program first (suc (length ds))) (rows_fit program count (suc first) ds)
    (λ rows more. let next : suc first ≡ first + 1 = omega arith in ((here, subst (λ n. AreOver program n rows) next more.0), ap suc more.1)))

rows_in_fit : (program : AffineProgram) (ds : List Data) → IfOk (rows_in program ds) (IsSchedule program)
rows_in_fit program ds =
    given_if (length ds == length program.statements) (reads_rows program (columns_of ds) 0 ds) (fault 2) (IsSchedule program)
    (λ many. weaker (reads_rows program (columns_of ds) 0 ds) (RowsFit program 0 (length ds)) (IsSchedule program)
    (λ rows fit. record { statements = fit.1 ∙ eqb-true (length ds) (length program.statements) many; keys = fit.0 }) (rows_fit program (columns_of ds) 0 ds)) tt

all_fit : (program : AffineProgram) (d : Data) → IfOk (reads_all program d) (IsSchedule program)
unfolding reads_all
all_fit program d = given_behind (reads_list d) (rows_in program) (IsSchedule program) (rows_in_fit program)

pub schedule_fits : (program : AffineProgram) (d : Data) → IfOk (reads_schedule program d) (IsSchedule program)
unfolding reads_schedule
schedule_fits program d = given_keys (codes "keys" ∷ []) d _ (IsSchedule program) (given_part (codes "keys") (reads_all program) (IsSchedule program) d (all_fit program))
