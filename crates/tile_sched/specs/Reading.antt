-- The texts of schedules.
use Rattle.std.specs.Prelude.{ℕ, suc, ◌+◌, ◌==◌, List, [], ◌∷◌, length, nat_le, if◌then◌else◌, codes, Ok}
use Rattle.iolb_model.specs.declared.limits.TheConstants.{DIVISOR, SCHEDULE_KEYS}
use Rattle.iolb_model.specs.Form.{AffineForm}
use Rattle.iolb_model.specs.Program.{AffineProgram}
use Rattle.claims.specs.declared.place.Step.TheVariants.{Index}
use Rattle.serde_json.specs.Data.{Data}
use Rattle.json_parts.specs.Outcome.{Outcome, ◌>>=◌, fault, under}
use Rattle.json_parts.specs.Json.{with_keys, part, reads_list, each, reads_natural}
use Rattle.certificate_parts.specs.Forms.{reads_form}
use Rattle.certificate_parts.specs.Matrices.{columns_of}
use Rattle.tile_sched.specs.declared.schedule.Key.{Key}
use Rattle.tile_sched.specs.Schedules.{key_variables}

-- A form over so many variables. That it has as many numbers is tested first.
unfoldable pub reads_form_over : ℕ → Data → Outcome AffineForm
reads_form_over variables d = do
  numbers ← reads_list d
  if length numbers == variables + 1 then reads_form d else fault 2

abbrev pub key_in : ℕ → List Data → Outcome Key
key_in variables [] = fault 2
key_in variables (d ∷ []) = fault 2
key_in variables (d ∷ e ∷ []) = do
  form ← under (Index 0) (reads_form_over variables d)
  divisor ← under (Index 1) (reads_natural 1 DIVISOR e)
  Ok (record { form = form; divisor = divisor })
key_in variables (d ∷ e ∷ more ∷ others) = fault 2

-- A key over so many variables: its form, and a divisor from 1 to 2^20.
unfoldable pub reads_key : ℕ → Data → Outcome Key
reads_key variables d = reads_list d >>= key_in variables

-- A list of so many members, as many as a statement may have keys at most.
unfoldable pub reads_key_list : ℕ → Data → Outcome (List Data)
reads_key_list count d = do
  members ← reads_list d
  if length members == count then (if nat_le count SCHEDULE_KEYS then Ok members else fault 3) else fault 2

-- The keys of a statement: so many, each over so many variables.
unfoldable pub reads_keys : ℕ → ℕ → Data → Outcome (List Key)
reads_keys count variables d = reads_key_list count d >>= each (reads_key variables) 0

-- the keys of the statements from this one on, so many for each
unfoldable pub reads_rows : AffineProgram → ℕ → ℕ → List Data → Outcome (List (List Key))
reads_rows program count statement [] = Ok []
reads_rows program count statement (d ∷ ds) = do
  keys ← under (Index statement) (reads_keys count (key_variables program statement) d)
  rows ← reads_rows program count (suc statement) ds
  Ok (keys ∷ rows)

abbrev pub rows_in : AffineProgram → List Data → Outcome (List (List Key))
rows_in program ds = if length ds == length program.statements then reads_rows program (columns_of ds) 0 ds else fault 2

-- The keys of each statement of the program, as many for each as the first has.
unfoldable pub reads_all : AffineProgram → Data → Outcome (List (List Key))
reads_all program d = reads_list d >>= rows_in program

-- A schedule of the program.
unfoldable pub reads_schedule : AffineProgram → Data → Outcome (List (List Key))
reads_schedule program d = do
  object ← with_keys (codes "keys" ∷ []) d
  part (codes "keys") (reads_all program) object
