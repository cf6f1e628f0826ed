-- Which schedule a text has, or which fault.
use Rattle.std.specs.Prelude.{◌≡◌, ⊤, ◌⊎◌, ℕ, List, [], Result, Ok, Err}
use Rattle.iolb_model.specs.Program.{AffineProgram}
use Rattle.serde_json.specs.Data.{Data}
use Rattle.json_parts.specs.Texts.{HasValue}
use Rattle.json_parts.specs.declared.error.CertFault.{CertFault}
use Rattle.json_parts.specs.declared.error.CertError.{CertError}
use Rattle.json_parts.specs.declared.error.CertError.TheVariants.{Fault as CertFaulty, Memory as CertMemory}
use Rattle.tile_sched.specs.declared.error.SchedFault.{SchedFault}
use Rattle.tile_sched.specs.declared.error.SchedError.{SchedError}
use Rattle.tile_sched.specs.declared.error.SchedError.TheVariants.{Fault, Memory}
use Rattle.tile_sched.specs.declared.schedule.Key.{Key}
use Rattle.tile_sched.specs.Reading.{reads_schedule}

-- a fault of a schedule's text, as the readers give it
abbrev pub read_fault : SchedFault → CertFault
read_fault fault = record { number = fault.number; place = fault.place }

-- the errors are the same
abbrev pub IsAs : CertError → SchedError → Type 0
IsAs (CertFaulty f) (Fault g) = f ≡ read_fault g
IsAs (CertFaulty f) Memory = ⊥
IsAs CertMemory (Fault g) = ⊥
IsAs CertMemory Memory = ⊤

-- the text of this schedule
pub record IsTextOf (program : AffineProgram) (bytes : List ℕ) (schedule : List (List Key)) : Type 0 where
  pub value : Data
  pub has : HasValue bytes value
  pub says : reads_schedule program value ≡ Ok schedule

-- fault 1, at the whole: there is no value
pub record IsNoJson (bytes : List ℕ) (fault : SchedFault) : Type 0 where
  pub number : fault.number ≡ 1
  pub place : fault.place ≡ []
  pub cause : (value : Data) → HasValue bytes value → ⊥

-- the first fault of the value
pub record IsFirstFault (program : AffineProgram) (bytes : List ℕ) (fault : SchedFault) : Type 0 where
  pub value : Data
  pub has : HasValue bytes value
  pub says : reads_schedule program value ≡ Err (read_fault fault)

-- The schedule that the text has; or its fault; or want of memory.
abbrev pub ReadsText : AffineProgram → List ℕ → Result (List (List Key)) SchedError → Type 0
ReadsText program bytes (Ok schedule) = IsTextOf program bytes schedule
ReadsText program bytes (Err (Fault f)) = IsNoJson bytes f ⊎ IsFirstFault program bytes f
ReadsText program bytes (Err Memory) = ⊤
