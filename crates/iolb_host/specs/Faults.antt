-- The faults of reads, each told with the name of its file.
use Rattle.std.specs.Prelude.{ℕ, Bool, true, false, List, [], ◌∷◌, ◌++◌, map, filter, not, count_by, String, Result, Ok, Err}
use Rattle.std.specs.String.{string_bytes}
use Rattle.std.specs.declared.alloc.Global.{Global}
use Rattle.iolb_host.specs.declared.files.FileFault.{FileFault}
use Rattle.iolb_host.specs.declared.files.FileFault.TheVariants.{Missing, TooLong, Failed, Memory}

-- a fault of the read of the file of this name
pub record NamedFault : Type 0 where
  pub name : List ℕ
  pub fault : FileFault

-- The faults so far, and behind them this one of the file of this name. Want of memory is no fault of the files.
abbrev pub after_fault : List NamedFault → List ℕ → FileFault → List NamedFault
after_fault faults name Missing = faults ++ record { name = name; fault = Missing } ∷ []
after_fault faults name TooLong = faults ++ record { name = name; fault = TooLong } ∷ []
after_fault faults name Failed = faults ++ record { name = name; fault = Failed } ∷ []
after_fault faults name Memory = faults

-- the faults so far, after a read of the file of this name with this outcome
abbrev pub after_read : {T : Type 0} → List NamedFault → List ℕ → Result T FileFault → List NamedFault
after_read faults name (Ok _) = faults
after_read faults name (Err fault) = after_fault faults name fault

-- whether a read failed
abbrev pub is_failure : FileFault → Bool
is_failure Missing = false
is_failure TooLong = false
is_failure Failed = true
is_failure Memory = false

-- how many reads failed
abbrev pub failure_count : List NamedFault → ℕ
failure_count faults = count_by (λ (named : NamedFault). is_failure named.fault) faults

-- the faults that are no failures: files that were missing or too long
abbrev pub absences : List NamedFault → List NamedFault
absences faults = filter (λ (named : NamedFault). not (is_failure named.fault)) faults

-- the faults that a list of the program holds
abbrev pub faults_in : List (String Global × FileFault) → List NamedFault
faults_in entries = map (λ entry. record { name = string_bytes entry.0; fault = entry.1 }) entries
