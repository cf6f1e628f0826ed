-- Files in memory.
use Rattle.std.specs.Prelude.{ℕ, List, map, String, Vec, Result}
use Rattle.std.specs.String.{string_bytes}
use Rattle.std.specs.BTreeMap.{BTreeMap}
use Rattle.std.specs.declared.alloc.Global.{Global}
use Rattle.iolb_host.specs.declared.files.FileFault.{FileFault}
use Rattle.iolb_host.specs.Count.{next_count}
use Rattle.iolb_host.specs.Faults.{NamedFault, after_read}
use Rattle.iolb_host.specs.Files.{FileMap}

-- the names and bytes that the entries of a map of the program hold
abbrev pub files_in : List (String Global × Vec ℕ Global) → FileMap
files_in entries = map (λ entry. (string_bytes entry.0, entry.1.items)) entries

-- what a map of the program holds: the names, each with the bytes of its file
abbrev pub files_of : BTreeMap (String Global) (Vec ℕ Global) → FileMap
files_of files = files_in files.entries

-- Files of which every read succeeds: the files, and the faults so far, a file that was missing or too long.
pub record SureStore : Type 0 where
  pub files : FileMap
  pub faults : List NamedFault

-- Files of which some reads fail: the files, the numbers of the reads that fail, how many reads there were, and the faults
-- so far.
pub record FailingStore : Type 0 where
  pub files : FileMap
  pub failing : List ℕ
  pub calls : ℕ
  pub faults : List NamedFault

-- The store after a read of the file of this name with this outcome: the read is counted, and so is its fault, and nothing
-- else changes.
abbrev pub after_call : {T : Type 0} → FailingStore → List ℕ → Result T FileFault → FailingStore
after_call store name outcome = record store { calls = next_count store.calls; faults = after_read store.faults name outcome }
