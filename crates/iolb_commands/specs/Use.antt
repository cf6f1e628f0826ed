-- The use that a call of the program makes of files and sinks: what they tell before it and after it.
use Rattle.std.specs.Prelude.{◌≡◌, ℕ, ◌⊎◌, List, Option}
use Rattle.iolb_host.specs.declared.files.FileFault.{FileFault}
use Rattle.iolb_host.specs.Count.{Rose}
use Rattle.iolb_host.specs.Faults.{NamedFault, after_fault}
use Rattle.iolb_host.specs.Sink.{AppendsPiece, AppendsPart}

-- the faults of reads, before and after a call
pub record FilesUse : Type 0 where
  pub before : List NamedFault
  pub after : List NamedFault

-- a sink before and after a call: what was written to it, where that is told, and how often a write failed
pub record SinkUse : Type 0 where
  pub before : Option (List ℕ)
  pub after : Option (List ℕ)
  pub faults : ℕ
  pub faults_after : ℕ

pub record CallUse : Type 0 where
  pub files : FilesUse
  pub output : SinkUse
  pub error : SinkUse

-- the use of files that tell their faults so
abbrev pub files_use : {F : Type 0} → (F → List NamedFault) → F → F → FilesUse
files_use faults old new = record { before = faults old; after = faults new }

-- the use of a sink that tells what was written, and its count of faults, so
abbrev pub sink_use : {S : Type 0} → (S → Option (List ℕ)) → (S → ℕ) → S → S → SinkUse
sink_use written faults old new = record { before = written old; after = written new; faults = faults old; faults_after = faults new }

-- no read had a fault
abbrev pub FilesStay : FilesUse → Type 0
FilesStay files = files.after ≡ files.before

-- one read had a fault, if any
abbrev pub HasOneFaultAtMost : FilesUse → Type 0
HasOneFaultAtMost files = FilesStay files ⊎ ((name : List ℕ) × (fault : FileFault) × (files.after ≡ after_fault files.before name fault))

-- nothing was written, and no write failed
abbrev pub Stays : SinkUse → Type 0
Stays sink = (sink.after ≡ sink.before) × (sink.faults_after ≡ sink.faults)

-- the sink has these bytes more, and no write failed
abbrev pub Gains : SinkUse → List ℕ → Type 0
Gains sink piece = AppendsPiece sink.before sink.after piece × (sink.faults_after ≡ sink.faults)

-- the count of faults rose
abbrev pub Fails : SinkUse → Type 0
Fails sink = Rose sink.faults sink.faults_after

-- a write of these bytes failed: the sink has the first of them more, none, some or all
abbrev pub FailsWithin : SinkUse → List ℕ → Type 0
FailsWithin sink piece = Fails sink × AppendsPart sink.before sink.after piece

-- the sink has the first bytes of a piece more, none, some or all, and no write failed
abbrev pub GainsPart : SinkUse → List ℕ → Type 0
GainsPart sink piece = AppendsPart sink.before sink.after piece × (sink.faults_after ≡ sink.faults)
