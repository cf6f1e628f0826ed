-- Why a call of the program stops: with which line and status, and the fault of a read that it notes.
use Rattle.std.specs.Prelude.{⊤, ℕ, List}
use Rattle.command_words.specs.Requests.{file_at}
use Rattle.iolb_host.specs.Faults.{NamedFault, after_fault}
use Rattle.iolb_host.specs.declared.files.FileFault.{FileFault}
use Rattle.iolb_host.specs.declared.files.FileFault.TheVariants.{Missing, TooLong, Failed, Memory as NoMemoryForFile}
use Rattle.iolb_commands.specs.declared.status.Status.{Status}
use Rattle.iolb_commands.specs.declared.status.Status.TheVariants.{Refused as RefusedStatus, Words as WordsRefused, ProgramText as ProgramRefused, OtherText as OtherRefused, FileAbsent, ReadFault, Wide as WideValue, NoMemory}
use Rattle.iolb_commands.specs.declared.stop.Stop.{Stop}
use Rattle.iolb_commands.specs.declared.stop.Stop.TheVariants.{Words, File, ProgramText, OtherText, Refused, Wide, Memory}
use Rattle.iolb_commands.specs.Lines.{usage, out_of_memory, file_line, program_line, other_line, refusal_line, wide_line}

-- a file that is missing or too long
abbrev pub IsPlainFault : FileFault → Type 0
IsPlainFault Missing = ⊤
IsPlainFault TooLong = ⊤
IsPlainFault Failed = ⊥
IsPlainFault NoMemoryForFile = ⊥

-- a reason that is no failure of a read and no want of memory
abbrev pub IsPlain : Stop → Type 0
IsPlain (File place fault) = IsPlainFault fault
IsPlain Memory = ⊥
IsPlain stop = ⊤

-- the line that says why, where these are the files' names
abbrev pub stop_line : List (List ℕ) → Stop → List ℕ
stop_line names Words = usage
stop_line names (File place fault) = file_line (file_at names place) fault
stop_line names (ProgramText fault) = program_line fault
stop_line names (OtherText fault) = other_line fault
stop_line names (Refused refusal) = refusal_line refusal
stop_line names Wide = wide_line
stop_line names Memory = out_of_memory

-- the status of a file that was not read
abbrev pub file_status : FileFault → Status
file_status Missing = FileAbsent
file_status TooLong = FileAbsent
file_status Failed = ReadFault
file_status NoMemoryForFile = NoMemory

-- the status that the program ends with
abbrev pub stop_status : Stop → Status
stop_status Words = WordsRefused
stop_status (File place fault) = file_status fault
stop_status (ProgramText fault) = ProgramRefused
stop_status (OtherText fault) = OtherRefused
stop_status (Refused refusal) = RefusedStatus
stop_status Wide = WideValue
stop_status Memory = NoMemory

-- The faults of reads once a call stops for this reason: where a file wasn't read there is one more, of that file.
abbrev pub faults_at : List (List ℕ) → Stop → List NamedFault → List NamedFault
faults_at names (File place fault) faults = after_fault faults (file_at names place) fault
faults_at names stop faults = faults

-- a reason that is no fault of a read
abbrev pub IsCalm : Stop → Type 0
IsCalm (File place fault) = ⊥
IsCalm stop = ⊤
