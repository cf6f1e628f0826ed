-- What a call of the program leaves, by its status.
use Rattle.std.specs.Prelude.{◌≡◌, ℕ, ◌⊎◌, List, map, Option, None, Some, String, string_bytes}
use Rattle.std.specs.Global.{Global}
use Rattle.iolb_commands.specs.declared.status.Status.{Status}
use Rattle.iolb_commands.specs.declared.status.Status.TheVariants.{Done, Refused, Words, ProgramText, OtherText, FileAbsent, ReadFault, WriteFault, Wide, NoMemory}
use Rattle.iolb_commands.specs.declared.stop.Stop.{Stop}
use Rattle.iolb_commands.specs.declared.stop.Stop.TheVariants.{Words as AtWords, Memory}
use Rattle.command_words.specs.Requests.{Request, request_of}
use Rattle.iolb_host.specs.Files.{FileMap}
use Rattle.iolb_commands.specs.Lines.{out_of_memory, usage}
use Rattle.iolb_commands.specs.Phases.{IsAnswered, RequestStop}
use Rattle.iolb_commands.specs.Stop.{faults_at, stop_line, stop_status}
use Rattle.iolb_commands.specs.Use.{CallUse, FilesUse, SinkUse, FilesStay, Gains, GainsPart, FailsWithin, Stays}
use Rattle.iolb_commands.specs.Works.{Form, whole, by_lines, with_note, form_of}

-- what the program is called with: the words, and what the files tell
pub record Call : Type 0 where
  pub words : List (List ℕ)
  pub files : Option FileMap

-- a call with these words of the program, over files that tell this
abbrev pub call_of : List (String Global) → Option FileMap → Call
call_of words files = record { words = map (λ word. string_bytes word) words; files = files }

-- The words make a request, which stops for this reason, and this is the line that says so. The only fault of a read is that
-- of the file which the line names.
pub record StopsInRequest (call : Call) (files : FilesUse) (stop : Stop) (line : List ℕ) : Type 0 where
  pub request : Request
  pub asked : request_of call.words ≡ Some request
  pub cause : RequestStop call.files request stop
  pub noted : files.after ≡ faults_at request.files stop files.before
  pub says : line ≡ stop_line request.files stop

-- the words ask for nothing that the program does, and the line is the usage text
pub record StopsAtWords (call : Call) (files : FilesUse) (stop : Stop) (line : List ℕ) : Type 0 where
  pub words : stop ≡ AtWords
  pub cause : request_of call.words ≡ None
  pub unread : FilesStay files
  pub says : line ≡ usage

-- want of memory, at the words
pub record StopsForMemory (files : FilesUse) (stop : Stop) (line : List ℕ) : Type 0 where
  pub memory : stop ≡ Memory
  pub unread : FilesStay files
  pub says : line ≡ out_of_memory

-- A call stops for this reason, and this is the line that says so. The words come first.
abbrev pub Stops : Call → FilesUse → Stop → List ℕ → Type 0
Stops call files stop line = StopsAtWords call files stop line ⊎ StopsForMemory files stop line ⊎ StopsInRequest call files stop line

-- the words make a request, this text answers it, with this note for the standard error, and no read had a fault
pub record IsDone (call : Call) (files : FilesUse) (text note : List ℕ) : Type 0 where
  pub request : Request
  pub asked : request_of call.words ≡ Some request
  pub answered : IsAnswered call.files request text note
  pub read : FilesStay files

-- the call stops with this status: its line is written to the standard error, and nothing to the output
pub record IsStopped (status : Status) (call : Call) (left : CallUse) : Type 0 where
  pub stop : Stop
  pub line : List ℕ
  pub stops : Stops call left.files stop line
  pub status_is : stop_status stop ≡ status
  pub output_stays : Stays left.output
  pub error_gains : Gains left.error line

-- a line that may be due on the standard error
abbrev pub IsDue : Call → FilesUse → List ℕ → Type 0
IsDue call files line = (line ≡ out_of_memory) ⊎ ((stop : Stop) × Stops call files stop line)

-- what is written where memory is wanted in mid-answer: of a replay the first bytes, none, some or all, and of the text of a
-- certificate all, with nothing of its note
abbrev pub IsBegun : Form → SinkUse → List ℕ → Type 0
IsBegun whole output text = ⊥
IsBegun by_lines output text = GainsPart output text
IsBegun with_note output text = Gains output text

-- An answer was broken off for want of memory, and no such write failed.
pub record IsBrokenOff (call : Call) (files : FilesUse) (output : SinkUse) : Type 0 where
  pub text : List ℕ
  pub note : List ℕ
  pub done : IsDone call files text note
  pub begun : IsBegun (form_of done.request.work) output text

-- A write of the answer failed, or handing it on after its note was written; or one of the note behind the whole answer; or one
-- of a line that was due.
abbrev pub IsCut : Call → CallUse → Type 0
IsCut call left = ((text note : List ℕ) × IsDone call left.files text note × FailsWithin left.output text × (Stays left.error ⊎ Gains left.error note))
    ⊎ ((line : List ℕ) × IsDue call left.files line × Stays left.output × FailsWithin left.error line)
    ⊎ (IsBrokenOff call left.files left.output × FailsWithin left.error out_of_memory)
    ⊎ ((text note : List ℕ) × IsDone call left.files text note × Gains left.output text × FailsWithin left.error note)

-- What each status says. At every other status than that of a failed write no write failed.
abbrev pub Outcome : Status → Call → CallUse → Type 0
Outcome Done call left = (text note : List ℕ) × IsDone call left.files text note × Gains left.output text × Gains left.error note
Outcome Refused call left = IsStopped Refused call left
Outcome Words call left = IsStopped Words call left
Outcome ProgramText call left = IsStopped ProgramText call left
Outcome OtherText call left = IsStopped OtherText call left
Outcome FileAbsent call left = IsStopped FileAbsent call left
Outcome ReadFault call left = IsStopped ReadFault call left
Outcome WriteFault call left = IsCut call left
Outcome Wide call left = IsStopped Wide call left
Outcome NoMemory call left = (Stays left.output ⊎ IsBrokenOff call left.files left.output) × (Stays left.error ⊎ Gains left.error out_of_memory)
