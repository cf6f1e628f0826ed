-- What a write at the end of a call leaves.
use Rattle.std.specs.Prelude.{◌≡◌, ℕ, ◌⊎◌, List, [], Result, Ok, Err}
use Rattle.command_words.specs.Requests.{Work}
use Rattle.tile_sched.specs.Lines.{play_text}
use Rattle.tile_sched.specs.Plays.{moves_of}
use Rattle.iolb_commands.specs.declared.answered.Answer.{Answer}
use Rattle.iolb_commands.specs.declared.answered.Answer.TheVariants.{Text, Lines, Bound}
use Rattle.iolb_commands.specs.declared.status.Status.{Status}
use Rattle.iolb_commands.specs.declared.status.Status.TheVariants.{Done, WriteFault, NoMemory}
use Rattle.iolb_commands.specs.declared.stop.Stop.{Stop}
use Rattle.iolb_commands.specs.Lines.{out_of_memory}
use Rattle.iolb_commands.specs.Phases.{End, stops, answers}
use Rattle.iolb_commands.specs.Works.{Form, whole, by_lines, with_note, form_of}
use Rattle.iolb_commands.specs.Use.{SinkUse, Gains, GainsPart, FailsWithin, Stays}

-- the text of an answer
abbrev pub answer_text : Answer → List ℕ
answer_text (Text text) = text.items
answer_text (Lines play) = play_text (moves_of play)
answer_text (Bound certificate bound) = certificate.items

-- what an answer has for the standard error
abbrev pub answer_note : Answer → List ℕ
answer_note (Text text) = []
answer_note (Lines play) = []
answer_note (Bound certificate bound) = bound.items

abbrev pub answer_form : Answer → Form
answer_form (Text text) = whole
answer_form (Lines play) = by_lines
answer_form (Bound certificate bound) = with_note

-- an answer to work is written as such are
abbrev pub IsOfWork : Work → Answer → Type 0
IsOfWork work answer = answer_form answer ≡ form_of work

-- how work ends that has this result
abbrev pub end_of : Result Answer Stop → End
end_of (Ok answer) = answers (answer_text answer) (answer_note answer)
end_of (Err stop) = stops stop

-- What is written of an answer where memory is wanted: nothing of a text, of a play the lines before, and the text of a
-- certificate or nothing of it.
abbrev pub HasBegun : Answer → SinkUse → Type 0
HasBegun (Text text) output = Stays output
HasBegun (Lines play) output = GainsPart output (play_text (moves_of play))
HasBegun (Bound certificate bound) output = Stays output ⊎ Gains output certificate.items

-- what is written to the standard error where an answer is written: nothing, or the text of a bound
abbrev pub HasNote : Answer → SinkUse → Type 0
HasNote (Text text) error = Stays error
HasNote (Lines play) error = Stays error
HasNote (Bound certificate bound) error = Gains error bound.items

-- the write of a bound's text failed, once its certificate was written
abbrev pub LacksNote : Answer → SinkUse → SinkUse → Type 0
LacksNote (Text text) output error = ⊥
LacksNote (Lines play) output error = ⊥
LacksNote (Bound certificate bound) output error = Gains output certificate.items × FailsWithin error bound.items

-- the line for want of memory was written, or there was no memory for that either, or the write failed
abbrev pub WantSaid : SinkUse → Status → Type 0
WantSaid error status = ((status ≡ NoMemory) × (Stays error ⊎ Gains error out_of_memory))
    ⊎ ((status ≡ WriteFault) × FailsWithin error out_of_memory)

-- the line was written and the status is the one that was to be, or the write failed, or there was no memory
abbrev pub LineWritten : SinkUse → List ℕ → Status → Status → Type 0
LineWritten error line wanted status = ((status ≡ wanted) × Gains error line)
    ⊎ ((status ≡ WriteFault) × FailsWithin error line) ⊎ WantSaid error status

-- How a call ends whose memory ran out: so, or by a failed write.
abbrev pub EndsForWant : Status → Type 0
EndsForWant status = (status ≡ NoMemory) ⊎ (status ≡ WriteFault)

-- Where a sink answered that memory was wanted, the call ends so, or by a failed write: at every other status the count of such
-- answers is as before. So nothing that was to be written is put once more.
abbrev pub WantsEnd : Status → ℕ → ℕ → Type 0
WantsEnd status wants wants_after = (wants_after ≡ wants) ⊎ EndsForWant status

-- The answer was written to the output, and what it has for the standard error; or the first write failed, or the second;
-- or there was no memory and the standard error says so.
abbrev pub OutputWritten : SinkUse → SinkUse → Answer → Status → Type 0
OutputWritten output error answer status = ((status ≡ Done) × Gains output (answer_text answer) × HasNote answer error)
    ⊎ ((status ≡ WriteFault) × FailsWithin output (answer_text answer) × Stays error)
    ⊎ ((status ≡ WriteFault) × LacksNote answer output error) ⊎ (HasBegun answer output × WantSaid error status)
