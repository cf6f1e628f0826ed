-- What a call's outcome is, from what it is stopped or answered by.
use Rattle.std.proofs.Common.{◌≡◌, refl, sym, ◌∙◌, ap, subst, inl, inr, ℕ, List, length}
use Rattle.std.specs.Prelude.{◌⊎◌}
use Rattle.std.specs.Io.KnownBytes.{append_known}
use Rattle.std.proofs.Math.Seq.{take-length}
use Rattle.command_words.specs.Requests.{Work}
use Rattle.iolb_host.specs.declared.files.FileFault.TheVariants.{Missing, TooLong, Failed, Memory as NoMemoryForFile}
use Rattle.iolb_host.specs.Count.{Rose}
use Rattle.iolb_commands.specs.declared.status.Status.{Status}
use Rattle.iolb_commands.specs.declared.status.Status.TheVariants.{Done, NoMemory, Words as WordsRefused}
use Rattle.iolb_commands.specs.declared.stop.Stop.{Stop}
use Rattle.iolb_commands.specs.declared.stop.Stop.TheVariants.{Words, File, ProgramText, OtherText, Refused, Wide, Memory}
use Rattle.iolb_commands.specs.Lines.{out_of_memory}
use Rattle.iolb_commands.specs.Stop.{stop_line, stop_status}
use Rattle.iolb_commands.specs.Works.{Form, form_of}
use Rattle.iolb_commands.specs.Outcome.{Call, Stops, IsBegun, IsBrokenOff, IsDone, IsStopped, Outcome}
use Rattle.iolb_commands.specs.Called.{Finishes, with_faults}
use Rattle.iolb_commands.specs.Use.{CallUse, FilesUse, SinkUse, FailsWithin, Gains, Stays}
use Rattle.iolb_commands.specs.Written.{HasBegun, HasNote, IsOfWork, LacksNote, LineWritten, OutputWritten, WantSaid, answer_note, answer_text}
use Rattle.iolb_commands.specs.declared.answered.Answer.{Answer}
use Rattle.iolb_commands.proofs.Notes.{nothing}
use Rattle.iolb_commands.specs.declared.answered.Answer.TheVariants.{Text, Lines, Bound}

-- ---- calls

-- the line of a stop for want of memory
line_of_want : (names : List (List ℕ)) (stop : Stop) → stop_status stop ≡ NoMemory → stop_line names stop ≡ out_of_memory
line_of_want names Words e = absurd cc
line_of_want names (File place Missing) e = absurd cc
line_of_want names (File place TooLong) e = absurd cc
line_of_want names (File place Failed) e = absurd cc
line_of_want names (File place NoMemoryForFile) e = refl
line_of_want names (ProgramText fault) e = absurd cc
line_of_want names (OtherText fault) e = absurd cc
line_of_want names (Refused refusal) e = absurd cc
line_of_want names Wide e = absurd cc
line_of_want names Memory e = refl

want_line : (call : Call) (files : FilesUse) (stop : Stop) (line : List ℕ) → Stops call files stop line → stop_status stop ≡ NoMemory → line ≡ out_of_memory
want_line call files stop line (inl at_words) e = absurd (differ (ap stop_status (sym at_words.words) ∙ e)) where
  differ : WordsRefused ≡ NoMemory → ⊥
  differ same = cc
want_line call files stop line (inr (inl want)) e = want.says
want_line call files stop line (inr (inr stops)) e = stops.says ∙ line_of_want stops.request.files stop e

-- a call that stopped and said so
said_why : (call : Call) (left : CallUse) (stop : Stop) (line : List ℕ) → Stops call left.files stop line → Stays left.output → Gains left.error line → (status : Status) → stop_status stop ≡ status → IsStopped status call left
said_why call left stop line stops stays gains status e = record { stop = stop; line = line; stops = stops; status_is = e; output_stays = stays; error_gains = gains }

said_want : (call : Call) (left : CallUse) (stop : Stop) (line : List ℕ) → Stops call left.files stop line → stop_status stop ≡ NoMemory → Stays left.output → Gains left.error line → Outcome NoMemory call left
said_want call left stop line stops e stays gains = (inl stays, inr (subst (λ (l : List ℕ). Gains left.error l) (want_line call left.files stop line stops e) gains))

stopped_at : (call : Call) (left : CallUse) (stop : Stop) (line : List ℕ) → Stops call left.files stop line → Stays left.output → Gains left.error line → Outcome (stop_status stop) call left
stopped_at call left Words line s o g = said_why call left Words line s o g _ refl
stopped_at call left (File place Missing) line s o g = said_why call left (File place Missing) line s o g _ refl
stopped_at call left (File place TooLong) line s o g = said_why call left (File place TooLong) line s o g _ refl
stopped_at call left (File place Failed) line s o g = said_why call left (File place Failed) line s o g _ refl
stopped_at call left (File place NoMemoryForFile) line s o g = said_want call left (File place NoMemoryForFile) line s refl o g
stopped_at call left (ProgramText fault) line s o g = said_why call left (ProgramText fault) line s o g _ refl
stopped_at call left (OtherText fault) line s o g = said_why call left (OtherText fault) line s o g _ refl
stopped_at call left (Refused refusal) line s o g = said_why call left (Refused refusal) line s o g _ refl
stopped_at call left Wide line s o g = said_why call left Wide line s o g _ refl
stopped_at call left Memory line s o g = said_want call left Memory line s refl o g

-- a call whose output stays, once the line for want of memory was to be written
pub wanted : (call : Call) (left : CallUse) (status : Status) → Stays left.output → WantSaid left.error status → Outcome status call left
wanted call left status stays (inl (ends, said)) = subst (λ (s : Status). Outcome s call left) (sym ends) (inl stays, said)
wanted call left status stays (inr (ends, fails)) = subst (λ (s : Status). Outcome s call left) (sym ends) (inr (inl (out_of_memory, inl refl, stays, fails)))

-- a call that stopped, once its line was to be written
pub stopped_outcome : (call : Call) (left : CallUse) (stop : Stop) (line : List ℕ) (status : Status) → Stops call left.files stop line → Stays left.output → LineWritten left.error line (stop_status stop) status → Outcome status call left
stopped_outcome call left stop line status stops stays (inl (ends, gains)) = subst (λ (s : Status). Outcome s call left) (sym ends) (stopped_at call left stop line stops stays gains)
stopped_outcome call left stop line status stops stays (inr (inl (ends, fails))) =
    subst (λ (s : Status). Outcome s call left) (sym ends) (inr (inl (line, inr (stop, stops), stays, fails)))
stopped_outcome call left stop line status stops stays (inr (inr want)) = wanted call left status stays want

-- an answer that was broken off, once the line for want of memory was to be written
broken : (call : Call) (left : CallUse) (status : Status) → IsBrokenOff call left.files left.output → WantSaid left.error status → Outcome status call left
broken call left status off (inl (ends, said)) = subst (λ (s : Status). Outcome s call left) (sym ends) (inr off, said)
broken call left status off (inr (ends, fails)) = subst (λ (s : Status). Outcome s call left) (sym ends) (inr (inr (inl (off, fails))))

begun : (work : Work) (answer : Answer) (output : SinkUse) → IsOfWork work answer → HasBegun answer output → Stays output ⊎ IsBegun (form_of work) output (answer_text answer)
begun work (Text text) output of begins = inl begins
begun work (Lines play) output of begins = inr (subst (λ (form : Form). IsBegun form output (answer_text (Lines play))) of begins)
begun work (Bound certificate bound) output of (inl stays) = inl stays
begun work (Bound certificate bound) output of (inr gains) = inr (subst (λ (form : Form). IsBegun form output certificate.items) of gains)

begun_outcome : (call : Call) (left : CallUse) (answer : Answer) (status : Status) (done : IsDone call left.files (answer_text answer) (answer_note answer)) → IsOfWork done.request.work answer
    → HasBegun answer left.output → WantSaid left.error status → Outcome status call left
begun_outcome call left answer status done of begins want = by (begun done.request.work answer left.output of begins) where
  by : Stays left.output ⊎ IsBegun (form_of done.request.work) left.output (answer_text answer) → Outcome status call left
  by (inl stays) = wanted call left status stays want
  by (inr gains) = broken call left status (record { text = answer_text answer; note = answer_note answer; done = done; begun = gains }) want

note_gained : (answer : Answer) (error : SinkUse) → HasNote answer error → Gains error (answer_note answer)
note_gained (Text text) error stays = nothing error stays
note_gained (Lines play) error stays = nothing error stays
note_gained (Bound certificate bound) error gains = gains

note_lacks : (answer : Answer) (output error : SinkUse) → LacksNote answer output error → Gains output (answer_text answer) × FailsWithin error (answer_note answer)
note_lacks (Text text) output error lacks = absurd lacks
note_lacks (Lines play) output error lacks = absurd lacks
note_lacks (Bound certificate bound) output error lacks = lacks

-- a call that is done, once its answer was to be written
pub done_outcome : (call : Call) (left : CallUse) (answer : Answer) (status : Status) (done : IsDone call left.files (answer_text answer) (answer_note answer)) → IsOfWork done.request.work answer
    → OutputWritten left.output left.error answer status → Outcome status call left
done_outcome call left answer status done of (inl (ends, gains, noted)) =
    subst (λ (s : Status). Outcome s call left) (sym ends) (answer_text answer, answer_note answer, done, gains, note_gained answer left.error noted)
done_outcome call left answer status done of (inr (inl (ends, fails, stays))) =
    subst (λ (s : Status). Outcome s call left) (sym ends) (inl (answer_text answer, answer_note answer, done, fails, inl stays))
done_outcome call left answer status done of (inr (inr (inl (ends, lacks)))) =
    let wrote = note_lacks answer left.output left.error lacks in
    subst (λ (s : Status). Outcome s call left) (sym ends) (inr (inr (inr (answer_text answer, answer_note answer, done, wrote.0, wrote.1))))
done_outcome call left answer status done of (inr (inr (inr (begins, want)))) = begun_outcome call left answer status done of begins want

-- ---- the end

-- a call whose last output was handed on, or not
pub finished_outcome : (call : Call) (left : CallUse) (status ended : Status) (faults : ℕ) → Outcome status call left → Finishes status left.output.faults_after faults ended
    → Outcome ended call (with_faults left faults)
finished_outcome call left status ended faults outcome (inl (same, calm)) =
    subst (λ (s : Status). Outcome s call (with_faults left faults)) (sym same) (subst (λ (n : ℕ). Outcome status call (with_faults left n)) (sym calm) outcome)
finished_outcome call left status ended faults outcome (inr (done, fails, rose)) = cut (subst (λ (s : Status). Outcome s call left) done outcome) where
  cut : Outcome Done call left → Outcome ended call (with_faults left faults)
  cut (text, note, is_done, gains, noted) =
      subst (λ (s : Status). Outcome s call (with_faults left faults)) (sym fails)
      (inl (
        text,
        note,
        is_done,
        (subst (λ (n : ℕ). Rose n faults) gains.1 rose, (length text, gains.0 ∙ ap (append_known left.output.before) (sym (take-length text)))),
        inr noted,
      ))
