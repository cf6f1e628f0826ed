-- Calls that nothing disturbs.
use Rattle.std.proofs.Common.{◌≡◌, sym, ◌∙◌, ap, subst, inl, inr, List, ℕ}
use Rattle.iolb_host.specs.Count.{Rose}
use Rattle.iolb_host.specs.Faults.{absences, failure_count}
use Rattle.iolb_host.specs.MemFiles.{SureStore}
use Rattle.iolb_host.specs.declared.files.FileFault.TheVariants.{Missing, TooLong, Failed, Memory as NoMemoryForFile}
use Rattle.iolb_commands.specs.declared.status.Status.{Status}
use Rattle.iolb_commands.specs.declared.status.Status.TheVariants.{ReadFault, WriteFault, NoMemory}
use Rattle.iolb_commands.specs.declared.stop.Stop.{Stop}
use Rattle.iolb_commands.specs.declared.stop.Stop.TheVariants.{Words, File, ProgramText, OtherText, Refused, Wide, Memory}
use Rattle.iolb_commands.specs.Laws.{IsUndisturbed, SureCallsAreUndisturbed, UndisturbedCallsHaveNoFault}
use Rattle.iolb_commands.specs.Outcome.{Call, IsStopped, Outcome, Stops}
use Rattle.iolb_commands.specs.Stop.{IsPlain, stop_status}
use Rattle.iolb_commands.specs.Use.{CallUse}
use Rattle.iolb_commands.proofs.PlainStops.{plain}

no_read : (stop : Stop) → IsPlain stop → stop_status stop ≡ ReadFault → ⊥
no_read Words ok is = cc
no_read (File place Missing) ok is = cc
no_read (File place TooLong) ok is = cc
no_read (File place Failed) ok is = ok
no_read (File place NoMemoryForFile) ok is = ok
no_read (ProgramText fault) ok is = cc
no_read (OtherText fault) ok is = cc
no_read (Refused refusal) ok is = cc
no_read Wide ok is = cc
no_read Memory ok is = ok

other_than : ReadFault ≡ NoMemory → ⊥
other_than is = cc

reads_none : (call : Call) (left : CallUse) (stop : Stop) (line : List ℕ) → Stops call left.files stop line → stop_status stop ≡ ReadFault → IsUndisturbed left → ⊥
reads_none call left stop line (inl at_words) is calm = no_read Words tt (sym (ap stop_status at_words.words) ∙ is)
reads_none call left stop line (inr (inl want)) is calm = other_than (sym is ∙ ap stop_status want.memory)
reads_none call left stop line (inr (inr stops)) is calm =
    no_read stop (plain stops.request.files stop left.files.before left.files.after stops.noted calm.files (λ e. other_than (sym is ∙ e))) is

writes_none : (call : Call) (left : CallUse) → Outcome WriteFault call left → IsUndisturbed left → ⊥
writes_none call left (inl (text, note, done, fails, stays)) calm = calm.output fails.0
writes_none call left (inr (inl (line, due, stays, fails))) calm = calm.error fails.0
writes_none call left (inr (inr (inl (off, fails)))) calm = calm.error fails.0
writes_none call left (inr (inr (inr (text, note, done, gains, fails)))) calm = calm.error fails.0

pub no_fault : UndisturbedCallsHaveNoFault
no_fault call left status outcome calm = (
  λ is.
      let stopped : IsStopped ReadFault call left = subst (λ (s : Status). Outcome s call left) is outcome in
      reads_none call left stopped.stop stopped.line stopped.stops stopped.status_is calm,
  λ is. writes_none call left (subst (λ (s : Status). Outcome s call left) is outcome) calm,
)

never_rises : Rose 0 0 → ⊥
never_rises rose = cc

pub sure_calm : ((store : SureStore) → failure_count (absences store.faults) ≡ 0) → SureCallsAreUndisturbed
sure_calm never files files_after output output_after error error_after = record {
  files = never files_after ∙ sym (never files);
  output = never_rises;
  error = never_rises;
}
