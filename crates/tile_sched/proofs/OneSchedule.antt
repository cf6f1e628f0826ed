-- A text has one schedule of a program, or one fault.
use Rattle.std.proofs.Common.{◌≡◌, ℕ, List, Ok, Err, inl, inr, sym, ◌∙◌, ap}
use Rattle.iolb_model.specs.Program.{AffineProgram}
use Rattle.json_parts.proofs.Texts.{same-value}
use Rattle.json_parts.specs.Texts.{HasValue}
use Rattle.claims.specs.declared.place.Step.{Step}
use Rattle.serde_json.specs.Data.{Data}
use Rattle.json_parts.specs.declared.error.CertFault.{CertFault}
use Rattle.json_parts.specs.Outcome.{Outcome}
use Rattle.tile_sched.specs.declared.error.SchedFault.{SchedFault}
use Rattle.tile_sched.specs.declared.schedule.Key.{Key}
use Rattle.tile_sched.specs.OneSchedule.{IsTextFault, TextsHaveOneSchedule}
use Rattle.tile_sched.specs.Reading.{reads_schedule}
use Rattle.tile_sched.specs.Texts.{IsTextOf, read_fault}

same_outcome : (program : AffineProgram) (bytes : List ℕ) (d e : Data) → HasValue bytes d → HasValue bytes e → reads_schedule program d ≡ reads_schedule program e
same_outcome program bytes d e p q = ap (reads_schedule program) (same-value bytes d e p q)

schedule_one : (program : AffineProgram) (bytes : List ℕ) (one other : List (List Key)) → IsTextOf program bytes one → IsTextOf program bytes other → one ≡ other
schedule_one program bytes one other p q = same (reads_schedule program p.value) (reads_schedule program q.value) p.says q.says (same_outcome program bytes p.value q.value p.has q.has) where
  same : (r s : Outcome (List (List Key))) → r ≡ Ok one → s ≡ Ok other → r ≡ s → one ≡ other
  same r s x y is = cc

fault_is : (f g : SchedFault) → f.number ≡ g.number → f.place ≡ g.place → f ≡ g
fault_is f g n p = ap (λ (number : ℕ). let fault : SchedFault = record { number = number; place = f.place } in fault) n ∙ ap (λ (place : List Step). let fault : SchedFault = record { number = g.number; place = place } in fault) p

fault_one : (program : AffineProgram) (bytes : List ℕ) (f g : SchedFault) → IsTextFault program bytes f → IsTextFault program bytes g → f ≡ g
fault_one program bytes f g (inl none) (inl also) = fault_is f g (none.number ∙ sym also.number) (none.place ∙ sym also.place)
fault_one program bytes f g (inl none) (inr first) = absurd (none.cause first.value first.has)
fault_one program bytes f g (inr first) (inl none) = absurd (none.cause first.value first.has)
fault_one program bytes f g (inr p) (inr q) =
    let same : read_fault f ≡ read_fault g = one (reads_schedule program p.value) (reads_schedule program q.value) p.says q.says (same_outcome program bytes p.value q.value p.has q.has) in
    fault_is f g (ap (λ (fault : CertFault). fault.number) same) (ap (λ (fault : CertFault). fault.place) same) where
      one : (r s : Outcome (List (List Key))) → r ≡ Err (read_fault f) → s ≡ Err (read_fault g) → r ≡ s → read_fault f ≡ read_fault g
      one r s x y is = cc

never_both : (program : AffineProgram) (bytes : List ℕ) (schedule : List (List Key)) (fault : SchedFault) → IsTextOf program bytes schedule → IsTextFault program bytes fault → ⊥
never_both program bytes schedule fault p (inl none) = none.cause p.value p.has
never_both program bytes schedule fault p (inr q) = differ (reads_schedule program p.value) (reads_schedule program q.value) p.says q.says (same_outcome program bytes p.value q.value p.has q.has) where
  differ : (r s : Outcome (List (List Key))) → r ≡ Ok schedule → s ≡ Err (read_fault fault) → r ≡ s → ⊥
  differ r s x y is = cc

pub texts_one : TextsHaveOneSchedule
texts_one = record { one_schedule = schedule_one; one_fault = fault_one; either = never_both }
