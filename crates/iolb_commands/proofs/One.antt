-- That a call has one outcome.
use Rattle.std.proofs.Common.{◌≡◌, ◌≢◌, ◌⊎◌, refl, sym, ◌∙◌, ap, subst, inl, inr, ℕ, List, []}
use Rattle.std.specs.Prelude.{ℤ, Option, Some, None}
use Rattle.iolb_model.specs.Bound.{AreMet}
use Rattle.iolb_model.specs.Graph.{computation_graph}
use Rattle.iolb_model.specs.Program.{AffineProgram}
use Rattle.memory_levels.specs.Values.{IsWideAtLevels}
use Rattle.parallel_bound.specs.Widths.{HasWideParallelBranch}
use Rattle.c_grammar.specs.Program.{Means}
use Rattle.command_words.specs.Requests.{Request, Task, checks, evaluates, shares, levels, Work, judges, replays, climbs, bounds_traffic, bounds, samples, file_at, request_of}
use Rattle.iolb_check.specs.declared.bound.Value.{Value}
use Rattle.iolb_check.specs.Bounds.{HasWideBranch}
use Rattle.iolb_host.specs.Files.{FileMap}
use Rattle.iolb_commands.specs.declared.status.Status.{Status}
use Rattle.iolb_commands.specs.declared.status.Status.TheVariants.{Done, Refused, Words as WordsRefused, ProgramText as ProgramRefused, OtherText, FileAbsent, ReadFault, WriteFault, Wide as WideValue, NoMemory}
use Rattle.iolb_commands.specs.declared.stop.Stop.{Stop}
use Rattle.iolb_commands.specs.Laws.{GainSame, IsUndisturbed, OutcomesAreOne, HasAnswer, ValidCertificatesPass, OthersNeverPass, PlayableSchedulesPass, CompletePlaysPass, ReadableProgramsHaveCertificates, SamplesAreAnswered, ValidStoresPass, WriteAlike}
use Rattle.iolb_commands.specs.Lines.{usage}
use Rattle.iolb_commands.specs.Outcome.{Call, IsStopped, Outcome, Stops}
use Rattle.iolb_commands.specs.Phases.{End, stops, answers, RequestComes, TaskComes, WorkBegins, WorkComes}
use Rattle.tile_sched.proofs.Refusals.{none_some, same_some}
use Rattle.iolb_commands.specs.Held.{HoldsCertificate, HoldsMoves, HoldsProgram, HoldsSchedule, HoldsStores}
use Rattle.iolb_commands.specs.Stop.{stop_line, stop_status}
use Rattle.iolb_commands.specs.Works.{HasSizes, sizes_for}
use Rattle.iolb_commands.specs.Use.{CallUse, Gains, Stays}
use Rattle.iolb_check.specs.Conditions.{MeetsConditions}
use Rattle.iolb_commands.proofs.Ends.{AreExact, AreFree, request_one, through_file, through_narrow, through_sizes, to_work}
use Rattle.iolb_commands.proofs.Notes.{nothing}
use Rattle.iolb_commands.proofs.Phases.{IsPlainEnd, answered, found, through}
use Rattle.iolb_commands.proofs.PlainStops.{plain}

-- ---- what a call comes to

abbrev pub end_status : End → Status
end_status (stops stop) = stop_status stop
end_status (answers text note) = Done

-- what such an end leaves
abbrev pub Leaves : Request → End → CallUse → Type 0
Leaves request (stops stop) left = Gains left.output [] × Gains left.error (stop_line request.files stop)
Leaves request (answers text note) left = Gains left.output text × Gains left.error note

-- A call's request came to this end, and left the sinks so with this status.
pub record EndsSo (map : FileMap) (words : List (List ℕ)) (status : Status) (left : CallUse) : Type 0 where
  pub request : Request
  pub asked : request_of words ≡ Some request
  pub end : End
  pub comes : RequestComes (Some map) request end
  pub ok : IsPlainEnd end
  pub status_is : end_status end ≡ status
  pub leaves : Leaves request end left

-- the words ask for nothing, and the call said so
pub record IsRefused (words : List (List ℕ)) (status : Status) (left : CallUse) : Type 0 where
  pub asked : request_of words ≡ None
  pub status_is : status ≡ WordsRefused
  pub output : Gains left.output []
  pub error : Gains left.error usage

abbrev pub Ends : FileMap → List (List ℕ) → Status → CallUse → Type 0
Ends map words status left = IsRefused words status left ⊎ EndsSo map words status left

done_so : (map : FileMap) (words : List (List ℕ)) (left : CallUse) → Outcome Done (record { words = words; files = Some map }) left → Ends map words Done left
done_so map words left (text, note, done, gains, noted) = inr (record {
  request = done.request;
  asked = done.asked;
  end = answers text note;
  comes = done.answered;
  ok = tt;
  status_is = refl;
  leaves = (gains, noted);
})

stopped_so : (map : FileMap) (words : List (List ℕ)) (status : Status) (left : CallUse) (stop : Stop) (line : List ℕ) → Stops (record { words = words; files = Some map }) left.files stop line
    → stop_status stop ≡ status → Stays left.output → Gains left.error line → IsUndisturbed left → status ≢ NoMemory → Ends map words status left
stopped_so map words status left stop line (inl at_words) is stays gains calm differs = inl (record {
  asked = at_words.cause;
  status_is = sym is ∙ ap stop_status at_words.words;
  output = nothing left.output stays;
  error = subst (λ (l : List ℕ). Gains left.error l) at_words.says gains;
})
stopped_so map words status left stop line (inr (inl want)) is stays gains calm differs = absurd (differs (sym is ∙ ap stop_status want.memory))
stopped_so map words status left stop line (inr (inr stopped)) is stays gains calm differs = inr (record {
  request = stopped.request;
  asked = stopped.asked;
  end = stops stop;
  comes = stopped.cause;
  ok = plain stopped.request.files stop left.files.before left.files.after stopped.noted calm.files (λ e. differs (sym is ∙ e));
  status_is = is;
  leaves = (nothing left.output stays, subst (λ (l : List ℕ). Gains left.error l) stopped.says gains);
})

stopped : (map : FileMap) (words : List (List ℕ)) (status : Status) (left : CallUse) → IsStopped status (record { words = words; files = Some map }) left → IsUndisturbed left → status ≢ NoMemory → Ends map words status left
stopped map words status left is calm differs = stopped_so map words status left is.stop is.line is.stops is.status_is is.output_stays is.error_gains calm differs

ends_by : (map : FileMap) (words : List (List ℕ)) (status : Status) (left : CallUse) → Outcome status (record { words = words; files = Some map }) left → IsUndisturbed left → status ≢ NoMemory → Ends map words status left
ends_by map words Done left outcome calm differs = done_so map words left outcome
ends_by map words Refused left outcome calm differs = stopped map words Refused left outcome calm differs
ends_by map words WordsRefused left outcome calm differs = stopped map words WordsRefused left outcome calm differs
ends_by map words ProgramRefused left outcome calm differs = stopped map words ProgramRefused left outcome calm differs
ends_by map words OtherText left outcome calm differs = stopped map words OtherText left outcome calm differs
ends_by map words FileAbsent left outcome calm differs = stopped map words FileAbsent left outcome calm differs
ends_by map words ReadFault left outcome calm differs = stopped map words ReadFault left outcome calm differs
ends_by map words WriteFault left (inl (text, note, done, fails, stays)) calm differs = absurd (calm.output fails.0)
ends_by map words WriteFault left (inr (inl (line, due, stays, fails))) calm differs = absurd (calm.error fails.0)
ends_by map words WriteFault left (inr (inr (inl (off, fails)))) calm differs = absurd (calm.error fails.0)
ends_by map words WriteFault left (inr (inr (inr (text, note, done, gains, fails)))) calm differs = absurd (calm.error fails.0)
ends_by map words WideValue left outcome calm differs = stopped map words WideValue left outcome calm differs
ends_by map words NoMemory left outcome calm differs = absurd (differs refl)

told : (call : Call) (map : FileMap) (status : Status) (left : CallUse) → call.files ≡ Some map → Outcome status call left → Outcome status (record { words = call.words; files = Some map }) left
told call map status left e outcome = subst (λ (files : Option FileMap). Outcome status (record { words = call.words; files = files }) left) e outcome

pub ends_so : (call : Call) (map : FileMap) (status : Status) (left : CallUse) → call.files ≡ Some map → Outcome status call left → IsUndisturbed left → status ≢ NoMemory → Ends map call.words status left
ends_so call map status left tells outcome calm differs = ends_by map call.words status left (told call map status left tells outcome) calm differs

-- ---- one outcome

alike : (request : Request) (end : End) (one other : CallUse) → Leaves request end one → Leaves request end other → GainSame one.output other.output × GainSame one.error other.error
alike request (stops stop) one other here there = (([], here.0, there.0), (stop_line request.files stop, here.1, there.1))
alike request (answers text note) one other here there = ((text, here.0, there.0), (note, here.1, there.1))

pub outcomes_one : AreExact → OutcomesAreOne
outcomes_one exact call map one other status another tells outcome also calm quiet differs apart =
    by (ends_so call map status one tells outcome calm differs) (ends_so call map another other tells also quiet apart) where
      -- two ends of one request
      same : (first : EndsSo map call.words status one) (end : End) → RequestComes (Some map) first.request end → IsPlainEnd end → end_status end ≡ another → Leaves first.request end other
          → (first.end ≡ end) ⊎ AreFree map first.request first.end end → (status ≡ another) × WriteAlike call status one other
      same first end comes ok is leaves (inl e) =
          (sym first.status_is ∙ ap end_status e ∙ is, inl (alike first.request end one other (subst (λ (z : End). Leaves first.request z one) e first.leaves) leaves))
      same first end comes ok is leaves (inr (inl (works, program, holds, (text, note, bounded, here), (other_text, other_note, also_bounded, there)))) =
          let mine = subst (λ (z : End). Leaves first.request z one) here first.leaves in
          let others = subst (λ (z : End). Leaves first.request z other) there leaves in
          let done : status ≡ Done = sym first.status_is ∙ ap end_status here in (
            done ∙ sym (ap end_status there) ∙ is,
            inr (
              done,
              inl (record {
                request = first.request;
                asked = first.asked;
                bounds_it = works;
                program = program;
                holds_program = subst (λ (files : Option FileMap). HoldsProgram files (file_at first.request.files 0) program) (sym tells) holds;
                first = record { text = text; note = note; bounded = bounded; output = mine.0; error = mine.1 };
                second = record { text = other_text; note = other_note; bounded = also_bounded; output = others.0; error = others.1 };
              }),
            ),
          )
      same first end comes ok is leaves (inr (inr (products, works, (text, note, sampled, here), (other_text, other_note, also_sampled, there)))) =
          let mine = subst (λ (z : End). Leaves first.request z one) here first.leaves in
          let others = subst (λ (z : End). Leaves first.request z other) there leaves in
          let done : status ≡ Done = sym first.status_is ∙ ap end_status here in (
            done ∙ sym (ap end_status there) ∙ is,
            inr (
              done,
              inr (record {
                request = first.request;
                asked = first.asked;
                products = products;
                samples_it = works;
                first = record { text = text; note = note; sampled = sampled; output = mine.0; error = mine.1 };
                second = record { text = other_text; note = other_note; sampled = also_sampled; output = others.0; error = others.1 };
              }),
            ),
          )

      by : Ends map call.words status one → Ends map call.words another other → (status ≡ another) × WriteAlike call status one other
      by (inl first) (inl second) = (first.status_is ∙ sym second.status_is, inl (([], first.output, second.output), (usage, first.error, second.error)))
      by (inl first) (inr second) = absurd (none_some (request_of call.words) second.request first.asked second.asked)
      by (inr first) (inl second) = absurd (none_some (request_of call.words) first.request second.asked first.asked)
      by (inr first) (inr second) =
          let asks : second.request ≡ first.request = same_some second.request first.request (sym second.asked ∙ first.asked) in
          let comes = subst (λ (r : Request). RequestComes (Some map) r second.end) asks second.comes in
          same first second.end comes second.ok second.status_is (subst (λ (r : Request). Leaves r second.end other) asks second.leaves)
          (request_one exact map first.request first.end second.end first.ok second.ok first.comes comes)

-- ---- calls that are done

pub memory_or : (status : Status) → (status ≡ NoMemory) ⊎ (status ≢ NoMemory)
memory_or Done = inr (λ e. absurd cc)
memory_or Refused = inr (λ e. absurd cc)
memory_or WordsRefused = inr (λ e. absurd cc)
memory_or ProgramRefused = inr (λ e. absurd cc)
memory_or OtherText = inr (λ e. absurd cc)
memory_or FileAbsent = inr (λ e. absurd cc)
memory_or ReadFault = inr (λ e. absurd cc)
memory_or WriteFault = inr (λ e. absurd cc)
memory_or WideValue = inr (λ e. absurd cc)
memory_or NoMemory = inl refl

-- an end that answers, however
abbrev pub IsAnswerEnd : End → Type 0
IsAnswerEnd end = (text note : List ℕ) × (end ≡ answers text note)

-- a call whose work can only be answered passes
passes : AreExact → (call : Call) (map : FileMap) (request : Request) (work : Work) (program : AffineProgram) (left : CallUse) (status : Status) → call.files ≡ Some map
    → request_of call.words ≡ Some request → request.work ≡ work → HoldsProgram call.files (file_at request.files 0) program → (sizes : List ℤ) → sizes_for work program.parameters ≡ Some sizes
    → ((end : End) → IsPlainEnd end → WorkComes (Some map) request.files work program sizes end → IsAnswerEnd end) → Outcome status call left → IsUndisturbed left
    → (status ≡ Done) ⊎ (status ≡ NoMemory)
passes exact call map request work program left status tells asked works holds sizes given only outcome calm =
    elim (memory_or status) [ inl is ↦ inr is | inr differs ↦ inl (by (ends_so call map status left tells outcome calm differs)) ] where
      by : Ends map call.words status left → status ≡ Done
      by (inl refused) = absurd (none_some (request_of call.words) request refused.asked asked)
      by (inr so) =
          let comes = subst (λ (r : Request). RequestComes (Some map) r so.end) (same_some so.request request (sym so.asked ∙ asked)) so.comes in
          let there = subst (λ (files : Option FileMap). HoldsProgram files (file_at request.files 0) program) tells holds in
          let at_work = to_work exact map so.end so.ok request program sizes there (subst (λ (w : Work). sizes_for w program.parameters ≡ Some sizes) (sym works) given) comes in
          let is = only so.end so.ok (subst (λ (w : Work). WorkComes (Some map) request.files w program sizes so.end) works at_work) in
          sym so.status_is ∙ ap end_status is.2

-- the sizes of a task that can be answered
has_sizes : (task : Task) (program : AffineProgram) (values : List (List Value)) → HasAnswer task program values → HasSizes (judges task) program.parameters
has_sizes checks program values has = ([], refl)
has_sizes (evaluates s named) program values has = (has.0, has.1)
has_sizes (shares processors s named) program values has = (has.0, has.1)
has_sizes (levels capacities named) program values has = (has.0, has.1)

-- a task that can be answered is
task_done : (task : Task) (program : AffineProgram) (sizes : List ℤ) (values : List (List Value)) → HasAnswer task program values → sizes_for (judges task) program.parameters ≡ Some sizes
    → (end : End) → IsPlainEnd end → TaskComes task program sizes values end → IsAnswerEnd end
task_done checks program sizes values has given end ok comes = let so = answered end ok comes in (so.0, so.1, so.3)
task_done (evaluates s named) program sizes values (named_sizes, gives, admitted, narrow) given end ok comes =
    let same : named_sizes ≡ sizes = same_some named_sizes sizes (sym gives ∙ given) in
    let met = subst (λ (z : List ℤ). AreMet program.assumptions z) same admitted.met in
    let never = subst (λ (z : List ℤ). ¬ HasWideBranch z s values) same narrow in
    let so = answered end ok (through_narrow end ok _ _ never (through_sizes end ok program.assumptions sizes _ met comes)) in (so.0, so.1, so.3)
task_done (shares processors s named) program sizes values (named_sizes, gives, admitted, narrow) given end ok comes =
    let same : named_sizes ≡ sizes = same_some named_sizes sizes (sym gives ∙ given) in
    let met = subst (λ (z : List ℤ). AreMet program.assumptions z) same admitted.met in
    let never = subst (λ (z : List ℤ). ¬ HasWideParallelBranch z processors s values) same narrow in
    let so = answered end ok (through_narrow end ok _ _ never (through_sizes end ok program.assumptions sizes _ met comes)) in (so.0, so.1, so.3)
task_done (levels capacities named) program sizes values (named_sizes, gives, admitted, narrow) given end ok comes =
    let same : named_sizes ≡ sizes = same_some named_sizes sizes (sym gives ∙ given) in
    let met = subst (λ (z : List ℤ). AreMet program.assumptions z) same admitted.met in
    let never = subst (λ (z : List ℤ). ¬ IsWideAtLevels z capacities values) same narrow in
    let so = answered end ok (through_narrow end ok _ _ never (through_sizes end ok program.assumptions sizes _ met comes)) in (so.0, so.1, so.3)

pub valid_pass : AreExact → ValidCertificatesPass
valid_pass exact call request task program claim left status reads hold has outcome calm =
    let values = exact.have_values program claim hold in
    let able = has values.0 values.1 in
    let sizes = has_sizes task program values.0 able in
    let held = subst (λ (files : Option FileMap). HoldsCertificate files (file_at request.files 1) claim) reads.told reads.holds_certificate in
    passes exact call reads.map request (judges task) program left status reads.told reads.asked reads.judges_it reads.holds_program sizes.0 sizes.1
    (λ end ok comes. task_done task program sizes.0 values.0 able sizes.1 end ok
    (through values.0 (λ failed fails _. exact.stand program claim failed hold fails) (λ other valid. exact.one_values program claim other values.0 valid values.1) end ok
    (through claim (λ fault faulty _. exact.one_answer.either held.bytes claim fault held.has faulty) (λ other again. exact.one_certificate held.bytes other claim again held.has) end ok
    (through_file exact reads.map end ok request.files (judges task) 1 _ held.bytes held.content comes)))) outcome calm

pub playable_pass : AreExact → PlayableSchedulesPass
playable_pass exact call request s named program schedule sizes order left status reads given can outcome calm =
    let held = subst (λ (files : Option FileMap). HoldsSchedule files (file_at request.files 1) program schedule) reads.told reads.holds_schedule in
    passes exact call reads.map request (replays s named) program left status reads.told reads.asked reads.replays_it reads.holds_program sizes given
    (λ end ok comes. let so = answered end ok
    (through order (λ unplayed kept _. exact.played_or_refused program schedule sizes s order unplayed can kept) (λ other plays. exact.one_order program schedule sizes s other order plays can) end ok
    (through schedule (λ fault faulty _. exact.schedules.either program held.bytes schedule fault held.has faulty) (λ other again. exact.schedules.one_schedule program held.bytes other schedule again held.has) end ok
    (through_file exact reads.map end ok request.files (replays s named) 1 _ held.bytes held.content comes))) in (so.0, so.1, so.3)) outcome calm

pub climbs_pass : AreExact → CompletePlaysPass
climbs_pass exact call request capacities named program moves sizes left status reads given met few complete outcome calm =
    let held = subst (λ (files : Option FileMap). HoldsMoves files (file_at request.files 1) moves) reads.told reads.holds_moves in
    let graph = computation_graph program sizes in
    passes exact call reads.map request (climbs capacities named) program left status reads.told reads.asked reads.climbs_it reads.holds_program sizes given
    (λ end ok comes. let so = answered end ok
    (through tt (λ v first _. exact.complete_or_not graph capacities moves v complete first) (λ _ _. refl) end ok
    (through tt (λ refused first _. exact.legal_or_not graph capacities moves refused.0 refused.1 complete.allowed first) (λ _ _. refl) end ok
    (through tt (λ _ many _. many few) (λ _ _. refl) end ok
    (through_sizes end ok program.assumptions sizes _ met
    (through moves (λ place bad _. exact.moves_or_line held.bytes moves place held.has bad) (λ other has. exact.one_list held.bytes other moves has held.has) end ok
    (through_file exact reads.map end ok request.files (climbs capacities named) 1 _ held.bytes held.content comes)))))) in (so.0, so.1, so.3)) outcome calm

pub stores_pass : AreExact → ValidStoresPass
stores_pass exact call request s named program claim stores values counts sizes left status reads valid counted given met narrow outcome calm =
    let held = subst (λ (files : Option FileMap). HoldsCertificate files (file_at request.files 1) claim) reads.told reads.holds_certificate in
    let stored = subst (λ (files : Option FileMap). HoldsStores files (file_at request.files 2) stores) reads.told reads.holds_stores in
    let work = bounds_traffic s named in
    passes exact call reads.map request work program left status reads.told reads.asked reads.bounds_it reads.holds_program sizes given
    (λ end ok comes. let so = answered end ok
    (through_narrow end ok _ _ narrow
    (through_sizes end ok program.assumptions sizes _ met
    (through counts (λ failed fails _. exact.stores_stand program claim stores failed counted.accepted fails)
    (λ other again. exact.one_counts program claim stores other counts again counted) end ok
    (through values (λ failed fails _. exact.stand program claim failed valid.accepted fails) (λ other again. exact.one_values program claim other values again valid) end ok
    (through stores (λ fault faulty _. exact.stores.either stored.bytes stores fault stored.has faulty) (λ other again. exact.stores.one_stores stored.bytes other stores again stored.has) end ok
    (through_file exact reads.map end ok request.files work 2 _ stored.bytes stored.content
    (through claim (λ fault faulty _. exact.one_answer.either held.bytes claim fault held.has faulty) (λ other again. exact.one_certificate held.bytes other claim again held.has) end ok
    (through_file exact reads.map end ok request.files work 1 _ held.bytes held.content comes)))))))) in (so.0, so.1, so.3)) outcome calm

pub readable_pass : AreExact → ReadableProgramsHaveCertificates
readable_pass exact call map request program left status tells asked works holds outcome calm =
    passes exact call map request bounds program left status tells asked works holds [] refl (λ end ok comes. let so = answered end ok comes in (so.0, so.1, so.3)) outcome calm

pub samples_pass : SamplesAreAnswered
samples_pass call map request products left status tells asked works outcome calm =
    elim (memory_or status) [ inl is ↦ inr is | inr differs ↦ inl (by (ends_so call map status left tells outcome calm differs)) ] where
      by : Ends map call.words status left → status ≡ Done
      by (inl refused) = absurd (none_some (request_of call.words) request refused.asked asked)
      by (inr so) =
          let comes = subst (λ (r : Request). RequestComes (Some map) r so.end) (same_some so.request request (sym so.asked ∙ asked)) so.comes in
          let is = answered so.end so.ok (subst (λ (w : Work). WorkBegins (Some map) request.files w so.end) works comes) in
          sym so.status_is ∙ ap end_status is.3

pub same_program : AreExact → (map : FileMap) (name : List ℕ) (p q : AffineProgram) → HoldsProgram (Some map) name p → HoldsProgram (Some map) name q → p ≡ q
same_program exact map name p q holds again =
    exact.one_program again.source p q (subst (λ (bytes : List ℕ). Means bytes p) (same_some holds.source again.source (sym holds.content.told ∙ again.content.told)) holds.means) again.means

pub others_never : AreExact → OthersNeverPass
others_never exact call request task program claim left status reads never outcome is =
    fails (told call reads.map Done left reads.told (subst (λ (s : Status). Outcome s call left) is outcome)) where
      holds : HoldsProgram (Some reads.map) (file_at request.files 0) program
      holds = subst (λ (files : Option FileMap). HoldsProgram files (file_at request.files 0) program) reads.told reads.holds_program

      held : HoldsCertificate (Some reads.map) (file_at request.files 1) claim
      held = subst (λ (files : Option FileMap). HoldsCertificate files (file_at request.files 1) claim) reads.told reads.holds_certificate

      fails : Outcome Done (record { words = call.words; files = Some reads.map }) left → ⊥
      fails (text, note, done, gains, noted) =
          let end : End = answers text note in
          let comes = subst (λ (r : Request). RequestComes (Some reads.map) r end) (same_some done.request request (sym done.asked ∙ reads.asked)) done.answered in
          let file = found text note (subst (λ (w : Work). WorkBegins (Some reads.map) request.files w end) reads.judges_it comes) in
          let read = found text note file.2 in
          let given = found text note read.2 in
          let same = same_program exact reads.map (file_at request.files 0) read.0 program (record { source = file.0; content = file.1; means = read.1 }) holds in
          let valid = found text note
          (through claim (λ fault faulty _. exact.one_answer.either held.bytes claim fault held.has faulty) (λ other again. exact.one_certificate held.bytes other claim again held.has) end tt
          (through_file exact reads.map end tt request.files (judges task) 1 _ held.bytes held.content given.2)) in
          never valid.0 (subst (λ (q : AffineProgram). MeetsConditions q claim valid.0) same valid.1)
