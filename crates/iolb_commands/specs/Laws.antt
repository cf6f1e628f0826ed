-- A call has one outcome.
use Rattle.std.specs.Prelude.{◌≡◌, ◌≢◌, ◌⊎◌, ⊤, ℕ, ◌+◌, ◌≤◌, ◌<◌, ℤ, List, length, Some, None}
use Rattle.iolb_model.specs.declared.game.Move.{Move}
use Rattle.iolb_model.specs.Bound.{AreMet, Bound, IsAdmitted, bound_value}
use Rattle.iolb_model.specs.Game.{loads}
use Rattle.iolb_model.specs.Graph.{computation_graph}
use Rattle.iolb_model.specs.Program.{AffineProgram}
use Rattle.iolb_model.specs.Tower.{IsCompleteTower, tower_left}
use Rattle.iolb_model.specs.declared.tower.TowerMove.{TowerMove}
use Rattle.loop_graph.specs.Builds.{IsWithinReach}
use Rattle.memory_levels.specs.Climbs.{AreLegal, IsFirstIllegal}
use Rattle.memory_levels.specs.MovesText.{IsFirstBadLine}
use Rattle.memory_levels.specs.Towers.{IsFirstUnfinished}
use Rattle.memory_levels.specs.Values.{IsWideAtLevels}
use Rattle.memory_levels.specs.declared.illegal.TowerIllegal.{TowerIllegal}
use Rattle.parallel_bound.specs.Widths.{HasWideParallelBranch}
use Rattle.iolb_check.specs.Claims.{CertificateClaim}
use Rattle.command_words.specs.Requests.{Request, Task, checks, evaluates, shares, levels, judges, replays, climbs, bounds_traffic, bounds, samples, file_at, request_of}
use Rattle.command_words.specs.Sizes.{NamedSize, values_for}
use Rattle.iolb_check.specs.declared.bound.Value.{Value}
use Rattle.iolb_check.specs.Bounds.{HasWideBranch}
use Rattle.iolb_host.specs.declared.files.FileFault.{FileFault}
use Rattle.iolb_host.specs.Faults.{absences, failure_count}
use Rattle.iolb_host.specs.Files.{FileMap, content_of}
use Rattle.iolb_host.specs.MemFiles.{SureStore}
use Rattle.iolb_host.specs.MemSink.{SureBytes}
use Rattle.iolb_commands.specs.declared.status.Status.{Status}
use Rattle.iolb_commands.specs.declared.status.Status.TheVariants.{Done, Refused, Words as WordsRefused, OtherText as TextRefused, FileAbsent, ReadFault, WriteFault, NoMemory}
use Rattle.iolb_commands.specs.declared.stop.Stop.{Stop}
use Rattle.poly_tree.specs.Poly.{Quotient}
use Rattle.store_bound.specs.Conditions.{MeetStores, stores_conditions}
use Rattle.store_bound.specs.Values.{IsWideTraffic}
use Rattle.store_terms.specs.Claims.{StoresClaim}
use Rattle.tile_sched.specs.declared.schedule.Key.{Key}
use Rattle.tile_sched.specs.Lines.{play_text}
use Rattle.tile_sched.specs.Plays.{CanBePlayed}
use Rattle.iolb_commands.specs.Bounded.{IsBounded}
use Rattle.iolb_commands.specs.Held.{HoldsCertificate, HoldsMoves, HoldsProgram, HoldsSchedule, HoldsStores}
use Rattle.iolb_commands.specs.Outcome.{Call, Outcome}
use Rattle.iolb_commands.specs.Phases.{RequestStop}
use Rattle.iolb_commands.specs.Lines.{condition_line, file_line, illegal_line, moves_line, not_complete_line, stores_condition_line, usage}
use Rattle.iolb_commands.specs.Reading.{IsAbsent, IsContent}
use Rattle.iolb_commands.specs.Sampled.{IsSampled}
use Rattle.iolb_commands.specs.Stop.{IsPlain, stop_line, stop_status}
use Rattle.iolb_commands.specs.Traffic.{traffic_loads, traffic_stores}
use Rattle.iolb_commands.specs.Use.{CallUse, SinkUse, Fails, Gains, Stays, files_use, sink_use}
use Rattle.iolb_commands.specs.Works.{HasSizes, most_bytes}
use Rattle.iolb_commands.specs.Values.{values_text}
use Rattle.iolb_check.specs.Conditions.{MeetsConditions, conditions}
use Rattle.claims.specs.Claims.{AllHold, FirstFails}
use Rattle.claims.specs.declared.refused.FailedCondition.{FailedCondition}
use Rattle.iolb_model.specs.declared.limits.TheConstants.{CERTIFICATE_BYTES, MOVES_BYTES, PROGRAM_BYTES}

-- No read failed in a call, and no write: no count of faults rose.
pub record IsUndisturbed (left : CallUse) : Type 0 where
  pub files : failure_count left.files.after ≡ failure_count left.files.before
  pub output : ¬ Fails left.output
  pub error : ¬ Fails left.error

-- two sinks have gained the same bytes
abbrev pub GainSame : SinkUse → SinkUse → Type 0
GainSame one other = (bytes : List ℕ) × Gains one bytes × Gains other bytes

-- A certificate was printed that meets the conditions for a program: its text to the output, and that of its bound, which holds,
-- to the standard error.
pub record PrintsBound (program : AffineProgram) (left : CallUse) : Type 0 where
  pub text : List ℕ
  pub note : List ℕ
  pub bounded : IsBounded program text note
  pub output : Gains left.output text
  pub error : Gains left.error note

-- The words ask for a certificate of the program that their file holds, and both times one was printed. (Which one isn't said.)
pub record BothPrintBounds (call : Call) (one other : CallUse) : Type 0 where
  pub request : Request
  pub asked : request_of call.words ≡ Some request
  pub bounds_it : request.work ≡ bounds
  pub program : AffineProgram
  pub holds_program : HoldsProgram call.files (file_at request.files 0) program
  pub first : PrintsBound program one
  pub second : PrintsBound program other

-- The value of a certificate of so many matrix products was printed, which meets the conditions.
pub record PrintsSample (products : ℕ) (left : CallUse) : Type 0 where
  pub text : List ℕ
  pub note : List ℕ
  pub sampled : IsSampled products text note
  pub output : Gains left.output text
  pub error : Gains left.error note

-- The words ask for so many matrix products, and both times the value of a certificate of theirs was printed. (Of which isn't said.)
pub record BothPrintSamples (call : Call) (one other : CallUse) : Type 0 where
  pub request : Request
  pub asked : request_of call.words ≡ Some request
  pub products : ℕ
  pub samples_it : request.work ≡ samples products
  pub first : PrintsSample products one
  pub second : PrintsSample products other

-- Two calls have written the same bytes, or both are done and have printed certificates of the program of the words, or values of
-- certificates of so many matrix products.
abbrev pub WriteAlike : Call → Status → CallUse → CallUse → Type 0
WriteAlike call status one other = (GainSame one.output other.output × GainSame one.error other.error)
    ⊎ ((status ≡ Done) × (BothPrintBounds call one other ⊎ BothPrintSamples call one other))

-- Of a call over files that tell what they hold: two outcomes of which none was disturbed, and none is want of memory, have
-- the same status, and the output and the standard error have gained the same bytes. Only where a certificate was to be made,
-- and was, the bytes may differ: both times they are those of a certificate that meets the conditions, and of its bound; or, of matrix
-- products, the value of such a one.
abbrev pub OutcomesAreOne : Type 0
OutcomesAreOne = (call : Call) (map : FileMap) (one other : CallUse) (status another : Status) → call.files ≡ Some map
    → Outcome status call one → Outcome another call other → IsUndisturbed one → IsUndisturbed other
    → status ≢ NoMemory → another ≢ NoMemory
    → (status ≡ another) × WriteAlike call status one other

-- ---- readable programs and certificates

-- The words make this request with this task, and its two files hold this program and this certificate.
pub record Reads (call : Call) (request : Request) (task : Task) (program : AffineProgram) (certificate : CertificateClaim) : Type 0 where
  pub map : FileMap
  pub told : call.files ≡ Some map
  pub asked : request_of call.words ≡ Some request
  pub judges_it : request.work ≡ judges task
  pub holds_program : HoldsProgram call.files (file_at request.files 0) program
  pub holds_certificate : HoldsCertificate call.files (file_at request.files 1) certificate

-- A task can be answered with these values of terms: an evaluation has sizes that meet the assumptions, at which no value is
-- beyond 128 bits.
abbrev pub HasAnswer : Task → AffineProgram → List (List Value) → Type 0
HasAnswer checks program values = ⊤
HasAnswer (evaluates s named) program values = (sizes : List ℤ) × (values_for program.parameters named ≡ Some sizes)
    × IsAdmitted program sizes × (¬ HasWideBranch sizes s values)
HasAnswer (shares processors s named) program values = (sizes : List ℤ) × (values_for program.parameters named ≡ Some sizes)
    × IsAdmitted program sizes × (¬ HasWideParallelBranch sizes processors s values)
HasAnswer (levels capacities named) program values = (sizes : List ℤ) × (values_for program.parameters named ≡ Some sizes)
    × IsAdmitted program sizes × (¬ IsWideAtLevels sizes capacities values)

-- A call about a certificate of which all conditions hold, and that can be answered with the values that the conditions give, ends
-- with 0 or for want of memory, where it wasn't disturbed. For `check` there is no more to be answered.
abbrev pub ValidCertificatesPass : Type 0
ValidCertificatesPass = (call : Call) (request : Request) (task : Task) (program : AffineProgram) (certificate : CertificateClaim) (left : CallUse) (status : Status)
    → Reads call request task program certificate → AllHold (conditions program certificate)
    → ((values : List (List Value)) → MeetsConditions program certificate values → HasAnswer task program values)
    → Outcome status call left → IsUndisturbed left → (status ≡ Done) ⊎ (status ≡ NoMemory)

-- A call about a certificate that doesn't meet the conditions never ends with 0.
abbrev pub OthersNeverPass : Type 0
OthersNeverPass = (call : Call) (request : Request) (task : Task) (program : AffineProgram) (certificate : CertificateClaim) (left : CallUse) (status : Status)
    → Reads call request task program certificate → ((values : List (List Value)) → MeetsConditions program certificate values → ⊥)
    → Outcome status call left → status ≢ Done

-- ---- readable programs and schedules

-- The words make this request, a replay, and its two files hold this program and this schedule of it.
pub record ReadsSchedule (call : Call) (request : Request) (s : ℕ) (named : List NamedSize) (program : AffineProgram) (schedule : List (List Key)) : Type 0 where
  pub map : FileMap
  pub told : call.files ≡ Some map
  pub asked : request_of call.words ≡ Some request
  pub replays_it : request.work ≡ replays s named
  pub holds_program : HoldsProgram call.files (file_at request.files 0) program
  pub holds_schedule : HoldsSchedule call.files (file_at request.files 1) program schedule

-- A call about a schedule that can be played at the sizes ends with 0 or for want of memory, where it wasn't disturbed.
abbrev pub PlayableSchedulesPass : Type 0
PlayableSchedulesPass = (call : Call) (request : Request) (s : ℕ) (named : List NamedSize) (program : AffineProgram) (schedule : List (List Key)) (sizes : List ℤ) (order : List ℕ)
    (left : CallUse) (status : Status)
    → ReadsSchedule call request s named program schedule → values_for program.parameters named ≡ Some sizes → CanBePlayed program schedule sizes s order
    → Outcome status call left → IsUndisturbed left → (status ≡ Done) ⊎ (status ≡ NoMemory)

-- ---- moves over levels of memory

-- The words make this request, to play moves over levels, and its two files hold this program and these moves.
pub record ReadsMoves (call : Call) (request : Request) (capacities : List ℕ) (named : List NamedSize) (program : AffineProgram) (moves : List TowerMove) : Type 0 where
  pub map : FileMap
  pub told : call.files ≡ Some map
  pub asked : request_of call.words ≡ Some request
  pub climbs_it : request.work ≡ climbs capacities named
  pub holds_program : HoldsProgram call.files (file_at request.files 0) program
  pub holds_moves : HoldsMoves call.files (file_at request.files 1) moves

-- A call about moves that are a complete play at sizes whose graph is within reach ends with 0 or for want of memory, where it wasn't
-- disturbed.
abbrev pub CompletePlaysPass : Type 0
CompletePlaysPass = (call : Call) (request : Request) (capacities : List ℕ) (named : List NamedSize) (program : AffineProgram) (moves : List TowerMove) (sizes : List ℤ)
    (left : CallUse) (status : Status)
    → ReadsMoves call request capacities named program moves → values_for program.parameters named ≡ Some sizes → AreMet program.assumptions sizes → IsWithinReach program sizes
    → IsCompleteTower (computation_graph program sizes) capacities moves
    → Outcome status call left → IsUndisturbed left → (status ≡ Done) ⊎ (status ≡ NoMemory)

-- ---- stores

-- The words make this request, to bound loads and stores together, and its three files hold this program, this certificate and these
-- stores.
pub record ReadsStores (call : Call) (request : Request) (s : ℕ) (named : List NamedSize) (program : AffineProgram) (certificate : CertificateClaim) (stores : StoresClaim) : Type 0 where
  pub map : FileMap
  pub told : call.files ≡ Some map
  pub asked : request_of call.words ≡ Some request
  pub bounds_it : request.work ≡ bounds_traffic s named
  pub holds_program : HoldsProgram call.files (file_at request.files 0) program
  pub holds_certificate : HoldsCertificate call.files (file_at request.files 1) certificate
  pub holds_stores : HoldsStores call.files (file_at request.files 2) stores

-- A call about a certificate and stores that meet their conditions, at sizes that meet the assumptions and at which nothing is beyond
-- 128 bits, ends with 0 or for want of memory, where it wasn't disturbed.
abbrev pub ValidStoresPass : Type 0
ValidStoresPass = (call : Call) (request : Request) (s : ℕ) (named : List NamedSize) (program : AffineProgram) (certificate : CertificateClaim) (stores : StoresClaim)
    (values : List (List Value)) (counts : List Quotient) (sizes : List ℤ) (left : CallUse) (status : Status)
    → ReadsStores call request s named program certificate stores → MeetsConditions program certificate values → MeetStores program certificate stores counts
    → values_for program.parameters named ≡ Some sizes → AreMet program.assumptions sizes
    → (¬ IsWideTraffic sizes s values counts (traffic_loads program values sizes s + traffic_stores certificate stores values counts sizes s))
    → Outcome status call left → IsUndisturbed left → (status ≡ Done) ⊎ (status ≡ NoMemory)

-- ---- readable programs

-- A call for a certificate of a readable program ends with 0 or for want of memory, where it wasn't disturbed.
abbrev pub ReadableProgramsHaveCertificates : Type 0
ReadableProgramsHaveCertificates = (call : Call) (map : FileMap) (request : Request) (program : AffineProgram) (left : CallUse) (status : Status)
    → call.files ≡ Some map → request_of call.words ≡ Some request → request.work ≡ bounds → HoldsProgram call.files (file_at request.files 0) program
    → Outcome status call left → IsUndisturbed left → (status ≡ Done) ⊎ (status ≡ NoMemory)

-- ---- matrix products

-- A call for matrix products ends with 0 or for want of memory, where it wasn't disturbed.
abbrev pub SamplesAreAnswered : Type 0
SamplesAreAnswered = (call : Call) (map : FileMap) (request : Request) (products : ℕ) (left : CallUse) (status : Status)
    → call.files ≡ Some map → request_of call.words ≡ Some request → request.work ≡ samples products
    → Outcome status call left → IsUndisturbed left → (status ≡ Done) ⊎ (status ≡ NoMemory)

-- ---- causes

-- A call ends with this status, has written this line to the standard error, and nothing to the output; or it ends for want of
-- memory.
abbrev pub EndsWith : Status → CallUse → Status → List ℕ → Type 0
EndsWith status left wanted line = ((status ≡ wanted) × Stays left.output × Gains left.error line) ⊎ (status ≡ NoMemory)

-- A call with words that ask for nothing that the program does ends with 2 and the usage text, or for want of memory, where it
-- wasn't disturbed.
abbrev pub OtherWordsAreRefused : Type 0
OtherWordsAreRefused = (call : Call) (map : FileMap) (left : CallUse) (status : Status) → call.files ≡ Some map → request_of call.words ≡ None
    → Outcome status call left → IsUndisturbed left → EndsWith status left WordsRefused usage

-- A call about a request with a cause to stop, other than a failed read and want of memory, ends with the status of that cause and
-- its line, or for want of memory, where it wasn't disturbed.
abbrev pub CausesAreAnswered : Type 0
CausesAreAnswered = (call : Call) (map : FileMap) (request : Request) (stop : Stop) (left : CallUse) (status : Status)
    → call.files ≡ Some map → request_of call.words ≡ Some request → RequestStop (Some map) request stop → IsPlain stop
    → Outcome status call left → IsUndisturbed left → EndsWith status left (stop_status stop) (stop_line request.files stop)

-- Where the program's file isn't there, or is longer than a program's may be, the call ends with 5 and its name, or for want of
-- memory, where it wasn't disturbed. (Matrix products have no file.)
abbrev pub AbsentProgramsAreNamed : Type 0
AbsentProgramsAreNamed = (call : Call) (map : FileMap) (request : Request) (fault : FileFault) (left : CallUse) (status : Status)
    → call.files ≡ Some map → request_of call.words ≡ Some request → 1 ≤ length request.files → IsAbsent (content_of map (file_at request.files 0)) PROGRAM_BYTES fault
    → Outcome status call left → IsUndisturbed left → EndsWith status left FileAbsent (file_line (file_at request.files 0) fault)

-- The same of the second file, where there is one, the program is readable, and its parameters are named.
abbrev pub AbsentSecondFilesAreNamed : Type 0
AbsentSecondFilesAreNamed = (call : Call) (map : FileMap) (request : Request) (program : AffineProgram) (fault : FileFault) (left : CallUse) (status : Status)
    → call.files ≡ Some map → request_of call.words ≡ Some request → HoldsProgram call.files (file_at request.files 0) program
    → 1 < length request.files → HasSizes request.work program.parameters → IsAbsent (content_of map (file_at request.files 1)) (most_bytes request.work 1) fault
    → Outcome status call left → IsUndisturbed left → EndsWith status left FileAbsent (file_line (file_at request.files 1) fault)

-- A call about a certificate of which a condition fails ends with 1 and the first that does, or for want of memory, where it wasn't
-- disturbed. (An evaluation names the program's parameters.)
abbrev pub FailingCertificatesAreRefused : Type 0
FailingCertificatesAreRefused = (call : Call) (request : Request) (task : Task) (program : AffineProgram) (certificate : CertificateClaim) (failed : FailedCondition) (left : CallUse) (status : Status)
    → Reads call request task program certificate → HasSizes (judges task) program.parameters → FirstFails (conditions program certificate) failed
    → Outcome status call left → IsUndisturbed left → EndsWith status left Refused (condition_line failed.condition failed.place)

-- ---- causes in the files behind the program's

-- Where the third file, that of stores, isn't there, or is longer than stores may be, and the files before it are readable and the
-- parameters named, the call ends with 5 and its name, or for want of memory, where it wasn't disturbed.
abbrev pub AbsentStoresAreNamed : Type 0
AbsentStoresAreNamed = (call : Call) (map : FileMap) (request : Request) (s : ℕ) (named : List NamedSize) (program : AffineProgram) (certificate : CertificateClaim) (fault : FileFault)
    (left : CallUse) (status : Status)
    → call.files ≡ Some map → request_of call.words ≡ Some request → request.work ≡ bounds_traffic s named → HoldsProgram call.files (file_at request.files 0) program
    → HoldsCertificate call.files (file_at request.files 1) certificate → HasSizes (bounds_traffic s named) program.parameters
    → IsAbsent (content_of map (file_at request.files 2)) CERTIFICATE_BYTES fault
    → Outcome status call left → IsUndisturbed left → EndsWith status left FileAbsent (file_line (file_at request.files 2) fault)

-- A call about stores of which a condition fails, beside a certificate that meets its own, ends with 1 and the first that does, or for
-- want of memory, where it wasn't disturbed.
abbrev pub FailingStoresAreRefused : Type 0
FailingStoresAreRefused = (call : Call) (request : Request) (s : ℕ) (named : List NamedSize) (program : AffineProgram) (certificate : CertificateClaim) (stores : StoresClaim)
    (values : List (List Value)) (failed : FailedCondition) (left : CallUse) (status : Status)
    → ReadsStores call request s named program certificate stores → HasSizes (bounds_traffic s named) program.parameters → MeetsConditions program certificate values
    → FirstFails (stores_conditions program certificate stores) failed
    → Outcome status call left → IsUndisturbed left → EndsWith status left Refused (stores_condition_line failed.condition failed.place)

-- A call about a text with a line that is none of a move ends with 4 and the first such line's first byte, or for want of memory, where
-- it wasn't disturbed.
abbrev pub OtherMovesAreRefused : Type 0
OtherMovesAreRefused = (call : Call) (map : FileMap) (request : Request) (capacities : List ℕ) (named : List NamedSize) (program : AffineProgram) (bytes : List ℕ) (place : ℕ)
    (left : CallUse) (status : Status)
    → call.files ≡ Some map → request_of call.words ≡ Some request → request.work ≡ climbs capacities named → HoldsProgram call.files (file_at request.files 0) program
    → HasSizes (climbs capacities named) program.parameters → IsContent (Some map) (file_at request.files 1) MOVES_BYTES bytes → IsFirstBadLine bytes place
    → Outcome status call left → IsUndisturbed left → EndsWith status left TextRefused (moves_line place)

-- A call about moves of which one isn't allowed, at sizes whose graph is within reach, ends with 1, the first such and its line, or for
-- want of memory, where it wasn't disturbed.
abbrev pub IllegalMovesAreRefused : Type 0
IllegalMovesAreRefused = (call : Call) (request : Request) (capacities : List ℕ) (named : List NamedSize) (program : AffineProgram) (moves : List TowerMove) (sizes : List ℤ)
    (line : ℕ) (illegal : TowerIllegal) (left : CallUse) (status : Status)
    → ReadsMoves call request capacities named program moves → values_for program.parameters named ≡ Some sizes → AreMet program.assumptions sizes → IsWithinReach program sizes
    → IsFirstIllegal (computation_graph program sizes) capacities moves line illegal
    → Outcome status call left → IsUndisturbed left → EndsWith status left Refused (illegal_line line illegal)

-- A call about moves that are allowed and leave an instance unfinished ends with 1 and the first such, or for want of memory, where it
-- wasn't disturbed.
abbrev pub UnfinishedPlaysAreRefused : Type 0
UnfinishedPlaysAreRefused = (call : Call) (request : Request) (capacities : List ℕ) (named : List NamedSize) (program : AffineProgram) (moves : List TowerMove) (sizes : List ℤ)
    (vertex : ℕ) (left : CallUse) (status : Status)
    → ReadsMoves call request capacities named program moves → values_for program.parameters named ≡ Some sizes → AreMet program.assumptions sizes → IsWithinReach program sizes
    → AreLegal (computation_graph program sizes) capacities moves
    → IsFirstUnfinished (computation_graph program sizes) (length capacities) (tower_left (computation_graph program sizes) capacities moves) vertex
    → Outcome status call left → IsUndisturbed left → EndsWith status left Refused (not_complete_line vertex)

-- ---- calls that nothing disturbs

-- A call in which no read and no write failed doesn't end with 6 or 7.
abbrev pub UndisturbedCallsHaveNoFault : Type 0
UndisturbedCallsHaveNoFault = (call : Call) (left : CallUse) (status : Status) → Outcome status call left → IsUndisturbed left → (status ≢ ReadFault) × (status ≢ WriteFault)

-- the use of a sink in memory of which every write succeeds
abbrev pub sure_sink : SureBytes → SureBytes → SinkUse
sure_sink old new = sink_use (λ (sink : SureBytes). Some sink.written) (λ _. 0) old new

-- Over files and sinks in memory of which every read and every write succeeds no call is disturbed.
abbrev pub SureCallsAreUndisturbed : Type 0
SureCallsAreUndisturbed = (files files_after : SureStore) (output output_after error error_after : SureBytes) → IsUndisturbed (record {
  files = files_use (λ (store : SureStore). absences store.faults) files files_after;
  output = sure_sink output output_after;
  error = sure_sink error error_after;
})

-- ---- bounds and plays

-- Two requests with the same S and the same sizes of a program's parameters: an evaluation and a replay.
pub record AreBeside (evaluation replay : Request) (program : AffineProgram) (s : ℕ) (named other : List NamedSize) : Type 0 where
  pub evaluates_it : evaluation.work ≡ judges (evaluates s named)
  pub replays_it : replay.work ≡ replays s other
  pub sizes : values_for program.parameters named ≡ values_for program.parameters other

-- Where one program stands in the first file of both, in whatever files and under whatever names, and both end with 0, the value
-- that the evaluation prints is at most the loads that the replay prints.
abbrev pub BoundsAreBelowPlays : Type 0
BoundsAreBelowPlays = (map map_other : FileMap) (words other : List (List ℕ)) (evaluation replay : Request) (program : AffineProgram) (s : ℕ) (named named_other : List NamedSize)
    (bounded played : CallUse) → request_of words ≡ Some evaluation → request_of other ≡ Some replay → AreBeside evaluation replay program s named named_other
    → HoldsProgram (Some map) (file_at evaluation.files 0) program → HoldsProgram (Some map_other) (file_at replay.files 0) program
    → Outcome Done (record { words = words; files = Some map }) bounded → Outcome Done (record { words = other; files = Some map_other }) played
    → (bound : Bound) × (sizes : List ℤ) × (moves : List Move)
    × Gains bounded.output (values_text bound sizes s) × Gains played.output (play_text moves) × (bound_value bound sizes s ≤ loads moves)
