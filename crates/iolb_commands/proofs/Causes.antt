-- That a cause to stop is answered.
use Rattle.std.proofs.Common.{◌≡◌, ◌≢◌, ◌≤◌, ◌<◌, refl, sym, ◌∙◌, ap, subst, inl, inr, ℕ, List, length, arith}
use Rattle.std.specs.Prelude.{◌⊎◌, ⊤, ℤ, Option, None, Some}
use Rattle.iolb_model.specs.Program.{AffineProgram}
use Rattle.iolb_model.specs.Bound.{AreMet}
use Rattle.iolb_model.specs.Graph.{computation_graph}
use Rattle.iolb_model.specs.declared.limits.TheConstants.{CERTIFICATE_BYTES, MOVES_BYTES, PROGRAM_BYTES}
use Rattle.iolb_model.specs.declared.tower.TowerMove.{TowerMove}
use Rattle.command_words.specs.Sizes.{NamedSize, values_for}
use Rattle.iolb_check.specs.Claims.{CertificateClaim}
use Rattle.loop_graph.specs.Builds.{IsWithinReach}
use Rattle.command_words.specs.Requests.{Request, Work, judges, replays, climbs, bounds_traffic, bounds, samples, file_at, request_of}
use Rattle.iolb_host.specs.Files.{FileMap, content_of}
use Rattle.iolb_host.specs.declared.files.FileFault.{FileFault}
use Rattle.iolb_host.specs.declared.files.FileFault.TheVariants.{Missing, TooLong, Failed, Memory as NoMemoryForFile}
use Rattle.iolb_commands.specs.declared.status.Status.{Status}
use Rattle.iolb_commands.specs.declared.status.Status.TheVariants.{FileAbsent, NoMemory, Refused as RefusedStatus, Words as WordsRefused}
use Rattle.iolb_commands.specs.declared.stop.OtherFault.TheVariants.{Moves}
use Rattle.iolb_commands.specs.declared.stop.Refusal.{Refusal}
use Rattle.iolb_commands.specs.declared.stop.Refusal.TheVariants.{Condition, Illegal, NotComplete, StoresCondition}
use Rattle.iolb_commands.specs.declared.stop.Stop.{Stop}
use Rattle.iolb_commands.specs.declared.stop.Stop.TheVariants.{File, OtherText, Refused}
use Rattle.iolb_commands.specs.Held.{HoldsCertificate, HoldsMoves, HoldsProgram, HoldsStores}
use Rattle.iolb_commands.specs.Laws.{AbsentProgramsAreNamed, AbsentSecondFilesAreNamed, AbsentStoresAreNamed, CausesAreAnswered, EndsWith, FailingCertificatesAreRefused, FailingStoresAreRefused, IllegalMovesAreRefused, IsUndisturbed, OtherMovesAreRefused, OtherWordsAreRefused, ReadsMoves, UnfinishedPlaysAreRefused}
use Rattle.iolb_commands.specs.Lines.{file_line, refusal_line, usage}
use Rattle.iolb_commands.specs.Outcome.{Call, Outcome}
use Rattle.iolb_commands.specs.Phases.{ClimbComes, End, FileComes, MovesCome, StoresTextComes, TrafficComes, onward, stopping, RequestComes, RequestStop, WorkComes, stops}
use Rattle.iolb_commands.specs.Reading.{FaultCause, IsAbsent, IsContent}
use Rattle.iolb_commands.specs.Stop.{IsPlainFault, file_status, stop_line, stop_status}
use Rattle.iolb_commands.specs.Use.{CallUse, Gains, Stays}
use Rattle.iolb_commands.specs.Works.{HasSizes, most_bytes, sizes_for}
use Rattle.iolb_commands.proofs.Asked.{IsFormed, formed}
use Rattle.iolb_commands.proofs.Ends.{AreExact, AreFree, request_one}
use Rattle.iolb_commands.proofs.Notes.{nothing_more}
use Rattle.iolb_commands.proofs.Phases.{IsOnProgram, begins}
use Rattle.iolb_commands.proofs.One.{Ends, Leaves, end_status, ends_so, memory_or}
use Rattle.tile_sched.proofs.Refusals.{none_some, same_some}

-- a call with a status other than want of memory ends so
ends_with : (status wanted : Status) (left : CallUse) (line : List ℕ) → (status ≢ NoMemory → (status ≡ wanted) × Stays left.output × Gains left.error line) → EndsWith status left wanted line
ends_with status wanted left line so = elim (memory_or status) [ inl is ↦ inr is | inr differs ↦ inl (so differs) ]

pub words_refused : AreExact → OtherWordsAreRefused
words_refused exact call map left status tells none outcome calm =
    ends_with status WordsRefused left usage (λ differs. by (ends_so call map status left tells outcome calm differs)) where
      by : Ends map call.words status left → (status ≡ WordsRefused) × Stays left.output × Gains left.error usage
      by (inl refused) = (refused.status_is, nothing_more left.output refused.output, refused.error)
      by (inr so) = absurd (none_some (request_of call.words) so.request none so.asked)

pub causes_answered : AreExact → CausesAreAnswered
causes_answered exact call map request stop left status tells asks cause plain outcome calm =
    ends_with status (stop_status stop) left (stop_line request.files stop) (λ differs. by (ends_so call map status left tells outcome calm differs)) where
      leaves_so : (end : End) → end_status end ≡ status → Leaves request end left → (end ≡ stops stop) ⊎ AreFree map request end (stops stop)
          → (status ≡ stop_status stop) × Stays left.output × Gains left.error (stop_line request.files stop)
      leaves_so end status_is leaves (inl is) =
          let left_so : Leaves request (stops stop) left = subst (λ (e : End). Leaves request e left) is leaves in
          (sym status_is ∙ ap end_status is, nothing_more left.output left_so.0, left_so.1)
      leaves_so end status_is leaves (inr (inl (works, program, holds, made, (text, note, bounded, is)))) = absurd cc
      leaves_so end status_is leaves (inr (inr (products, works, valued, (text, note, sampled, is)))) = absurd cc

      by : Ends map call.words status left → (status ≡ stop_status stop) × Stays left.output × Gains left.error (stop_line request.files stop)
      by (inl refused) = absurd (none_some (request_of call.words) request refused.asked asks)
      by (inr so) =
          let same : so.request ≡ request = same_some so.request request (sym so.asked ∙ asks) in
          leaves_so so.end so.status_is (subst (λ (r : Request). Leaves r so.end left) same so.leaves)
          (request_one exact map request so.end (stops stop) so.ok plain (subst (λ (r : Request). RequestComes (Some map) r so.end) same so.comes) cause)

-- ---- single causes

-- a request with a file is about its program
filed : (request : Request) (work : Work) → IsFormed request work → 1 ≤ length request.files → IsOnProgram work
filed request (judges task) formed some = tt
filed request (replays s named) formed some = tt
filed request (climbs capacities named) formed some = tt
filed request (bounds_traffic s named) formed some = tt
filed request bounds formed some = tt
filed request (samples products) formed some = omega (arith, formed, some)

pub absent_programs : CausesAreAnswered → AbsentProgramsAreNamed
absent_programs causes call map request fault left status tells asks some absent outcome calm = by fault absent where
  stops_so : (fault : FileFault) → FaultCause (Some map) (file_at request.files 0) (most_bytes request.work 0) fault → RequestStop (Some map) request (File 0 fault)
  stops_so fault cause =
      begins (Some map) request.files request.work (stops (File 0 fault)) (filed request request.work (formed call.words request asks) some) (stopping fault cause refl)

  by : (fault : FileFault) → IsAbsent (content_of map (file_at request.files 0)) PROGRAM_BYTES fault → EndsWith status left FileAbsent (file_line (file_at request.files 0) fault)
  by Missing absent = causes call map request (File 0 Missing) left status tells asks (stops_so Missing absent) tt outcome calm
  by TooLong absent = causes call map request (File 0 TooLong) left status tells asks (stops_so TooLong absent) tt outcome calm
  by Failed absent = absurd absent
  by NoMemoryForFile absent = absurd absent

-- work with sizes is about a file's program
sized : (work : Work) (names : List (List ℕ)) → HasSizes work names → IsOnProgram work
sized (judges task) names has = tt
sized (replays s named) names has = tt
sized (climbs capacities named) names has = tt
sized (bounds_traffic s named) names has = tt
sized bounds names has = tt
sized (samples products) names has = absurd (none_some None has.0 refl has.1)

-- a request whose work stops
work_stops : (call : Call) (map : FileMap) (request : Request) (program : AffineProgram) (stop : Stop) → call.files ≡ Some map → HoldsProgram call.files (file_at request.files 0) program
    → (has : HasSizes request.work program.parameters) → WorkComes (Some map) request.files request.work program has.0 (stops stop) → RequestStop (Some map) request stop
work_stops call map request program stop tells holds has comes =
    let there = subst (λ (files : Option FileMap). HoldsProgram files (file_at request.files 0) program) tells holds in
    begins (Some map) request.files request.work (stops stop) (sized request.work program.parameters has)
    (onward there.source there.content (onward program there.means (onward has.0 has.1 comes)))

-- work with a second file
abbrev HasSecond : Work → Type 0
HasSecond bounds = ⊥
HasSecond (samples products) = ⊥
HasSecond work = ⊤

seconded : (request : Request) (work : Work) → IsFormed request work → 1 < length request.files → HasSecond work
seconded request (judges task) formed several = tt
seconded request (replays s named) formed several = tt
seconded request (climbs capacities named) formed several = tt
seconded request (bounds_traffic s named) formed several = tt
seconded request bounds formed several = omega (arith, formed, several)
seconded request (samples products) formed several = omega (arith, formed, several)

second_unread : (map : FileMap) (names : List (List ℕ)) (work : Work) (program : AffineProgram) (sizes : List ℤ) (fault : FileFault) → HasSecond work
    → FaultCause (Some map) (file_at names 1) (most_bytes work 1) fault → WorkComes (Some map) names work program sizes (stops (File 1 fault))
second_unread map names (judges task) program sizes fault second cause = stopping fault cause refl
second_unread map names (replays s named) program sizes fault second cause = stopping fault cause refl
second_unread map names (climbs capacities named) program sizes fault second cause = stopping fault cause refl
second_unread map names (bounds_traffic s named) program sizes fault second cause = stopping fault cause refl
second_unread map names bounds program sizes fault second cause = absurd second
second_unread map names (samples products) program sizes fault second cause = absurd second

pub absent_seconds : CausesAreAnswered → AbsentSecondFilesAreNamed
absent_seconds causes call map request program fault left status tells asks holds several sizes absent outcome calm = by fault absent where
  second : HasSecond request.work
  second = seconded request request.work (formed call.words request asks) several

  named : (fault : FileFault) → FaultCause (Some map) (file_at request.files 1) (most_bytes request.work 1) fault → IsPlainFault fault
      → EndsWith status left (file_status fault) (file_line (file_at request.files 1) fault)
  named fault cause plain = causes call map request (File 1 fault) left status tells asks
      (work_stops call map request program (File 1 fault) tells holds sizes (second_unread map request.files request.work program sizes.0 fault second cause)) plain outcome calm

  by : (fault : FileFault) → IsAbsent (content_of map (file_at request.files 1)) (most_bytes request.work 1) fault → EndsWith status left FileAbsent (file_line (file_at request.files 1) fault)
  by Missing absent = named Missing absent tt
  by TooLong absent = named TooLong absent tt
  by Failed absent = absurd absent
  by NoMemoryForFile absent = absurd absent

pub failing_refused : CausesAreAnswered → FailingCertificatesAreRefused
failing_refused causes call request task program certificate failed left status reads sizes fails outcome calm =
    let held = subst (λ (files : Option FileMap). HoldsCertificate files (file_at request.files 1) certificate) reads.told reads.holds_certificate in
    let stop : Stop = Refused (Condition failed) in
    let has : HasSizes request.work program.parameters = subst (λ (w : Work). HasSizes w program.parameters) (sym reads.judges_it) sizes in
    causes call reads.map request stop left status reads.told reads.asked
    (work_stops call reads.map request program stop reads.told reads.holds_program has
    (subst (λ (w : Work). WorkComes (Some reads.map) request.files w program has.0 (stops stop)) (sym reads.judges_it)
    (onward held.bytes held.content (onward certificate held.has (stopping failed fails refl))))) tt outcome calm

-- ---- the files behind the program's

-- stores, or their text, that stop a call about a readable certificate
traffic_stops : (call : Call) (map : FileMap) (request : Request) (s : ℕ) (named : List NamedSize) (program : AffineProgram) (certificate : CertificateClaim) (stop : Stop)
    → call.files ≡ Some map → request.work ≡ bounds_traffic s named → HoldsProgram call.files (file_at request.files 0) program
    → HoldsCertificate call.files (file_at request.files 1) certificate → (sizes : HasSizes (bounds_traffic s named) program.parameters)
    → FileComes (Some map) request.files (bounds_traffic s named) 2 (λ others. StoresTextComes others (TrafficComes s program sizes.0 certificate)) (stops stop)
    → RequestStop (Some map) request stop
traffic_stops call map request s named program certificate stop tells works holds there sizes comes =
    let held = subst (λ (files : Option FileMap). HoldsCertificate files (file_at request.files 1) certificate) tells there in
    let has : HasSizes request.work program.parameters = (sizes.0, subst (λ (w : Work). sizes_for w program.parameters ≡ Some sizes.0) (sym works) sizes.1) in
    work_stops call map request program stop tells holds has
    (subst (λ (w : Work). WorkComes (Some map) request.files w program sizes.0 (stops stop)) (sym works)
    (onward held.bytes held.content (onward certificate held.has comes)))

pub absent_stores : CausesAreAnswered → AbsentStoresAreNamed
absent_stores causes call map request s named program certificate fault left status tells asks works holds there sizes absent outcome calm = by fault absent where
  told : (fault : FileFault) → FaultCause (Some map) (file_at request.files 2) CERTIFICATE_BYTES fault → IsPlainFault fault
      → EndsWith status left (file_status fault) (file_line (file_at request.files 2) fault)
  told fault cause plain = causes call map request (File 2 fault) left status tells asks
      (traffic_stops call map request s named program certificate (File 2 fault) tells works holds there sizes (stopping fault cause refl)) plain outcome calm

  by : (fault : FileFault) → IsAbsent (content_of map (file_at request.files 2)) CERTIFICATE_BYTES fault → EndsWith status left FileAbsent (file_line (file_at request.files 2) fault)
  by Missing absent = told Missing absent tt
  by TooLong absent = told TooLong absent tt
  by Failed absent = absurd absent
  by NoMemoryForFile absent = absurd absent

pub failing_stores : CausesAreAnswered → FailingStoresAreRefused
failing_stores causes call request s named program certificate stores values failed left status reads sizes valid fails outcome calm =
    let held = subst (λ (files : Option FileMap). HoldsStores files (file_at request.files 2) stores) reads.told reads.holds_stores in
    let stop : Stop = Refused (StoresCondition failed) in
    causes call reads.map request stop left status reads.told reads.asked
    (traffic_stops call reads.map request s named program certificate stop reads.told reads.bounds_it reads.holds_program reads.holds_certificate sizes
    (onward held.bytes held.content (onward stores held.has (onward values valid (stopping failed fails refl))))) tt outcome calm

-- moves, or their text, that stop a call
climb_stops : (call : Call) (map : FileMap) (request : Request) (capacities : List ℕ) (named : List NamedSize) (program : AffineProgram) (bytes : List ℕ) (stop : Stop)
    → call.files ≡ Some map → request.work ≡ climbs capacities named → HoldsProgram call.files (file_at request.files 0) program
    → (sizes : HasSizes (climbs capacities named) program.parameters) → IsContent (Some map) (file_at request.files 1) MOVES_BYTES bytes
    → MovesCome capacities program sizes.0 bytes (stops stop) → RequestStop (Some map) request stop
climb_stops call map request capacities named program bytes stop tells works holds sizes content comes =
    let has : HasSizes request.work program.parameters = (sizes.0, subst (λ (w : Work). sizes_for w program.parameters ≡ Some sizes.0) (sym works) sizes.1) in
    work_stops call map request program stop tells holds has
    (subst (λ (w : Work). WorkComes (Some map) request.files w program sizes.0 (stops stop)) (sym works) (onward bytes content comes))

pub other_moves : CausesAreAnswered → OtherMovesAreRefused
other_moves causes call map request capacities named program bytes place left status tells asks works holds sizes content bad outcome calm =
    causes call map request (OtherText (Moves place)) left status tells asks
    (climb_stops call map request capacities named program bytes (OtherText (Moves place)) tells works holds sizes content (stopping place bad refl)) tt outcome calm

-- moves that were read, at sizes whose graph is within reach
module _ (causes : CausesAreAnswered) (call : Call) (request : Request) (capacities : List ℕ) (named : List NamedSize) (program : AffineProgram) (moves : List TowerMove) (sizes : List ℤ)
    (reads : ReadsMoves call request capacities named program moves) (given : values_for program.parameters named ≡ Some sizes) (met : AreMet program.assumptions sizes)
    (few : IsWithinReach program sizes) (left : CallUse) (status : Status) (outcome : Outcome status call left) (calm : IsUndisturbed left) where
  refused_so : (refusal : Refusal) → ClimbComes capacities (computation_graph program sizes) moves (stops (Refused refusal)) → EndsWith status left RefusedStatus (refusal_line refusal)
  refused_so refusal comes =
      let held = subst (λ (files : Option FileMap). HoldsMoves files (file_at request.files 1) moves) reads.told reads.holds_moves in
      causes call reads.map request (Refused refusal) left status reads.told reads.asked
      (climb_stops call reads.map request capacities named program held.bytes (Refused refusal) reads.told reads.climbs_it reads.holds_program (sizes, given) held.content
      (onward moves held.has (onward tt met (onward tt few comes)))) tt outcome calm

pub illegal_moves : CausesAreAnswered → IllegalMovesAreRefused
illegal_moves causes call request capacities named program moves sizes line illegal left status reads given met few first outcome calm =
    refused_so causes call request capacities named program moves sizes reads given met few left status outcome calm (Illegal line illegal) (stopping (line, illegal) first refl)

pub unfinished_plays : CausesAreAnswered → UnfinishedPlaysAreRefused
unfinished_plays causes call request capacities named program moves sizes vertex left status reads given met few legal first outcome calm =
    refused_so causes call request capacities named program moves sizes reads given met few left status outcome calm (NotComplete vertex) (onward tt legal (stopping vertex first refl))
