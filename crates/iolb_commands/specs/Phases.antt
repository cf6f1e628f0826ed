-- What a request comes to, phase by phase. Each phase stops the work for a cause, or finds something and hands it on.
use Rattle.std.specs.Prelude.{◌≡◌, ⊤, ◌⊎◌, ℕ, ◌+◌, ℤ, List, [], length, Option, Some, None}
use Rattle.iolb_model.specs.Bound.{AreMet}
use Rattle.iolb_model.specs.Form.{AffineForm}
use Rattle.iolb_model.specs.Graph.{ComputationGraph, computation_graph}
use Rattle.iolb_model.specs.Headline.{BoundHolds}
use Rattle.iolb_model.specs.Printed.{bound_text}
use Rattle.iolb_model.specs.Program.{AffineProgram}
use Rattle.iolb_model.specs.Tower.{IsCompleteTower, tower_left}
use Rattle.iolb_model.specs.declared.tower.TowerMove.{TowerMove}
use Rattle.affine_c.specs.Meaning.{HasFault}
use Rattle.affine_program.specs.Assumptions.{IsFirstUnmet}
use Rattle.c_grammar.specs.Program.{Means}
use Rattle.claims.specs.Claims.{FirstFails}
use Rattle.command_words.specs.Requests.{Request, Task, checks, evaluates, shares, levels, Work, judges, replays, climbs, bounds_traffic, bounds, samples, file_at}
use Rattle.iolb_cert.specs.OneCertificate.{HasCertificate}
use Rattle.iolb_cert.specs.Texts.{IsTextFault}
use Rattle.iolb_check.specs.Claims.{CertificateClaim}
use Rattle.iolb_check.specs.declared.bound.Value.{Value}
use Rattle.iolb_check.specs.Bounds.{HasWideBranch}
use Rattle.iolb_check.specs.Conditions.{MeetsConditions, conditions}
use Rattle.iolb_host.specs.declared.files.FileFault.{FileFault}
use Rattle.iolb_host.specs.Files.{FileMap}
use Rattle.loop_graph.specs.Builds.{IsWithinReach}
use Rattle.memory_levels.specs.declared.illegal.TowerIllegal.{TowerIllegal}
use Rattle.memory_levels.specs.Climbs.{AreLegal, IsFirstIllegal}
use Rattle.memory_levels.specs.MovesText.{IsFirstBadLine, IsMovesText}
use Rattle.memory_levels.specs.Towers.{IsFirstUnfinished}
use Rattle.memory_levels.specs.Values.{IsWideAtLevels}
use Rattle.parallel_bound.specs.Widths.{HasWideParallelBranch}
use Rattle.poly_tree.specs.Poly.{Quotient}
use Rattle.pebble_replay.specs.Played.{played}
use Rattle.store_bound.specs.Conditions.{MeetStores, stores_conditions}
use Rattle.store_bound.specs.Faults.{MakesTraffic}
use Rattle.store_bound.specs.Values.{IsWideTraffic}
use Rattle.store_terms.specs.Claims.{StoresClaim}
use Rattle.store_text.specs.Texts.{HasStores, IsTextFault as IsStoresFault}
use Rattle.tile_sched.specs.Lines.{play_text}
use Rattle.tile_sched.specs.OneSchedule.{IsTextFault as IsScheduleFault}
use Rattle.tile_sched.specs.Plays.{CanBePlayed, IsUnplayed}
use Rattle.tile_sched.specs.Texts.{IsTextOf}
use Rattle.iolb_commands.specs.declared.stop.OtherFault.TheVariants.{Certificate, Schedule, Moves, Stores}
use Rattle.iolb_commands.specs.declared.stop.Refusal.TheVariants.{Assumption, Condition, StoresCondition, Unplayed, TooMany, Illegal, NotComplete}
use Rattle.iolb_commands.specs.declared.stop.Stop.{Stop}
use Rattle.iolb_commands.specs.declared.stop.Stop.TheVariants.{Words, File, ProgramText, OtherText, Refused, Wide, Memory}
use Rattle.iolb_commands.specs.Bounded.{IsBounded}
use Rattle.iolb_commands.specs.Reading.{FaultCause, IsContent}
use Rattle.iolb_commands.specs.Sampled.{IsSampled}
use Rattle.iolb_commands.specs.Task.{HoldsFor, bound_with}
use Rattle.iolb_commands.specs.Traffic.{traffic_loads, traffic_stores}
use Rattle.iolb_commands.specs.Values.{climb_text, levels_text, parallel_text, traffic_text, values_text}
use Rattle.iolb_commands.specs.Works.{most_bytes, sizes_for}

-- How work ends: it stops, or a text answers it, with a note for the standard error.
pub data End : Type 0 where
  stops : Stop → End
  answers : List ℕ → List ℕ → End

-- Memory may always be wanted. Else a phase stops for a cause, or finds something and hands it on.
pub data Phase {X Y : Type 0} (Cause : X → Type 0) (stop : X → Stop) (Found : Y → Type 0) (Onward : Y → End → Type 0) (end : End) : Type 0 where
  wanting : end ≡ stops Memory → Phase Cause stop Found Onward end
  stopping : (x : X) → Cause x → end ≡ stops (stop x) → Phase Cause stop Found Onward end
  onward : (y : Y) → Found y → Onward y end → Phase Cause stop Found Onward end

-- The last phase: such a text answers the work, with such a note.
pub data Answered (IsSo : List ℕ → List ℕ → Type 0) (end : End) : Type 0 where
  unsaid : end ≡ stops Memory → Answered IsSo end
  saying : (text note : List ℕ) → IsSo text note → end ≡ answers text note → Answered IsSo end

-- This text answers the work, without a note, and something holds beside it.
abbrev pub Says : Type 0 → List ℕ → End → Type 0
Says Holds text = Answered (λ said note. Holds × (said ≡ text) × (note ≡ []))

-- ---- its parts

-- the assumptions at sizes
abbrev pub AtSizes : List AffineForm → List ℤ → (End → Type 0) → End → Type 0
AtSizes assumptions sizes Onward =
    Phase (IsFirstUnmet assumptions sizes) (λ number. Refused (Assumption number)) (λ (met : ⊤). AreMet assumptions sizes) (λ _. Onward)

-- values, some of which may be beyond 128 bits
abbrev pub Narrow : Type 0 → (End → Type 0) → End → Type 0
Narrow IsWide Onward = Phase (λ (wide : ⊤). IsWide) (λ _. Wide) (λ (narrow : ⊤). ¬ IsWide) (λ _. Onward)

-- why the file at a place of the words isn't read
abbrev pub IsUnread : Option FileMap → List (List ℕ) → Work → ℕ → Stop → Type 0
IsUnread files names work place stop = (fault : FileFault) × (stop ≡ File place fault) × FaultCause files (file_at names place) (most_bytes work place) fault

-- why a phase stops: for one of its causes, or for want of memory
abbrev pub StopsFor : {X : Type 0} → (X → Type 0) → (X → Stop) → Stop → Type 0
StopsFor {X = X} Cause stop it = (it ≡ Memory) ⊎ ((x : X) × Cause x × (it ≡ stop x))

-- the file at a place of the words
abbrev pub FileComes : Option FileMap → List (List ℕ) → Work → ℕ → (List ℕ → End → Type 0) → End → Type 0
FileComes files names work place =
    Phase (FaultCause files (file_at names place) (most_bytes work place)) (File place) (IsContent files (file_at names place) (most_bytes work place))

-- why what a file says isn't read: the file isn't, or its text has a fault
abbrev pub IsUnsaid : {X : Type 0} → Option FileMap → List (List ℕ) → Work → ℕ → (List ℕ → X → Type 0) → (X → Stop) → Stop → Type 0
IsUnsaid files names work place HasFault stop it = IsUnread files names work place it
    ⊎ ((bytes : List ℕ) × IsContent files (file_at names place) (most_bytes work place) bytes × StopsFor (HasFault bytes) stop it)

-- what a file says
abbrev pub IsSaid : {X : Type 0} → Option FileMap → List (List ℕ) → Work → ℕ → (List ℕ → X → Type 0) → X → Type 0
IsSaid files names work place Has x = (bytes : List ℕ) × IsContent files (file_at names place) (most_bytes work place) bytes × Has bytes x

-- ---- a request, the last phase first

-- a task, where the certificate meets the conditions with these values of terms
abbrev pub TaskComes : Task → AffineProgram → List ℤ → List (List Value) → End → Type 0
TaskComes checks program sizes values =
    Says (BoundHolds program (bound_with program values)) (bound_text program.parameters (bound_with program values))
TaskComes (evaluates s named) program sizes values =
    AtSizes program.assumptions sizes (Narrow (HasWideBranch sizes s values)
    (Says (BoundHolds program (bound_with program values)) (values_text (bound_with program values) sizes s)))
TaskComes (shares processors s named) program sizes values =
    AtSizes program.assumptions sizes (Narrow (HasWideParallelBranch sizes processors s values)
    (Says (HoldsFor (shares processors s named) program (bound_with program values)) (parallel_text processors (bound_with program values) sizes s)))
TaskComes (levels capacities named) program sizes values =
    AtSizes program.assumptions sizes (Narrow (IsWideAtLevels sizes capacities values)
    (Says (HoldsFor (levels capacities named) program (bound_with program values)) (levels_text (bound_with program values) sizes capacities)))

-- the text of a certificate
abbrev pub CertificateTextComes : List ℕ → (CertificateClaim → End → Type 0) → End → Type 0
CertificateTextComes bytes = Phase (IsTextFault bytes) (λ fault. OtherText (Certificate fault)) (HasCertificate bytes)

-- its conditions, which give the values of its terms
abbrev pub ConditionsCome : AffineProgram → CertificateClaim → (List (List Value) → End → Type 0) → End → Type 0
ConditionsCome program certificate = Phase (FirstFails (conditions program certificate)) (λ failed. Refused (Condition failed)) (MeetsConditions program certificate)

-- a certificate: its text, the conditions, the task
abbrev pub CertificateComes : Task → AffineProgram → List ℤ → List ℕ → End → Type 0
CertificateComes task program sizes bytes = CertificateTextComes bytes (λ certificate. ConditionsCome program certificate (TaskComes task program sizes))

-- the text of stores
abbrev pub StoresTextComes : List ℕ → (StoresClaim → End → Type 0) → End → Type 0
StoresTextComes bytes = Phase (IsStoresFault bytes) (λ fault. OtherText (Stores fault)) (HasStores bytes)

-- their conditions, which give the counts of the outputs
abbrev pub StoresConditionsCome : AffineProgram → CertificateClaim → StoresClaim → (List Quotient → End → Type 0) → End → Type 0
StoresConditionsCome program certificate stores =
    Phase (FirstFails (stores_conditions program certificate stores)) (λ failed. Refused (StoresCondition failed)) (MeetStores program certificate stores)

-- loads and stores together: the assumptions, and the values
abbrev pub TransfersCome : ℕ → AffineProgram → List ℤ → ℕ → ℕ → Type 0 → End → Type 0
TransfersCome s program sizes loads stores IsWide =
    AtSizes program.assumptions sizes (Narrow IsWide (Says (MakesTraffic program sizes s loads stores) (traffic_text loads stores)))

-- a certificate and stores that were read: the conditions of both, and the values
abbrev pub TrafficComes : ℕ → AffineProgram → List ℤ → CertificateClaim → StoresClaim → End → Type 0
TrafficComes s program sizes certificate stores =
    ConditionsCome program certificate (λ values. StoresConditionsCome program certificate stores (λ counts.
    let loads = traffic_loads program values sizes s in
    let stored = traffic_stores certificate stores values counts sizes s in
    TransfersCome s program sizes loads stored (IsWideTraffic sizes s values counts (loads + stored))))

-- a schedule: its text, and what keeps it from being played
abbrev pub ScheduleComes : ℕ → AffineProgram → List ℤ → List ℕ → End → Type 0
ScheduleComes s program sizes bytes = Phase (IsScheduleFault program bytes) (λ fault. OtherText (Schedule fault)) (IsTextOf program bytes)
    (λ schedule. Phase (IsUnplayed program schedule sizes s) (λ unplayed. Refused (Unplayed unplayed)) (CanBePlayed program schedule sizes s)
    (λ order. Says ⊤ (play_text (played (computation_graph program sizes) s order))))

-- moves over levels of memory on a graph: that each is allowed, and that they are a complete play
abbrev pub ClimbComes : List ℕ → ComputationGraph → List TowerMove → End → Type 0
ClimbComes capacities graph moves = Phase (λ (refused : ℕ × TowerIllegal). IsFirstIllegal graph capacities moves refused.0 refused.1) (λ refused. Refused (Illegal refused.0 refused.1))
    (λ (legal : ⊤). AreLegal graph capacities moves)
    (λ _. Phase (IsFirstUnfinished graph (length capacities) (tower_left graph capacities moves)) (λ vertex. Refused (NotComplete vertex))
    (λ (complete : ⊤). IsCompleteTower graph capacities moves) (λ _. Says ⊤ (climb_text capacities moves)))

-- a text of moves: its lines, the assumptions, the graph, and the play
abbrev pub MovesCome : List ℕ → AffineProgram → List ℤ → List ℕ → End → Type 0
MovesCome capacities program sizes bytes = Phase (IsFirstBadLine bytes) (λ place. OtherText (Moves place)) (IsMovesText bytes)
    (λ moves. AtSizes program.assumptions sizes (Phase (λ (many : ⊤). ¬ IsWithinReach program sizes) (λ _. Refused TooMany)
    (λ (few : ⊤). IsWithinReach program sizes) (λ _. ClimbComes capacities (computation_graph program sizes) moves)))

-- the work on a file's program, at the sizes that the words give
abbrev pub WorkComes : Option FileMap → List (List ℕ) → Work → AffineProgram → List ℤ → End → Type 0
WorkComes files names (judges task) program sizes = FileComes files names (judges task) 1 (CertificateComes task program sizes)
WorkComes files names (replays s named) program sizes = FileComes files names (replays s named) 1 (ScheduleComes s program sizes)
WorkComes files names (climbs capacities named) program sizes = FileComes files names (climbs capacities named) 1 (MovesCome capacities program sizes)
WorkComes files names (bounds_traffic s named) program sizes = FileComes files names (bounds_traffic s named) 1 (λ bytes. CertificateTextComes bytes
    (λ certificate. FileComes files names (bounds_traffic s named) 2 (λ others. StoresTextComes others (TrafficComes s program sizes certificate))))
WorkComes files names bounds program sizes = Answered (IsBounded program)
WorkComes files names (samples products) program sizes = λ _. ⊥

-- the names of the program's parameters, and the work
abbrev pub NamesCome : Option FileMap → List (List ℕ) → Work → AffineProgram → End → Type 0
NamesCome files names work program = Phase (λ (nameless : ⊤). sizes_for work program.parameters ≡ None) (λ _. Words)
    (λ sizes. sizes_for work program.parameters ≡ Some sizes) (WorkComes files names work program)

-- the program's file, its text, and what is to be done with it
abbrev pub ProgramComes : Option FileMap → List (List ℕ) → Work → End → Type 0
ProgramComes files names work = FileComes files names work 0 (λ source. Phase (HasFault source) ProgramText (Means source) (NamesCome files names work))

-- work on no file's program, or on that of the first file
abbrev pub WorkBegins : Option FileMap → List (List ℕ) → Work → End → Type 0
WorkBegins files names (samples products) = Answered (IsSampled products)
WorkBegins files names (judges task) = ProgramComes files names (judges task)
WorkBegins files names (replays s named) = ProgramComes files names (replays s named)
WorkBegins files names (climbs capacities named) = ProgramComes files names (climbs capacities named)
WorkBegins files names (bounds_traffic s named) = ProgramComes files names (bounds_traffic s named)
WorkBegins files names bounds = ProgramComes files names bounds

abbrev pub RequestComes : Option FileMap → Request → End → Type 0
RequestComes files request = WorkBegins files request.files request.work

-- why a request stops
abbrev pub RequestStop : Option FileMap → Request → Stop → Type 0
RequestStop files request stop = RequestComes files request (stops stop)

-- this text answers a request, with this note for the standard error
abbrev pub IsAnswered : Option FileMap → Request → List ℕ → List ℕ → Type 0
IsAnswered files request text note = RequestComes files request (answers text note)
