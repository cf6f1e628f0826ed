-- That a request comes to one end over files that tell what they hold.
use Rattle.std.proofs.Common.{◌≡◌, ◌⊎◌, refl, sym, ◌∙◌, ap, subst, inl, inr, ℕ, ◌<◌, ◌≤◌, List, length, arith}
use Rattle.std.specs.Prelude.{ℤ, Option, Some, None, Result, Ok, Err, IsSomeAnd}
use Rattle.iolb_model.specs.Bound.{AreMet}
use Rattle.iolb_model.specs.Form.{AffineForm}
use Rattle.iolb_model.specs.Graph.{ComputationGraph, computation_graph}
use Rattle.iolb_model.specs.Program.{AffineProgram}
use Rattle.iolb_model.specs.declared.tower.TowerMove.{TowerMove}
use Rattle.memory_levels.specs.Climbs.{CompleteOrUnfinished, FirstIllegalIsOne, FirstUnfinishedIsOne, LegalOrIllegal}
use Rattle.memory_levels.specs.declared.illegal.TowerIllegal.{TowerIllegal}
use Rattle.memory_levels.specs.MovesText.{MovesOrFault, TextsHaveOneFault, TextsHaveOneList}
use Rattle.affine_c.specs.declared.fault.ProgramFault.{ProgramFault}
use Rattle.affine_c.specs.Laws.{TextsMeanOneProgram}
use Rattle.c_grammar.specs.Program.{Means}
use Rattle.affine_c.specs.Meaning.{HasFault}
use Rattle.affine_c.proofs.OneProgram.{meant_without_fault}
use Rattle.iolb_cert.specs.OneCertificate.{TextsHaveOneCertificate, TextsHaveOneAnswer}
use Rattle.command_words.specs.Requests.{Request, Task, checks, evaluates, shares, levels, Work, judges, replays, climbs, bounds_traffic, bounds, samples, file_at}
use Rattle.iolb_check.specs.Claims.{CertificateClaim}
use Rattle.iolb_check.specs.declared.bound.Value.{Value}
use Rattle.iolb_check.specs.Exact.{RefusalsAreOne, ValidCertificatesGiveOne, ValidCertificatesHaveValues, ValidCertificatesStand}
use Rattle.iolb_host.specs.declared.files.FileFault.{FileFault}
use Rattle.iolb_host.specs.declared.files.FileFault.TheVariants.{Missing, TooLong, Failed, Memory as NoMemoryForFile}
use Rattle.iolb_host.specs.Files.{FileMap, Answers, content_of}
use Rattle.iolb_commands.specs.Bounded.{IsBounded}
use Rattle.iolb_commands.specs.Held.{HoldsProgram}
use Rattle.iolb_commands.specs.Phases.{End, Answered, answers, unsaid, saying, AtSizes, Narrow, CertificateTextComes, ConditionsCome, StoresTextComes, StoresConditionsCome, ClimbComes, FileComes, TaskComes, CertificateComes, MovesCome, ProgramComes, ScheduleComes, TrafficComes, WorkBegins, WorkComes, RequestComes}
use Rattle.iolb_commands.specs.Reading.{IsContent}
use Rattle.iolb_commands.specs.Sampled.{IsSampled}
use Rattle.iolb_commands.specs.Stop.{IsPlainFault}
use Rattle.iolb_commands.specs.Works.{most_bytes, sizes_for}
use Rattle.iolb_commands.proofs.Phases.{IsPlainEnd, One, phase_one, says_one, through}
use Rattle.poly_tree.specs.Poly.{Quotient}
use Rattle.store_bound.specs.Exact.{StoresRefusalsAreOne, ValidStoresGiveOne, ValidStoresStand}
use Rattle.store_terms.specs.Claims.{StoresClaim}
use Rattle.store_text.specs.OneReading.{TextsHaveOneStores}
use Rattle.tile_sched.specs.OneSchedule.{TextsHaveOneSchedule}
use Rattle.tile_sched.specs.ReplayLaws.{PlayedOrdersAreOne, PlayedOrRefused, UnplayedAreOne}
use Rattle.tile_sched.proofs.Refusals.{first_one, met_first, none_some, same_some}

-- What the crates below say: texts, conditions and schedules have one answer.
pub record AreExact : Type 0 where
  pub one_program : TextsMeanOneProgram
  pub one_certificate : TextsHaveOneCertificate
  pub one_answer : TextsHaveOneAnswer
  pub stand : ValidCertificatesStand
  pub have_values : ValidCertificatesHaveValues
  pub one_values : ValidCertificatesGiveOne
  pub one_refusal : RefusalsAreOne
  pub schedules : TextsHaveOneSchedule
  pub one_order : PlayedOrdersAreOne
  pub one_unplayed : UnplayedAreOne
  pub played_or_refused : PlayedOrRefused
  pub one_list : TextsHaveOneList
  pub one_line : TextsHaveOneFault
  pub moves_or_line : MovesOrFault
  pub one_illegal : FirstIllegalIsOne
  pub legal_or_not : LegalOrIllegal
  pub one_unfinished : FirstUnfinishedIsOne
  pub complete_or_not : CompleteOrUnfinished
  pub stores : TextsHaveOneStores
  pub stores_stand : ValidStoresStand
  pub one_counts : ValidStoresGiveOne
  pub one_stores_refusal : StoresRefusalsAreOne

-- ---- files and programs

absent_one : (content : Option (List ℕ)) (most : ℕ) (f g : FileFault) → Answers content most (Err f) → Answers content most (Err g) → IsPlainFault f → IsPlainFault g → f ≡ g
absent_one content most Missing Missing absent again ok fine = refl
absent_one content most TooLong TooLong absent again ok fine = refl
absent_one None most Missing TooLong absent again ok fine = absurd again
absent_one (Some bytes) most Missing TooLong absent again ok fine = absurd cc
absent_one None most TooLong Missing absent again ok fine = absurd absent
absent_one (Some bytes) most TooLong Missing absent again ok fine = absurd cc
absent_one content most Failed g absent again ok fine = absurd ok
absent_one content most NoMemoryForFile g absent again ok fine = absurd ok
absent_one content most Missing Failed absent again ok fine = absurd fine
absent_one content most Missing NoMemoryForFile absent again ok fine = absurd fine
absent_one content most TooLong Failed absent again ok fine = absurd fine
absent_one content most TooLong NoMemoryForFile absent again ok fine = absurd fine

absent_there : (content : Option (List ℕ)) (most : ℕ) (fault : FileFault) (bytes : List ℕ) → Answers content most (Err fault) → content ≡ Some bytes → length bytes ≤ most → IsPlainFault fault → ⊥
absent_there content most Missing bytes absent is few ok = none_some content bytes absent is
absent_there content most TooLong bytes absent is few ok =
    let long : most < length bytes = subst (λ (o : Option (List ℕ)). IsSomeAnd o (λ b. most < length b)) is absent in omega (arith, long, few)
absent_there content most Failed bytes absent is few ok = ok
absent_there content most NoMemoryForFile bytes absent is few ok = ok

same_fault : (source : List ℕ) (f g : ProgramFault) → HasFault source f → HasFault source g → f ≡ g
same_fault source f g has again =
    ap (λ read. let fault : ProgramFault = record { number = read.number; place = read.place } in fault) (injective _ _ _ has again) where
      injective : {T E : Type 0} (r : Result T E) (a b : E) → r ≡ Err a → r ≡ Err b → a ≡ b
      injective r a b e f = cc

-- two moves that aren't allowed are one
same_pair : (here there : ℕ × TowerIllegal) → (here.0 ≡ there.0) × (here.1 ≡ there.1) → here ≡ there
same_pair here there e = ap (λ (n : ℕ). let one : ℕ × TowerIllegal = (n, here.1) in one) e.0 ∙ ap (λ (illegal : TowerIllegal). let one : ℕ × TowerIllegal = (there.0, illegal) in one) e.1

-- ---- each phase has one end

-- it made a certificate for this program
abbrev pub IsMade : AffineProgram → End → Type 0
IsMade program end = (text note : List ℕ) × IsBounded program text note × (end ≡ answers text note)

-- it valued one of so many matrix products
abbrev pub IsValued : ℕ → End → Type 0
IsValued products end = (text note : List ℕ) × IsSampled products text note × (end ≡ answers text note)

module _ (Both : End → End → Type 0) where
  sizes_one : (assumptions : List AffineForm) (sizes : List ℤ) (Onward : End → Type 0) → One Both Onward → One Both (AtSizes assumptions sizes Onward)
  sizes_one assumptions sizes Onward on = phase_one Both (λ n m unmet again _ _. first_one assumptions sizes n m unmet again)
      (λ n _ unmet met _. met_first assumptions sizes n met unmet) (λ _ _ _ _. refl) (λ _ _. on)

  narrow_one : (IsWide : Type 0) (Onward : End → Type 0) → One Both Onward → One Both (Narrow IsWide Onward)
  narrow_one IsWide Onward on = phase_one Both (λ _ _ _ _ _ _. refl) (λ _ _ wide narrow _. narrow wide) (λ _ _ _ _. refl) (λ _ _. on)

  task_one : (task : Task) (program : AffineProgram) (sizes : List ℤ) (values : List (List Value)) → One Both (TaskComes task program sizes values)
  task_one checks program sizes values = says_one Both
  task_one (evaluates s named) program sizes values = sizes_one _ _ _ (narrow_one _ _ (says_one Both))
  task_one (shares processors s named) program sizes values = sizes_one _ _ _ (narrow_one _ _ (says_one Both))
  task_one (levels capacities named) program sizes values = sizes_one _ _ _ (narrow_one _ _ (says_one Both))

  text_one : AreExact → (bytes : List ℕ) (Onward : CertificateClaim → End → Type 0) → ((claim : CertificateClaim) → One Both (Onward claim)) → One Both (CertificateTextComes bytes Onward)
  text_one exact bytes Onward on = phase_one Both
      (λ f g has again _ _. exact.one_answer.one_fault bytes f g has again)
      (λ fault claim faulty has _. exact.one_answer.either bytes claim fault has faulty)
      (λ a b has again. exact.one_certificate bytes a b has again) (λ claim _. on claim)

  conditions_one : AreExact → (program : AffineProgram) (claim : CertificateClaim) (Onward : List (List Value) → End → Type 0) → ((values : List (List Value)) → One Both (Onward values))
      → One Both (ConditionsCome program claim Onward)
  conditions_one exact program claim Onward on = phase_one Both
      (λ f g fails again _ _. exact.one_refusal program claim f g fails again)
      (λ failed values fails valid _. exact.stand program claim failed valid.accepted fails)
      (λ v w valid again. exact.one_values program claim v w valid again) (λ values _. on values)

  certificate_one : AreExact → (task : Task) (program : AffineProgram) (sizes : List ℤ) (bytes : List ℕ) → One Both (CertificateComes task program sizes bytes)
  certificate_one exact task program sizes bytes = text_one exact bytes _ (λ claim. conditions_one exact program claim _ (λ values. task_one task program sizes values))

  stores_text_one : AreExact → (bytes : List ℕ) (Onward : StoresClaim → End → Type 0) → ((stores : StoresClaim) → One Both (Onward stores)) → One Both (StoresTextComes bytes Onward)
  stores_text_one exact bytes Onward on = phase_one Both
      (λ f g has again _ _. exact.stores.one_fault bytes f g has again)
      (λ fault stores faulty has _. exact.stores.either bytes stores fault has faulty)
      (λ a b has again. exact.stores.one_stores bytes a b has again) (λ stores _. on stores)

  stores_conditions_one : AreExact → (program : AffineProgram) (claim : CertificateClaim) (stores : StoresClaim) (Onward : List Quotient → End → Type 0)
      → ((counts : List Quotient) → One Both (Onward counts)) → One Both (StoresConditionsCome program claim stores Onward)
  stores_conditions_one exact program claim stores Onward on = phase_one Both
      (λ f g fails again _ _. exact.one_stores_refusal program claim stores f g fails again)
      (λ failed counts fails met _. exact.stores_stand program claim stores failed met.accepted fails)
      (λ p q met again. exact.one_counts program claim stores p q met again) (λ counts _. on counts)

  traffic_one : AreExact → (s : ℕ) (program : AffineProgram) (sizes : List ℤ) (claim : CertificateClaim) (stores : StoresClaim) → One Both (TrafficComes s program sizes claim stores)
  traffic_one exact s program sizes claim stores =
      conditions_one exact program claim _ (λ values. stores_conditions_one exact program claim stores _ (λ counts. sizes_one _ _ _ (narrow_one _ _ (says_one Both))))

  schedule_one : AreExact → (s : ℕ) (program : AffineProgram) (sizes : List ℤ) (bytes : List ℕ) → One Both (ScheduleComes s program sizes bytes)
  schedule_one exact s program sizes bytes = phase_one Both
      (λ f g has again _ _. exact.schedules.one_fault program bytes f g has again)
      (λ fault schedule faulty has _. exact.schedules.either program bytes schedule fault has faulty)
      (λ a b has again. exact.schedules.one_schedule program bytes a b has again)
      (λ schedule _. phase_one Both
      (λ u v held again _ _. exact.one_unplayed program schedule sizes s u v held again)
      (λ unplayed order held can _. exact.played_or_refused program schedule sizes s order unplayed can held)
      (λ p q can again. exact.one_order program schedule sizes s p q can again)
      (λ order _. says_one Both))

  climb_one : AreExact → (capacities : List ℕ) (graph : ComputationGraph) (moves : List TowerMove) → One Both (ClimbComes capacities graph moves)
  climb_one exact capacities graph moves = phase_one Both
      (λ here there first again _ _. same_pair here there (exact.one_illegal graph capacities moves here.0 there.0 here.1 there.1 first again))
      (λ here _ first legal _. exact.legal_or_not graph capacities moves here.0 here.1 legal first)
      (λ _ _ _ _. refl)
      (λ _ _. phase_one Both
      (λ v w first again _ _. exact.one_unfinished graph capacities moves v w first again)
      (λ v _ first complete _. exact.complete_or_not graph capacities moves v complete first)
      (λ _ _ _ _. refl) (λ _ _. says_one Both))

  moves_one : AreExact → (capacities : List ℕ) (program : AffineProgram) (sizes : List ℤ) (bytes : List ℕ) → One Both (MovesCome capacities program sizes bytes)
  moves_one exact capacities program sizes bytes = phase_one Both
      (λ p q bad again _ _. exact.one_line bytes p q bad again)
      (λ p moves bad has _. exact.moves_or_line bytes moves p has bad)
      (λ a b has again. exact.one_list bytes a b has again)
      (λ moves _. sizes_one _ _ _ (phase_one Both (λ _ _ _ _ _ _. refl) (λ _ _ many few _. many few) (λ _ _ _ _. refl)
      (λ _ _. climb_one exact capacities (computation_graph program sizes) moves)))

  file_one : (map : FileMap) (names : List (List ℕ)) (work : Work) (place : ℕ) (Onward : List ℕ → End → Type 0)
      → ((bytes : List ℕ) → IsContent (Some map) (file_at names place) (most_bytes work place) bytes → One Both (Onward bytes)) → One Both (FileComes (Some map) names work place Onward)
  file_one map names work place Onward on = phase_one Both
      (λ f g absent again ok fine. absent_one (content_of map (file_at names place)) (most_bytes work place) f g absent again ok fine)
      (λ fault bytes absent found ok. absent_there (content_of map (file_at names place)) (most_bytes work place) fault bytes absent found.told found.few ok)
      (λ a b found again. same_some a b (sym found.told ∙ again.told)) on

  work_one : AreExact → (map : FileMap) (names : List (List ℕ)) (work : Work) (program : AffineProgram) (sizes : List ℤ)
      → (work ≡ bounds → (one other : End) → IsMade program one → IsMade program other → Both one other) → One Both (WorkComes (Some map) names work program sizes)
  work_one exact map names (judges task) program sizes both one other ok fine here there =
      file_one map names (judges task) 1 _ (λ bytes _. certificate_one exact task program sizes bytes) one other ok fine here there
  work_one exact map names (replays s named) program sizes both one other ok fine here there =
      file_one map names (replays s named) 1 _ (λ bytes _. schedule_one exact s program sizes bytes) one other ok fine here there
  work_one exact map names (climbs capacities named) program sizes both one other ok fine here there =
      file_one map names (climbs capacities named) 1 _ (λ bytes _. moves_one exact capacities program sizes bytes) one other ok fine here there
  work_one exact map names (bounds_traffic s named) program sizes both one other ok fine here there =
      file_one map names (bounds_traffic s named) 1 _ (λ bytes _. text_one exact bytes _ (λ claim. file_one map names (bounds_traffic s named) 2 _
      (λ others _. stores_text_one exact others _ (λ stores. traffic_one exact s program sizes claim stores)))) one other ok fine here there
  work_one exact map names bounds program sizes both one other ok fine (unsaid is) there = absurd (subst IsPlainEnd is ok)
  work_one exact map names bounds program sizes both one other ok fine here (unsaid is) = absurd (subst IsPlainEnd is fine)
  work_one exact map names bounds program sizes both one other ok fine (saying text note so is) (saying another beside too does) =
      inr (both refl one other (text, note, so, is) (another, beside, too, does))
  work_one exact map names (samples products) program sizes both one other ok fine here there = absurd here

  program_one : AreExact → (map : FileMap) (names : List (List ℕ)) (work : Work)
      → ((program : AffineProgram) → HoldsProgram (Some map) (file_at names 0) program → work ≡ bounds → (one other : End) → IsMade program one → IsMade program other → Both one other)
      → One Both (ProgramComes (Some map) names work)
  program_one exact map names work both = file_one map names work 0 _ (λ source content. phase_one Both
      (λ f g has again _ _. same_fault source f g has again)
      (λ fault program has means _. meant_without_fault source fault program has means)
      (λ p q means again. exact.one_program source p q means again)
      (λ program means. phase_one Both (λ _ _ _ _ _ _. refl)
      (λ _ sizes lacking has _. none_some (sizes_for work program.parameters) sizes lacking has)
      (λ a b has again. same_some a b (sym has ∙ again))
      (λ sizes _. work_one exact map names work program sizes (both program (record { source = source; content = content; means = means })))))

  valued_one : (products : ℕ) → ((one other : End) → IsValued products one → IsValued products other → Both one other) → One Both (Answered (IsSampled products))
  valued_one products valued one other ok fine (unsaid is) there = absurd (subst IsPlainEnd is ok)
  valued_one products valued one other ok fine here (unsaid is) = absurd (subst IsPlainEnd is fine)
  valued_one products valued one other ok fine (saying text note so is) (saying another beside too does) =
      inr (valued one other (text, note, so, is) (another, beside, too, does))

  begin_one : AreExact → (map : FileMap) (names : List (List ℕ)) (work : Work)
      → ((program : AffineProgram) → HoldsProgram (Some map) (file_at names 0) program → work ≡ bounds → (one other : End) → IsMade program one → IsMade program other → Both one other)
      → ((products : ℕ) → work ≡ samples products → (one other : End) → IsValued products one → IsValued products other → Both one other) → One Both (WorkBegins (Some map) names work)
  begin_one exact map names (judges task) both valued = program_one exact map names (judges task) both
  begin_one exact map names (replays s named) both valued = program_one exact map names (replays s named) both
  begin_one exact map names (climbs capacities named) both valued = program_one exact map names (climbs capacities named) both
  begin_one exact map names (bounds_traffic s named) both valued = program_one exact map names (bounds_traffic s named) both
  begin_one exact map names bounds both valued = program_one exact map names bounds both
  begin_one exact map names (samples products) both valued = valued_one products (valued products refl)

-- both made a certificate of the program of a request for one
abbrev pub AreMade : FileMap → Request → End → End → Type 0
AreMade map request one other = (request.work ≡ bounds) × (program : AffineProgram) × HoldsProgram (Some map) (file_at request.files 0) program
    × IsMade program one × IsMade program other

-- both valued one of the matrix products of a request for such
abbrev pub AreValued : Request → End → End → Type 0
AreValued request one other = (products : ℕ) × (request.work ≡ samples products) × IsValued products one × IsValued products other

abbrev pub AreFree : FileMap → Request → End → End → Type 0
AreFree map request one other = AreMade map request one other ⊎ AreValued request one other

pub request_one : AreExact → (map : FileMap) (request : Request) → One (AreFree map request) (RequestComes (Some map) request)
request_one exact map request =
    begin_one (AreFree map request) exact map request.files request.work
    (λ program holds works one other here there. inl (works, program, holds, here, there)) (λ products works one other here there. inr (products, works, here, there))

-- ---- what files hold goes on

module _ (end : End) (ok : IsPlainEnd end) where
  pub through_sizes : (assumptions : List AffineForm) (sizes : List ℤ) (Onward : End → Type 0) → AreMet assumptions sizes → AtSizes assumptions sizes Onward end → Onward end
  through_sizes assumptions sizes Onward met = through tt
      (λ n unmet _. met_first assumptions sizes n met unmet) (λ _ _. refl) end ok

  pub through_narrow : (IsWide : Type 0) (Onward : End → Type 0) → ¬ IsWide → Narrow IsWide Onward end → Onward end
  through_narrow IsWide Onward narrow = through tt (λ _ wide _. narrow wide) (λ _ _. refl) end ok

module _ (exact : AreExact) (map : FileMap) (end : End) (ok : IsPlainEnd end) where
  pub through_file : (names : List (List ℕ)) (work : Work) (place : ℕ) (Onward : List ℕ → End → Type 0) (bytes : List ℕ)
      → IsContent (Some map) (file_at names place) (most_bytes work place) bytes → FileComes (Some map) names work place Onward end → Onward bytes end
  through_file names work place Onward bytes content = through bytes
      (λ fault absent plain. absent_there (content_of map (file_at names place)) (most_bytes work place) fault bytes absent content.told content.few plain)
      (λ other found. same_some other bytes (sym found.told ∙ content.told)) end ok

  begun : (names : List (List ℕ)) (work : Work) (program : AffineProgram) (sizes : List ℤ) → sizes_for work program.parameters ≡ Some sizes
      → WorkBegins (Some map) names work end → ProgramComes (Some map) names work end
  begun names (judges task) program sizes given comes = comes
  begun names (replays s named) program sizes given comes = comes
  begun names (climbs capacities named) program sizes given comes = comes
  begun names (bounds_traffic s named) program sizes given comes = comes
  begun names bounds program sizes given comes = comes
  begun names (samples products) program sizes given comes = absurd (none_some None sizes refl given)

  pub to_work : (request : Request) (program : AffineProgram) (sizes : List ℤ) → HoldsProgram (Some map) (file_at request.files 0) program
      → sizes_for request.work program.parameters ≡ Some sizes → RequestComes (Some map) request end → WorkComes (Some map) request.files request.work program sizes end
  to_work request program sizes holds given comes =
      through sizes (λ _ lacking _. none_some (sizes_for request.work program.parameters) sizes lacking given)
      (λ other has. same_some other sizes (sym has ∙ given)) end ok
      (through program (λ fault has _. meant_without_fault holds.source fault program has holds.means)
      (λ other means. exact.one_program holds.source other program means holds.means) end ok
      (through_file request.files request.work 0 _ holds.source holds.content (begun request.files request.work program sizes given comes)))
