-- Work in phases: how it begins, what each hands on, and that its end is one.
use Rattle.std.proofs.Common.{◌≡◌, ◌⊎◌, refl, inl, sym, ◌∙◌, ap, subst, List, [], ℕ}
use Rattle.std.specs.Prelude.{⊤, Option}
use Rattle.command_words.specs.declared.command.Work.{Work as WorkInCode}
use Rattle.command_words.specs.declared.command.Work.TheVariants.{Judge, Replay, Climb, Traffic, Bound, Sample}
use Rattle.command_words.specs.Requests.{Work, judges, replays, climbs, bounds_traffic, bounds, samples, work_of}
use Rattle.iolb_host.specs.Files.{FileMap}
use Rattle.iolb_commands.specs.declared.stop.Stop.{Stop}
use Rattle.iolb_commands.specs.declared.stop.Stop.TheVariants.{Memory}
use Rattle.iolb_commands.specs.Phases.{End, stops, answers, Phase, wanting, stopping, onward, Answered, unsaid, saying, ProgramComes, Says, WorkBegins}
use Rattle.iolb_commands.specs.Stop.{IsPlain}

-- an end that is no failure of a read and no want of memory
abbrev pub IsPlainEnd : End → Type 0
IsPlainEnd (stops stop) = IsPlain stop
IsPlainEnd (answers text note) = ⊤

no_memory : (end : End) → IsPlainEnd end → end ≡ stops Memory → ⊥
no_memory end ok is = subst IsPlainEnd is ok

-- ---- how work begins

-- work on the program of the first file
abbrev pub IsOnProgram : Work → Type 0
IsOnProgram (samples products) = ⊥
IsOnProgram work = ⊤

pub begins : (files : Option FileMap) (names : List (List ℕ)) (work : Work) (end : End) → IsOnProgram work → ProgramComes files names work end → WorkBegins files names work end
begins files names (judges task) end on comes = comes
begins files names (replays s named) end on comes = comes
begins files names (climbs capacities named) end on comes = comes
begins files names (bounds_traffic s named) end on comes = comes
begins files names bounds end on comes = comes
begins files names (samples products) end on comes = absurd on

-- what the code holds, which isn't about matrix products
pub other_begins : (files : Option FileMap) (names : List (List ℕ)) (work : WorkInCode) (end : End) → ((products : ℕ) → ¬ (work ≡ Sample products)) → ProgramComes files names (work_of work) end
    → WorkBegins files names (work_of work) end
other_begins files names (Judge job) end never comes = comes
other_begins files names (Replay setting) end never comes = comes
other_begins files names (Climb setting) end never comes = comes
other_begins files names (Traffic setting) end never comes = comes
other_begins files names Bound end never comes = comes
other_begins files names (Sample products) end never comes = absurd (never products refl)

-- ---- what a phase hands on, where none of its causes is there

module _ {X Y : Type 0} {Cause : X → Type 0} {stop : X → Stop} {Found : Y → Type 0} {Onward : Y → End → Type 0} where
  -- work that is answered
  pub found : (text note : List ℕ) → Phase Cause stop Found Onward (answers text note) → (y : Y) × Found y × Onward y (answers text note)
  found text note (wanting is) = absurd cc
  found text note (stopping x cause is) = absurd cc
  found text note (onward y there on) = (y, there, on)

  -- what can be found alone
  pub through : (y : Y) → ((x : X) → Cause x → IsPlain (stop x) → ⊥) → ((z : Y) → Found z → z ≡ y) → (end : End) → IsPlainEnd end → Phase Cause stop Found Onward end → Onward y end
  through y never unique end ok (wanting is) = absurd (no_memory end ok is)
  through y never unique end ok (stopping x cause is) = absurd (never x cause (subst IsPlainEnd is ok))
  through y never unique end ok (onward z there on) = subst (λ (w : Y). Onward w end) (unique z there) on

pub answered : {IsSo : List ℕ → List ℕ → Type 0} (end : End) → IsPlainEnd end → Answered IsSo end → (text note : List ℕ) × IsSo text note × (end ≡ answers text note)
answered end ok (unsaid is) = absurd (no_memory end ok is)
answered end ok (saying text note so is) = (text, note, so, is)

-- what an answer says
pub said : {Holds : Type 0} {says : List ℕ} (text note : List ℕ) → Says Holds says (answers text note) → Holds × (text ≡ says) × (note ≡ [])
said text note (unsaid is) = absurd cc
said text note (saying one other so is) =
    let texts : text ≡ one = cc in
    let notes : note ≡ other = cc in (so.0, texts ∙ so.1, notes ∙ so.2)

-- ---- one end

module _ (Both : End → End → Type 0) where
  -- two plain ends of this work are equal, or both are as they may be
  abbrev pub One : (End → Type 0) → Type 0
  One Comes = (one other : End) → IsPlainEnd one → IsPlainEnd other → Comes one → Comes other → (one ≡ other) ⊎ Both one other

  -- A phase has one end, where its cause is one, none stands beside what is found, that is one, and the work behind it has one end.
  pub phase_one : {X Y : Type 0} {Cause : X → Type 0} {stop : X → Stop} {Found : Y → Type 0} {Onward : Y → End → Type 0}
      → ((x z : X) → Cause x → Cause z → IsPlain (stop x) → IsPlain (stop z) → x ≡ z)
      → ((x : X) (y : Y) → Cause x → Found y → IsPlain (stop x) → ⊥)
      → ((y z : Y) → Found y → Found z → y ≡ z) → ((y : Y) → Found y → One (Onward y)) → One (Phase Cause stop Found Onward)
  phase_one alike apart unique on one other ok fine (wanting is) there = absurd (no_memory one ok is)
  phase_one alike apart unique on one other ok fine here (wanting is) = absurd (no_memory other fine is)
  phase_one {stop = stop} alike apart unique on one other ok fine (stopping x cause is) (stopping z reason does) =
      inl (is ∙ ap (λ w. stops (stop w)) (alike x z cause reason (subst IsPlainEnd is ok) (subst IsPlainEnd does fine)) ∙ sym does)
  phase_one alike apart unique on one other ok fine (stopping x cause is) (onward y there rest) = absurd (apart x y cause there (subst IsPlainEnd is ok))
  phase_one alike apart unique on one other ok fine (onward y there rest) (stopping x cause is) = absurd (apart x y cause there (subst IsPlainEnd is fine))
  phase_one {Onward = Onward} alike apart unique on one other ok fine (onward y there rest) (onward z seen more) =
      on y there one other ok fine rest (subst (λ w. Onward w other) (sym (unique y z there seen)) more)

  pub says_one : {Holds : Type 0} {text : List ℕ} → One (Says Holds text)
  says_one one other ok fine (unsaid is) there = absurd (no_memory one ok is)
  says_one one other ok fine here (unsaid is) = absurd (no_memory other fine is)
  says_one one other ok fine (saying here note so is) (saying there beside does ends) =
      inl (is ∙ ap (λ t. answers t note) (so.1 ∙ sym does.1) ∙ ap (answers there) (so.2 ∙ sym does.2) ∙ sym ends)
