-- What is asked of multipliers, and what a search for them gives.
use Rattle.std.specs.Prelude.{⊤, List, [], ◌∷◌, length, map}
use Rattle.std.specs.List.{AllByRecursion}
use Rattle.iolb_model.specs.Form.{AffineForm}
use Rattle.affine_form.specs.Multipliers.{FarkasMultipliers}
use Rattle.affine_form.specs.Shown.{minus_one}
use Rattle.affine_form.specs.System.{AffineSystem}
use Rattle.int_sets.specs.ShortList.{IsShort, HasShortList}
use Rattle.claims.specs.Shown.{IsFew, Follows}
use Rattle.flow_deps.specs.declared.wanted.Wanted.{Wanted}
use Rattle.flow_deps.specs.declared.wanted.Wanted.TheVariants.{Short, Any}

-- A question: does the goal follow from the system?
pub record Question : Type 0 where
  pub system : AffineSystem
  pub goal : AffineForm

-- Multipliers answer it where the system's rows are few and they show the goal from them.
abbrev pub IsAnswered : Question → FarkasMultipliers → Type 0
IsAnswered question shown = IsFew (length question.system.rows) × Follows question.system question.goal shown

-- each question is answered by the multipliers in its place
abbrev pub AreAnswered : List Question → List FarkasMultipliers → Type 0
AreAnswered [] [] = ⊤
AreAnswered [] (m ∷ shown) = ⊥
AreAnswered (question ∷ questions) [] = ⊥
AreAnswered (question ∷ questions) (m ∷ shown) = IsAnswered question m × AreAnswered questions shown

-- do these goals follow from the system?
abbrev pub following : AffineSystem → List AffineForm → List Question
following system goals = map (λ goal. record { system = system; goal = goal }) goals

-- has the system no point?
abbrev pub pointless : AffineSystem → Question
pointless system = record { system = system; goal = minus_one system.vars }

-- a short list of multipliers answers the question
abbrev pub HasShortAnswer : Question → Type 0
HasShortAnswer question = IsFew (length question.system.rows) × HasShortList question.system question.goal

-- multipliers are as short as is wanted
abbrev pub IsAsShort : Wanted → FarkasMultipliers → Type 0
IsAsShort Short shown = IsShort shown
IsAsShort Any shown = ⊤

-- What a search finds: an answer to each question, as short as is wanted.
pub record Answers (wanted : Wanted) (questions : List Question) (shown : List FarkasMultipliers) : Type 0 where
  pub each : AreAnswered questions shown
  pub as_short : AllByRecursion (IsAsShort wanted) shown

-- Why it finds nothing: some question has no short answer.
abbrev pub HasNoShort : List Question → Type 0
HasNoShort questions = ¬ AllByRecursion HasShortAnswer questions
