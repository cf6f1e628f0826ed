-- What is claimed at a leaf of a source tree at which a walk takes a word.
use Rattle.std.specs.Prelude.{◌≡◌, ℕ, ⊤, true, List, [], ◌∷◌, ◌++◌, map, length, Option, Some, None, option_map, slice_get, IsSomeAnd, codes}
use Rattle.std.specs.Option.{option_map_or}
use Rattle.iolb_model.specs.Form.{AffineForm}
use Rattle.iolb_model.specs.Program.{AffineProgram}
use Rattle.claims.specs.Claims.{Claim}
use Rattle.claims.specs.declared.place.Step.{Step}
use Rattle.claims.specs.declared.place.Step.TheVariants.{Key, Index}
use Rattle.affine_form.specs.Multipliers.{FarkasMultipliers}
use Rattle.affine_form.specs.System.{AffineSystem}
use Rattle.affine_form.specs.Rows.{widened, within_rows, equality_rows}
use Rattle.claims.specs.Shown.{IsFew, IsPointless, follow_claims}
use Rattle.dep_quast.specs.Context.{ReadOf, reference_of, parameter_point}
use Rattle.reuse_paths.specs.Families.{CreditedNest, label_at}
use Rattle.reuse_paths.specs.LeafClaims.{LeafClaim, no_point, stops, is_credited, goes_on, arrives}
use Rattle.dep_quast.specs.OpenLeaves.{LeafOrigin, written, as_input, unknown, is_input, OpenLeaf, form_at, written_values}
use Rattle.reuse_paths.specs.WalkSettings.{KeptLabels, WalkAim, arrives_at, keeps, WalkSetting, region_variables, reading_point, region_at, forms_behind, entering_rows}
use Rattle.reuse_paths.specs.Walks.{SpotForms}

-- ---- where the word comes from

-- the leaf's word was written by an instance of this statement
abbrev pub IsWrittenBy : ℕ → LeafOrigin → Type 0
IsWrittenBy statement (written writer values) = writer ≡ statement
IsWrittenBy statement as_input = ⊥
IsWrittenBy statement unknown = ⊥

-- it was written by an instance of a statement that has a region
abbrev pub IsInRegion : WalkSetting → LeafOrigin → Type 0
IsInRegion walk (written writer values) = IsSomeAnd (region_at walk.nodes writer) (λ region. ⊤)
IsInRegion walk as_input = ⊥
IsInRegion walk unknown = ⊥

-- it was written by an instance of the statement of the credit with this number
abbrev pub IsOfCredit : List CreditedNest → ℕ → LeafOrigin → Type 0
IsOfCredit credits credit origin = IsSomeAnd (slice_get credits credit) (λ nest. IsWrittenBy nest.statement origin)

-- the rows which say that the instance which wrote the word is the target, that it is in its statement's region, and that
-- it is in a credited nest
abbrev pub arriving_goals : SpotForms → ℕ → List AffineForm → LeafOrigin → List AffineForm
arriving_goals target vars point origin = equality_rows vars (written_values vars point origin) (map (widened vars) target.point)

abbrev pub going_goals : WalkSetting → ℕ → List AffineForm → LeafOrigin → List AffineForm
going_goals walk vars point (written writer values) = entering_rows walk vars (region_at walk.nodes writer) (map (form_at vars point) values)
going_goals walk vars point as_input = []
going_goals walk vars point unknown = []

abbrev pub nest_goals : AffineProgram → ℕ → List AffineForm → CreditedNest → List AffineForm
nest_goals program vars values credit = within_rows vars credit.nest (parameter_point program vars) values

abbrev pub credit_goals : AffineProgram → List CreditedNest → ℕ → List AffineForm → ℕ → LeafOrigin → List AffineForm
credit_goals program credits vars point credit origin =
    option_map_or (nest_goals program vars (written_values vars point origin)) (slice_get credits credit) []

-- The label of the word, as forms over the variables of the reader's region: that of the instance which wrote it, or of the
-- cell as it was at first; none where there is none for the statement or the array, or the leaf doesn't say.
abbrev pub word_label : WalkSetting → KeptLabels → ReadOf → ℕ → List AffineForm → LeafOrigin → Option (List AffineForm)
word_label walk kept reader vars point (written writer values) =
    option_map (forms_behind walk vars (map (form_at vars point) values)) (label_at kept.instances writer)
word_label walk kept reader vars point as_input =
    let cell = reference_of walk.program reader in
    option_map (forms_behind walk vars (map (form_at vars point) cell.subscripts)) (label_at kept.cells cell.array)
word_label walk kept reader vars point unknown = None

-- ---- where the claim stands

-- the place of the first of multipliers in a list under this key, and the leaf itself where there is none
abbrev pub first_place : List Step → List ℕ → List FarkasMultipliers → List Step
first_place place key [] = place
first_place place key (m ∷ shown) = place ++ Key key ∷ Index 0 ∷ []

-- that of the first of an entry's multipliers, its rows before its label
abbrev pub going_place : List Step → List FarkasMultipliers → List FarkasMultipliers → List Step
going_place place [] label = first_place place (codes "label") label
going_place place (m ∷ rows) label = place ++ Key (codes "rows") ∷ Index 0 ∷ []

abbrev pub entry_place : List Step → LeafClaim → List Step
entry_place place (no_point shown) = place ++ Key (codes "empty") ∷ []
entry_place place (stops label) = first_place place (codes "stop") label
entry_place place (is_credited credit rows label) = going_place place rows label
entry_place place (goes_on rows label) = going_place place rows label
entry_place place (arrives equal) = first_place place (codes "arrive") equal

-- ---- what it says

-- What an entry claims at a leaf of a walk that is to arrive, in a system, by the condition of this number: that no point
-- comes there; that its word was written by an instance of the target's statement, which is the target; or that it was
-- written by one of a statement with a region, which is in it. Such a walk doesn't stop.
abbrev pub arriving_claims : ℕ → WalkSetting → SpotForms → List Step → AffineSystem → List AffineForm → LeafOrigin → LeafClaim → List Claim
arriving_claims condition walk target place system point origin (no_point shown) =
    record { condition = condition; place = place ++ Key (codes "empty") ∷ []; statement = IsPointless system shown } ∷ []
arriving_claims condition walk target place system point origin (stops label) = record { condition = condition; place = place; statement = ⊥ } ∷ []
arriving_claims condition walk target place system point origin (is_credited credit rows label) = record { condition = condition; place = place; statement = ⊥ } ∷ []
arriving_claims condition walk target place system point origin (goes_on rows label) =
    record { condition = condition; place = place; statement = IsInRegion walk origin }
    ∷ follow_claims condition (place ++ Key (codes "rows") ∷ []) system 0 (going_goals walk system.vars point origin) rows
arriving_claims condition walk target place system point origin (arrives equal) =
    record { condition = condition; place = place; statement = IsWrittenBy target.statement origin }
    ∷ follow_claims condition (place ++ Key (codes "arrive") ∷ []) system 0 (arriving_goals target system.vars point origin) equal

-- That the word has the reader's label, by multipliers under this key (condition 14). Without a label nothing shows it.
abbrev pub label_claims : List AffineForm → List Step → List ℕ → AffineSystem → Option (List AffineForm) → List FarkasMultipliers → List Claim
label_claims reader place key system None shown = record { condition = 14; place = place; statement = ⊥ } ∷ []
label_claims reader place key system (Some label) shown = follow_claims 14 (place ++ Key key ∷ []) system 0 (equality_rows system.vars label reader) shown

-- What an entry claims at a leaf of a walk that keeps labels, in a system, by the condition of this number: that no point
-- comes there; that its word is an input, at which the walk stops; that it was written in a credited nest, where it stops
-- too; or that it was written by an instance of a statement with a region, which is in it. And then that the word has the
-- reader's label. Such a walk doesn't arrive.
abbrev pub keeping_claims : ℕ → WalkSetting → KeptLabels → ReadOf → List Step → AffineSystem → List AffineForm → LeafOrigin → LeafClaim → List Claim
keeping_claims condition walk kept reader place system point origin (no_point shown) =
    record { condition = condition; place = place ++ Key (codes "empty") ∷ []; statement = IsPointless system shown } ∷ []
keeping_claims condition walk kept reader place system point origin (stops label) =
    record { condition = condition; place = place; statement = is_input origin ≡ true }
    ∷ label_claims kept.reader place (codes "stop") system (word_label walk kept reader system.vars point origin) label
keeping_claims condition walk kept reader place system point origin (is_credited credit rows label) =
    record { condition = condition; place = place; statement = IsOfCredit kept.credits credit origin }
    ∷ follow_claims condition (place ++ Key (codes "rows") ∷ []) system 0 (credit_goals walk.program kept.credits system.vars point credit origin) rows
    ++ label_claims kept.reader place (codes "label") system (word_label walk kept reader system.vars point origin) label
keeping_claims condition walk kept reader place system point origin (goes_on rows label) =
    record { condition = condition; place = place; statement = IsInRegion walk origin }
    ∷ follow_claims condition (place ++ Key (codes "rows") ∷ []) system 0 (going_goals walk system.vars point origin) rows
    ++ label_claims kept.reader place (codes "label") system (word_label walk kept reader system.vars point origin) label
keeping_claims condition walk kept reader place system point origin (arrives equal) = record { condition = condition; place = place; statement = ⊥ } ∷ []

-- what an entry claims, by what is asked of the walk
abbrev pub aimed_claims : ℕ → WalkSetting → WalkAim → ReadOf → List Step → AffineSystem → List AffineForm → LeafOrigin → LeafClaim → List Claim
aimed_claims condition walk (arrives_at target) reader place system point origin entry = arriving_claims condition walk target place system point origin entry
aimed_claims condition walk (keeps kept) reader place system point origin entry = keeping_claims condition walk kept reader place system point origin entry

-- What is claimed at a leaf of the source tree of a read, under the rows before its tests: that the rows are few (condition
-- 2), and what its entry says.
abbrev pub leaf_claims : ℕ → WalkSetting → ReadOf → List Step → List AffineForm → OpenLeaf → LeafClaim → List Claim
leaf_claims condition walk reader place rows leaf entry =
    record { condition = 2; place = entry_place place entry; statement = IsFew (length (rows ++ leaf.tests)) }
    ∷ aimed_claims condition walk walk.aim reader place (record { vars = region_variables walk reader.statement; rows = rows ++ leaf.tests })
    (reading_point walk reader.statement) leaf.origin entry
