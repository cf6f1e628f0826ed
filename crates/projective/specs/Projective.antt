-- Projective programs: one statement in a nest of loops that run upward from 0 to below parameters, where each reference
-- is a coordinate projection of the loops. (The projective loop nests of Dinh and Demmel 2020.)
use Rattle.std.specs.Prelude.{◌≡◌, ◌≢◌, ◌⊎◌, ⊤, ℕ, suc, ◌+◌, ◌<◌, ◌≤◌, ℤ, pos, negsuc, ◌≤ℤ◌, Bool, true, not, ◌==◌, List, [], ◌∷◌, length, map, Option, Some, None, slice_index_or}
use Rattle.std.specs.List.{AllByRecursion, filter, find, list_any, range_with_len}
use Rattle.std.specs.Ordering.{int_eq}
use Rattle.iolb_model.specs.Form.{AffineForm}
use Rattle.iolb_model.specs.Program.{upward, downward, Access, Statement, Item, assign, loop, guard, Row, done, next, AffineProgram, statement_at}
use Rattle.affine_form.specs.Combination.{constant_form}
use Rattle.affine_form.specs.Rows.{variable}
use Rattle.affine_program.specs.Domain.{bounds_at, depth_of, guards_at}
use Rattle.projective.specs.declared.recognising.TheConstants.{MOST_ARRAYS}

-- something holds of a member of a list
abbrev pub HoldsOfOne : {X : Type 0} → (X → Type 0) → List X → Type 0
HoldsOfOne P [] = ⊥
HoldsOfOne P (x ∷ xs) = P x ⊎ HoldsOfOne P xs

-- ---- loops

-- a guard that holds no statement and no loop, and a row of such guards
abbrev mutual
  pub IsBareItem : Item → Type 0
  IsBareItem (assign number) = ⊥
  IsBareItem (loop name direction lower upper body) = ⊥
  IsBareItem (guard rows body) = IsBareRow body

  pub IsBareRow : Row → Type 0
  IsBareRow done = ⊤
  IsBareRow (next item row) = IsBareItem item × IsBareRow row

-- The tree is a nest: each row holds one item besides such guards, down to a statement, and each loop runs upward.
abbrev mutual
  pub IsNestItem : Item → Type 0
  IsNestItem (assign number) = ⊤
  IsNestItem (loop name upward lower upper body) = IsNestRow body
  IsNestItem (loop name downward lower upper body) = ⊥
  IsNestItem (guard rows body) = ⊥

  pub IsNestRow : Row → Type 0
  IsNestRow done = ⊥
  IsNestRow (next item row) = (IsBareItem item × IsNestRow row) ⊎ (IsNestItem item × IsBareRow row)

-- the form over so many variables that is one of them, and a number
abbrev pub shifted_variable : ℕ → ℕ → ℤ → AffineForm
shifted_variable vars place number = record { coefficients = (variable vars place).coefficients; constant = number }

-- an assumption `parameter - c` with c at least 1
abbrev pub Assumes : ℕ → ℕ → AffineForm → Type 0
Assumes parameters parameter row = (row.coefficients ≡ (variable parameters parameter).coefficients) × (row.constant ≤ℤ negsuc 0)

-- A loop, with so many variables around it, runs from 0 to below this parameter, and some assumption says that the
-- parameter is at least 1.
pub record RunsBelow (program : AffineProgram) (vars : ℕ) (bounds : AffineForm × AffineForm) (parameter : ℕ) : Type 0 where
  pub there : parameter < length program.parameters
  pub lower : bounds.0 ≡ constant_form vars (pos 0)
  pub upper : bounds.1 ≡ shifted_variable vars parameter (negsuc 0)
  pub assumed : HoldsOfOne (Assumes (length program.parameters) parameter) program.assumptions

-- each loop with these bounds runs from 0 to below a parameter
abbrev pub AllRun : AffineProgram → ℕ → List (AffineForm × AffineForm) → Type 0
AllRun program vars [] = ⊤
AllRun program vars (bounds ∷ loops) = ((parameter : ℕ) × RunsBelow program vars bounds parameter) × AllRun program (suc vars) loops

-- ---- references

-- the first of some references that is to this array
abbrev pub reference_to : List Access → ℕ → Option Access
reference_to accesses array = find (λ (access : Access). access.array == array) accesses

-- a form is one of the loops, of so many around a statement
abbrev pub IsLoop : ℕ → ℕ → AffineForm → Type 0
IsLoop params depth form = (place : ℕ) × (place < depth) × (form ≡ variable (params + depth) (params + place))

-- no form stands again behind itself
abbrev pub AreDifferent : List AffineForm → Type 0
AreDifferent [] = ⊤
AreDifferent (form ∷ forms) = AllByRecursion (λ other. other ≢ form) forms × AreDifferent forms

-- the subscripts are different loops
pub record IsProjection (params depth : ℕ) (access : Access) : Type 0 where
  pub loops : AllByRecursion (IsLoop params depth) access.subscripts
  pub different : AreDifferent access.subscripts

-- whether a variable stands in a reference: a subscript has a coefficient for it
abbrev pub stands_in : ℕ → Access → Bool
stands_in place access = list_any (λ (form : AffineForm). not (int_eq (slice_index_or form.coefficients place (pos 0)) (pos 0))) access.subscripts

-- the loops that stand in a reference, by their places from the outermost
abbrev pub coordinates : ℕ → ℕ → Option Access → List ℕ
coordinates params depth None = []
coordinates params depth (Some access) = filter (λ place. stands_in (params + place) access) (range_with_len 0 depth)

-- ---- programs

-- The tree is a nest of at least one loop, each of which runs upward, and each loop with these bounds runs from 0 to below a
-- parameter that is assumed to be at least 1.
pub record AreProjectiveLoops (program : AffineProgram) (bounds : List (AffineForm × AffineForm)) : Type 0 where
  pub some : 1 ≤ length bounds
  pub nest : IsNestRow program.tree
  pub loops : AllRun program (length program.parameters) bounds

-- The reference that a statement writes is also read, so that what is read are all references; there are few arrays, and all
-- references to one are the same; the subscripts of each reference are different loops, and each loop stands in one.
pub record AreProjections (params arrays depth : ℕ) (statement : Statement) : Type 0 where
  pub few : arrays ≤ MOST_ARRAYS
  pub accumulates : HoldsOfOne (λ (access : Access). access ≡ statement.writes) statement.reads
  pub same : AllByRecursion (λ (access : Access). reference_to statement.reads access.array ≡ Some access) statement.reads
  pub standing : (place : ℕ) → place < depth → HoldsOfOne (λ (access : Access). stands_in (params + place) access ≡ true) statement.reads
  pub projections : AllByRecursion (IsProjection params depth) statement.reads

-- A projective program has one statement, with no guards around it, in a nest of loops that run upward from 0 to below
-- parameters, whose references are projections of the loops.
pub record IsProjective (program : AffineProgram) : Type 0 where
  pub one : length program.statements ≡ 1
  pub unguarded : guards_at program 0 ≡ []
  pub loops : AreProjectiveLoops program (bounds_at program 0)
  pub projects : AreProjections (length program.parameters) (length program.arrays) (depth_of program 0) (statement_at program 0)

-- For each of so many arrays, in their order, the places of the loops that stand in the first reference to it, rising.
abbrev pub sets_of : ℕ → ℕ → ℕ → List Access → List (List ℕ)
sets_of params arrays depth accesses = map (λ array. coordinates params depth (reference_to accesses array)) (range_with_len 0 arrays)

-- The loops of each array of a projective program: one set for each array, in their order.
abbrev pub projection_sets : AffineProgram → List (List ℕ)
projection_sets program = sets_of (length program.parameters) (length program.arrays) (depth_of program 0) (statement_at program 0).reads
