-- Opening terms: what a program is sure to load of an array, as a read of it says whose subscripts are loops' names.
use Rattle.std.specs.Prelude.{◌≡◌, ◌⊎◌, ⊤, ℕ, ◌+◌, ◌<◌, ◌≤◌, nat_eq, Bool, if◌then◌else◌, ℤ, pos, List, [], ◌∷◌, ◌++◌, length, map, filter, flat_map, Option, Some, None, Contains}
use Rattle.std.specs.List.{AllByRecursion, IsDistinct, list_any, range_with_len}
use Rattle.iolb_model.specs.Form.{AffineForm}
use Rattle.iolb_model.specs.Program.{Direction, AffineProgram}
use Rattle.affine_form.specs.Matrix.{IntegerMatrix}
use Rattle.affine_form.specs.Rows.{widened, variable}
use Rattle.affine_form.specs.Substitution.{substitution}
use Rattle.affine_program.specs.Domain.{bounds_at, depth_of}
use Rattle.flow_deps.specs.declared.wanted.Wanted.TheVariants.{Short}
use Rattle.dep_quast.specs.Context.{ReadOf, reference_of, parameter_point}
use Rattle.dep_quast.specs.Tree.{SelectionTree}
use Rattle.dep_quast.specs.Truth.{ReadFits}
use Rattle.flow_deps.specs.Candidates.{direction_at, first_bound, loop_variable}
use Rattle.flow_deps.specs.Plain.{IsPlain}
use Rattle.wavefront.specs.declared.cold.Cold.{Cold}
use Rattle.wavefront.specs.View.{term_of}
use Rattle.iolb_check.specs.declared.term.Term.TheVariants as terms
use Rattle.iolb_check.specs.declared.term.Branch.{Branch}
use Rattle.projective_bounds.specs.HeldColds.{array_read, reader_of}
use Rattle.cold_terms.specs.Outline.{ColdOutline, outline_in}
use Rattle.find_terms.specs.Shown.{IsShownCold}
use Rattle.iolb_model.specs.declared.limits.TheConstants.{OPENING_TERMS}

-- ---- the loops that subscripts name

-- The subscripts of a read are the variables of these loops around its statement, which all differ.
pub record AreNamed (program : AffineProgram) (reader : ReadOf) (loops : List ℕ) : Type 0 where
  pub there : AllByRecursion (λ (loop : ℕ). loop < depth_of program reader.statement) loops
  pub different : IsDistinct nat_eq loops
  pub subscripts : (reference_of program reader).subscripts ≡ map (loop_variable program reader) loops

-- a loop is one of those that are named
abbrev pub is_named : List ℕ → ℕ → Bool
is_named loops number = list_any (λ (loop : ℕ). nat_eq loop number) loops

-- ---- the nest and the point

-- The nest so far, and the values of the loops so far, as forms over the parameters and the nest's variables.
pub record NestSoFar : Type 0 where
  pub nest : List (AffineForm × AffineForm)
  pub values : List AffineForm

-- how many variables there are so far
abbrev pub width : AffineProgram → NestSoFar → ℕ
width program far = length program.parameters + length far.nest

-- a bound of the next loop at the values so far
abbrev pub at_values : AffineProgram → NestSoFar → AffineForm → AffineForm
at_values program far bound = widened (width program far) (substitution bound (parameter_point program (width program far) ++ far.values))

-- into a loop that is named: the nest has a variable more, between the loop's bounds at the values so far, and it is the
-- loop's value
abbrev pub with_variable : AffineProgram → NestSoFar → AffineForm → AffineForm → NestSoFar
with_variable program far lower upper = record {
  nest = far.nest ++ (at_values program far lower, at_values program far upper) ∷ [];
  values = map (widened (width program far + 1)) far.values ++ variable (width program far + 1) (width program far) ∷ [];
}

-- into another loop, in its first turn: it has its first bound at the values so far
abbrev pub with_first : AffineProgram → NestSoFar → AffineForm → NestSoFar
with_first program far first = record { nest = far.nest; values = far.values ++ at_values program far first ∷ [] }

-- into a loop of these bounds that goes so
abbrev pub into_loop : AffineProgram → Bool → Direction → NestSoFar → AffineForm × AffineForm → NestSoFar
into_loop program named direction far bounds =
    if named then with_variable program far bounds.0 bounds.1 else with_first program far (first_bound direction bounds)

-- along the rest of the loops around a statement, of which the first has this number
abbrev pub nest_along : AffineProgram → ℕ → List ℕ → ℕ → List (AffineForm × AffineForm) → NestSoFar → NestSoFar
nest_along program statement loops number [] far = far
nest_along program statement loops number (bounds ∷ others) far =
    nest_along program statement loops (number + 1) others (into_loop program (is_named loops number) (direction_at program statement number) far bounds)

-- The nest of the loops that are named, outermost first, and the loop values: a loop that is named has its variable, each
-- other its first value, at the values before it.
abbrev pub named_nest : AffineProgram → ReadOf → List ℕ → NestSoFar
named_nest program reader loops = nest_along program reader.statement loops 0 (bounds_at program reader.statement) (record { nest = []; values = [] })

-- ---- the matrix

-- the loops that are named, outermost first
abbrev pub named_loops : AffineProgram → ReadOf → List ℕ → List ℕ
named_loops program reader loops = filter (is_named loops) (range_with_len 0 (depth_of program reader.statement))

-- 1 where two loops are one, and 0 elsewhere
abbrev pub same_loop : ℕ → ℕ → ℤ
same_loop loop other = if nat_eq loop other then pos 1 else pos 0

-- The matrix that undoes the order of the subscripts: a row for each loop that is named, outermost first, with 1 in the column
-- of the subscript that names it.
abbrev pub undoing : AffineProgram → ReadOf → List ℕ → IntegerMatrix
undoing program reader loops = record {
  rows = length (named_loops program reader loops);
  columns = length loops;
  cells = flat_map (λ (loop : ℕ). map (same_loop loop) loops) (named_loops program reader loops);
}

-- ---- plain reads

-- the outline of an opening term
abbrev pub opening_outline : AffineProgram → ReadOf → List ℕ → ColdOutline
opening_outline program reader loops = record {
  reader = reader;
  nest = (named_nest program reader loops).nest;
  point = (named_nest program reader loops).values;
  matrix = undoing program reader loops;
  scale = 1;
}

-- the term has the outline of its read's opening term
abbrev pub HasOpeningOutline : AffineProgram → ReadOf → Cold → Type 0
HasOpeningOutline program reader cold = (loops : List ℕ) × AreNamed program reader loops × (outline_in (term_of cold) ≡ opening_outline program reader loops)

-- A cold term is the opening term of a plain read: the read has a plain source tree, its subscripts name different loops,
-- and the term has the outline that follows from these and is shown over the tree by short lists.
pub record IsOpeningTerm (program : AffineProgram) (reader : ReadOf) (cold : Cold) : Type 0 where
  pub read : ReadFits program reader
  pub tree : SelectionTree
  pub plain : IsPlain program reader tree
  pub outline : HasOpeningOutline program reader cold
  pub shown : IsShownCold Short program tree cold

-- A read is plain where it has an opening term.
abbrev pub IsPlainRead : AffineProgram → ReadOf → Type 0
IsPlainRead program reader = (cold : Cold) × IsOpeningTerm program reader cold

-- some read of an array is plain
abbrev pub HasPlainRead : AffineProgram → ℕ → Type 0
HasPlainRead program array = (reader : ReadOf) × ((reference_of program reader).array ≡ array) × IsPlainRead program reader

-- ---- the branch

-- a read comes before another: by statement, then by read
abbrev pub IsEarlierRead : ReadOf → ReadOf → Type 0
IsEarlierRead one other = (one.statement < other.statement) ⊎ ((one.statement ≡ other.statement) × (one.read < other.read))

-- A cold term is the opening term of its array's first plain read.
pub record IsFirstOpening (program : AffineProgram) (cold : Cold) : Type 0 where
  pub opens : IsOpeningTerm program (reader_of cold) cold
  pub first : (reader : ReadOf) → IsEarlierRead reader (reader_of cold) → (reference_of program reader).array ≡ array_read program cold → ¬ IsPlainRead program reader

-- each number is less than those after it
abbrev pub AreRising : List ℕ → Type 0
AreRising [] = ⊤
AreRising (n ∷ ns) = AllByRecursion (λ (later : ℕ). n < later) ns × AreRising ns

-- The opening terms of a program: each is that of its array's first plain read, in the order of the arrays, 16 at most; and an
-- array that has a plain read has a term, or comes after those of 16 terms.
pub record AreOpenings (program : AffineProgram) (colds : List Cold) : Type 0 where
  pub each : AllByRecursion (IsFirstOpening program) colds
  pub order : AreRising (map (array_read program) colds)
  pub few : length colds ≤ OPENING_TERMS
  pub all : (array : ℕ) → HasPlainRead program array → Contains (map (array_read program) colds) array
      ⊎ ((length colds ≡ OPENING_TERMS) × AllByRecursion (λ (cold : Cold). array_read program cold < array) colds)

-- The opening branch: the opening terms, and no multipliers that show them to have no vertex in common, since their arrays
-- differ.
abbrev pub IsOpeningBranch : AffineProgram → Branch → Type 0
IsOpeningBranch program branch = (colds : List Cold) × AreOpenings program colds × (branch.terms.items ≡ map terms.Cold colds) × (branch.disjoint.items ≡ [])

-- what a search for the opening branch finds: it, with a term at least, or nothing, where no read is plain
abbrev pub FindsOpening : AffineProgram → Option Branch → Type 0
FindsOpening program None = (reader : ReadOf) → ¬ IsPlainRead program reader
FindsOpening program (Some branch) = IsOpeningBranch program branch × (1 ≤ length branch.terms.items)
