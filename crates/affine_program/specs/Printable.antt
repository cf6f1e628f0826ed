-- Which programs are the meaning of texts, so that the text that prints one can be read again.
use Rattle.std.specs.Prelude.{◌≡◌, ℕ, suc, ◌+◌, ◌≤◌, ◌<◌, nat_lt, if◌then◌else◌, Bool, false, List, [], ◌∷◌, ◌++◌, length, map, bytes_eq, ⊤}
use Rattle.std.specs.List.{AllByRecursion, list_any}
use Rattle.iolb_model.specs.Form.{AffineForm}
use Rattle.iolb_model.specs.Program.{Access, Statement, Item, assign, loop, guard, Row, done, next, Array, AffineProgram}
use Rattle.iolb_model.specs.declared.limits.TheConstants.{LOOPS, GUARDS, NUMBER_SIZE}
use Rattle.c_tokens.specs.Names.{IsName}
use Rattle.affine_form.specs.Form.{IsSmallForm}

-- ---- names

-- no name stands again behind itself
abbrev pub AreDifferent : List (List ℕ) → Type 0
AreDifferent [] = ⊤
AreDifferent (n ∷ names) = (list_any (bytes_eq n) names ≡ false) × AreDifferent names

-- whether a name is an array's
abbrev pub is_array_name : List ℕ → List Array → Bool
is_array_name name arrays = list_any (λ (a : Array). bytes_eq name a.name) arrays

-- no array has the name of one behind it
abbrev pub AreDifferentArrays : List Array → Type 0
AreDifferentArrays [] = ⊤
AreDifferentArrays (a ∷ arrays) = (is_array_name a.name arrays ≡ false) × AreDifferentArrays arrays

-- an array has a C name, and none of these
abbrev pub IsArrayName : List (List ℕ) → Array → Type 0
IsArrayName names a = IsName a.name × (list_any (bytes_eq a.name) names ≡ false)

-- ---- the order of arrays

-- how many arrays were seen behind one of this number
abbrev pub next_seen : ℕ → ℕ → ℕ
next_seen seen number = if nat_lt number seen then seen else suc seen

-- from so many arrays that were seen to so many, each number is of one of those or of the next
abbrev pub IsOrdered : ℕ → List ℕ → ℕ → Type 0
IsOrdered seen [] last = seen ≡ last
IsOrdered seen (number ∷ numbers) last = (number ≤ seen) × IsOrdered (next_seen seen number) numbers last

-- the arrays of references, and of statements, in the order of the text
abbrev pub access_numbers : List Access → List ℕ
access_numbers accesses = map (λ (a : Access). a.array) accesses

-- the arrays of statements
abbrev pub statement_numbers : List Statement → List ℕ
statement_numbers [] = []
statement_numbers (s ∷ statements) = s.writes.array ∷ (access_numbers s.reads ++ statement_numbers statements)

-- ---- loops

-- a loop's header inside loops of these names: not too many, each of another name, which stands for nothing else
pub record IsPrintableHeader (p : AffineProgram) (around : List (List ℕ)) (name : List ℕ) (lower upper : AffineForm) : Type 0 where
  pub depth : length around < LOOPS
  pub is_name : IsName name
  pub no_parameter : list_any (bytes_eq name) p.parameters ≡ false
  pub no_array : is_array_name name p.arrays ≡ false
  pub is_new : list_any (bytes_eq name) around ≡ false
  pub lower_small : IsSmallForm NUMBER_SIZE lower
  pub upper_small : IsSmallForm NUMBER_SIZE upper

-- a guard's rows inside guards of so many rows: there is one, and they are small and not too many
pub record IsPrintableGuard (guards : ℕ) (rows : List AffineForm) : Type 0 where
  pub some : 0 < length rows
  pub few : guards + length rows ≤ GUARDS
  pub small : AllByRecursion (IsSmallForm NUMBER_SIZE) rows

-- the loops and the guards of an item and of a row inside loops of these names and guards of so many rows
abbrev mutual
  pub IsPrintableItem : AffineProgram → List (List ℕ) → ℕ → Item → Type 0
  IsPrintableItem p around guards (assign number) = ⊤
  IsPrintableItem p around guards (loop name direction lower upper body) = IsPrintableHeader p around name lower upper × IsPrintableRow p (around ++ name ∷ []) guards body
  IsPrintableItem p around guards (guard rows body) = IsPrintableGuard guards rows × IsPrintableRow p around (guards + length rows) body

  pub IsPrintableRow : AffineProgram → List (List ℕ) → ℕ → Row → Type 0
  IsPrintableRow p around guards done = ⊤
  IsPrintableRow p around guards (next item row) = IsPrintableItem p around guards item × IsPrintableRow p around guards row

-- ---- programs

-- A program that some text means: names are C's and each stands for one thing, something is assumed where there is a
-- parameter, and arrays are numbered in the order in which their references stand.
pub record IsPrintable (p : AffineProgram) : Type 0 where
  pub parameters : AllByRecursion IsName p.parameters
  pub different : AreDifferent p.parameters
  pub arrays : AllByRecursion (IsArrayName p.parameters) p.arrays
  pub different_arrays : AreDifferentArrays p.arrays
  pub some_assumptions : 0 < length p.parameters → 0 < length p.assumptions
  pub order : IsOrdered 0 (statement_numbers p.statements) (length p.arrays)
  pub loops : IsPrintableRow p [] 0 p.tree
