-- What a program says of the references of its statements, and of the loops around them.
use Rattle.std.proofs.Common.{Bool, true, false, ◌≡◌, refl, sym, ◌∙◌, ap, subst, ℕ, zero, suc, ◌+◌, ◌*◌, ◌<◌, ◌≤◌, List, [], ◌∷◌, ◌++◌, length, map, get_or, arith}
use Rattle.iolb_model.specs.declared.limits.TheConstants.{LOOPS}
use Rattle.std.specs.Prelude.{Option, Some, None, IsSomeAnd, slice_get, ◌==◌, if◌then◌else◌}
use Rattle.std.proofs.lemmas.Bool.{eqb-true}
use Rattle.dep_quast.specs.Levels.{writers, writers_from, IsWriter}
use Rattle.std.specs.List.{AllByRecursion}
use Rattle.std.proofs.lemmas.List.{length-map, get_or-map}
use Rattle.base_laws.proofs.Lists.{All-append, All-at, there}
use Rattle.iolb_model.specs.Form.{AffineForm}
use Rattle.iolb_model.specs.Path.{bounds_on, row_path}
use Rattle.iolb_model.specs.Program.{Direction, Array, AccessFits, IsOver, StatementFits, AffineProgram, IsWellFormed, statement_at, no_statement, Statement as ModelStatement}
use Rattle.iolb_model.specs.Order.{common_loops}
use Rattle.execution_laws.proofs.Domains.{way-there, statements-rise}
use Rattle.execution_laws.proofs.Orders.{row_common-within, row_common-turn}
use Rattle.affine_form.specs.Form.{variables, IsSmallForm}
use Rattle.affine_form.specs.System.{AllOver}
use Rattle.claims.proofs.Rows.{widened-over}
use Rattle.affine_form.specs.Rows.{IsSmallOver, IsSmallWithin, widened, equality_rows, put_in}
use Rattle.affine_form.specs.Substitution.{substitution}
use Rattle.affine_program.specs.declared.reference.Reference.{Reference}
use Rattle.affine_program.specs.declared.statement.Statement.{Statement}
use Rattle.affine_program.specs.Domain.{depth_of}
use Rattle.affine_program.specs.Limits.{IsSmallReference}
use Rattle.affine_program.specs.Parts.{ProgramParts, IsProgram, access_of, statement_of, meaning}
use Rattle.affine_program.proofs.Bounds.{StandsAt, row-stands, bounds-are, limits-at}
use Rattle.dep_quast.specs.Context.{ReadOf, reference_of}
use Rattle.dep_quast.specs.Truth.{ReadFits}
use Rattle.execution_laws.proofs.Ways.{there-holds}
use Rattle.iolb_model.specs.declared.limits.TheConstants.{NUMBER_SIZE}

-- a statement of a program fits on its way
pub fits-at : (program : AffineProgram) (s : ℕ) → IsWellFormed program → s < length program.statements → StatementFits program (length program.parameters + depth_of program s) s
fits-at program s well below =
    (there-holds (row_path program.tree s) (StandsAt program (length program.parameters) s)
    (row-stands program (length program.parameters) program.tree s well.tree (way-there program s well below))).1

same_rank : (o : Option Array) (m n : ℕ) → IsSomeAnd o (λ array. m ≡ array.rank) → IsSomeAnd o (λ array. n ≡ array.rank) → m ≡ n
same_rank None m n p q = absurd p
same_rank (Some array) m n p q = p ∙ sym q

-- references to one array have as many subscripts
pub ranks-same : (program : AffineProgram) (reader : ReadOf) (t : ℕ) → IsWellFormed program → ReadFits program reader → t < length program.statements
    → (statement_at program t).writes.array ≡ (reference_of program reader).array
    → length (statement_at program t).writes.subscripts ≡ length (reference_of program reader).subscripts
ranks-same program reader t well there below arrays =
    let written = (fits-at program t well below).writes in
    let read = All-at (AccessFits program (length program.parameters + depth_of program reader.statement)) (statement_at program reader.statement).reads reader.read no_statement.writes
    (fits-at program reader.statement well there.statement).reads there.read in
    same_rank (slice_get program.arrays (reference_of program reader).array) (length (statement_at program t).writes.subscripts) (length (reference_of program reader).subscripts)
    (subst (λ (a : ℕ). IsSomeAnd (slice_get program.arrays a) (λ array. length (statement_at program t).writes.subscripts ≡ array.rank)) arrays written.rank) read.rank

-- two statements have at most as many loops in common as there are around either
pub common-first : (program : AffineProgram) (t s : ℕ) → IsWellFormed program → t < length program.statements → length (common_loops program t s) ≤ depth_of program t
common-first program t s well below =
    there-holds (row_path program.tree t) (λ path. length (common_loops program t s) ≤ length (bounds_on path))
    (row_common-within program.tree t s (statements-rise program well) (way-there program t well below))

pub common-second : (program : AffineProgram) (t s : ℕ) → IsWellFormed program → s < length program.statements → length (common_loops program t s) ≤ depth_of program s
common-second program t s well below =
    subst (λ (loops : List Direction). length loops ≤ depth_of program s) (row_common-turn program.tree s t) (common-first program s t well below)

-- what stands at a place that is there
-- a statement of the program that the parts mean
pub statement-is : (parts : ProgramParts) (s : ℕ) (at : Statement) → s < length parts.statements → at ≡ get_or parts.statements s at → statement_at (meaning parts) s ≡ statement_of at
statement-is parts s at below read = get_or-map statement_of parts.statements s at no_statement below ∙ ap statement_of (sym read)

module _ (parts : ProgramParts) (is : IsProgram parts) where
  pub all-there : (s : ℕ) → s < length parts.statements → s < length (meaning parts).statements
  all-there s below = omega (arith, length-map parts.statements statement_of)

  pub params-few : length parts.params ≤ 6
  params-few = is.limits.parameters

  pub depth-few : (s : ℕ) → s < length parts.statements → depth_of (meaning parts) s ≤ LOOPS
  depth-few s below =
      let at = there parts.statements s below in
      omega (arith, ap length (bounds-are parts s at.0 is below at.1), (limits-at parts s at.0 is below at.1).depth)

  pub common-few : (t s : ℕ) → t < length parts.statements → length (common_loops (meaning parts) t s) ≤ LOOPS
  common-few t s below = omega (arith, common-first (meaning parts) t s is.well_formed (all-there t below), depth-few t below)

  over-and-small : (vars : ℕ) (forms : List AffineForm) → AllByRecursion (IsOver vars) forms → AllByRecursion (IsSmallForm NUMBER_SIZE) forms → AllByRecursion (IsSmallOver vars) forms
  over-and-small vars [] p q = tt
  over-and-small vars (f ∷ fs) p q = (record { over = p.0; small = q.0 }, over-and-small vars fs p.1 q.1)

  -- the subscripts of a written reference are small forms over the parameters and the loops
  pub written-over : (s : ℕ) → s < length parts.statements
      → AllByRecursion (IsSmallOver (length parts.params + depth_of (meaning parts) s)) (statement_at (meaning parts) s).writes.subscripts
  written-over s below =
      let at = there parts.statements s below in
      let same = statement-is parts s at.0 below at.1 in
      over-and-small (length parts.params + depth_of (meaning parts) s) (statement_at (meaning parts) s).writes.subscripts
      (fits-at (meaning parts) s is.well_formed (all-there s below)).writes.subscripts
      (subst (λ (statement : ModelStatement). AllByRecursion (IsSmallForm NUMBER_SIZE) statement.writes.subscripts) (sym same) (limits-at parts s at.0 is below at.1).written)

  small-read : (reads : List Reference) (k : ℕ) → AllByRecursion IsSmallReference reads → k < length reads
      → AllByRecursion (IsSmallForm NUMBER_SIZE) (get_or (map access_of reads) k no_statement.writes).subscripts
  small-read [] k h below = absurd (omega arith)
  small-read (r ∷ reads) zero h below = h.0
  small-read (r ∷ reads) (suc k) h below = small-read reads k h.1 (omega arith)

  -- and so are those of a reference that is read
  pub read-over : (reader : ReadOf) → ReadFits (meaning parts) reader
      → AllByRecursion (IsSmallOver (length parts.params + depth_of (meaning parts) reader.statement)) (reference_of (meaning parts) reader).subscripts
  read-over reader fits =
      let s = reader.statement in
      let below : s < length parts.statements = omega (arith, length-map parts.statements statement_of, fits.statement) in
      let at = there parts.statements s below in
      let same = statement-is parts s at.0 below at.1 in
      over-and-small (length parts.params + depth_of (meaning parts) s) (reference_of (meaning parts) reader).subscripts
      (All-at (AccessFits (meaning parts) (length parts.params + depth_of (meaning parts) s)) (statement_at (meaning parts) s).reads reader.read no_statement.writes
      (fits-at (meaning parts) s is.well_formed fits.statement).reads fits.read).subscripts
      (subst (λ (statement : ModelStatement). AllByRecursion (IsSmallForm NUMBER_SIZE) (get_or statement.reads reader.read no_statement.writes).subscripts) (sym same)
      (small-read at.0.reads.items reader.read (limits-at parts s at.0 is below at.1).read
      (omega (arith, length-map at.0.reads.items access_of, ap (λ (statement : ModelStatement). length statement.reads) same, fits.read))))

-- how many loops are around a statement that the code reads
pub depth-read : (parts : ProgramParts) (table : List Statement) (statement k count : ℕ) (at : Statement) → IsProgram parts → table ≡ parts.statements
    → statement < length parts.statements → k ≡ statement → at ≡ get_or table k at → count ≡ length at.bounds.items → count ≡ depth_of (meaning parts) statement
depth-read parts table statement k count at is same below e read is_count =
    let here : at ≡ get_or parts.statements statement at = read ∙ ap (λ (xs : List Statement). get_or xs k at) same ∙ ap (λ n. get_or parts.statements n at) e in
    is_count ∙ sym (ap length (bounds-are parts statement at is below here))

-- the writers of an array write it
writers-all : (program : AffineProgram) (first : ℕ) (statements : List ModelStatement) (array : ℕ)
    → ((k : ℕ) → k < length statements → (first + k < length program.statements) × (statement_at program (first + k) ≡ get_or statements k no_statement))
    → AllByRecursion (IsWriter program array) (writers_from first statements array)
writers-all program first [] array h = tt
writers-all program first (s ∷ statements) array h =
    by (s.writes.array == array) refl (h 0 (omega arith)) (writers-all program (suc first) statements array (λ k below. next k (h (suc k) (omega arith)))) where
      next : (k : ℕ) → (first + suc k < length program.statements) × (statement_at program (first + suc k) ≡ get_or statements k no_statement)
          → (suc first + k < length program.statements) × (statement_at program (suc first + k) ≡ get_or statements k no_statement)
      next k p = (omega (arith, p.0), subst (λ (n : ℕ). statement_at program n ≡ get_or statements k no_statement) (moved k) p.1) where
        moved : (k : ℕ) → first + suc k ≡ suc first + k
        moved k = omega arith

      none : (n : ℕ) → n + 0 ≡ n
      none n = omega arith

      by : (b : Bool) → b ≡ (s.writes.array == array) → (first + 0 < length program.statements) × (statement_at program (first + 0) ≡ s)
          → AllByRecursion (IsWriter program array) (writers_from (suc first) statements array)
          → AllByRecursion (IsWriter program array) (if b then first ∷ writers_from (suc first) statements array else writers_from (suc first) statements array)
      by true e p others =
          ((omega (arith, p.0), ap (λ (t : ModelStatement). t.writes.array) (subst (λ (n : ℕ). statement_at program n ≡ s) (none first) p.1) ∙ eqb-true s.writes.array array (sym e)), others)
      by false e p others = others

pub all-writers : (program : AffineProgram) (array : ℕ) → AllByRecursion (IsWriter program array) (writers program array)
all-writers program array =
    writers-all program 0 program.statements array (λ k below. (omega arith, ap (λ n. get_or program.statements n no_statement) (none k))) where
      none : (k : ℕ) → 0 + k ≡ k
      none k = omega arith

-- rows that follow others over as many variables are over them too
pub over-append : (vars : ℕ) (xs ys zs : List AffineForm) → zs ≡ xs ++ ys → AllOver vars xs → AllOver vars ys → AllOver vars zs
over-append vars xs ys zs e p q = subst (AllOver vars) (sym e) (All-append (λ row. variables row ≡ vars) xs ys p q)

pub wide-over : (many vars n : ℕ) (rows wide : List AffineForm) → n ≡ vars → many ≤ vars → wide ≡ map (widened n) rows → AllOver many rows → AllOver vars wide
wide-over many vars n rows wide e more is h =
    subst (AllOver vars) (sym (is ∙ ap (λ (k : ℕ). map (widened k) rows) e)) (widened-over many vars rows more h)

-- the rows of equal forms are two for each pair
pub length-equality_rows : (vars : ℕ) (fs gs : List AffineForm) → length fs ≡ length gs → length (equality_rows vars fs gs) ≡ 2 * length gs
length-equality_rows vars [] [] e = omega arith
length-equality_rows vars [] (g ∷ gs) e = absurd (omega arith)
length-equality_rows vars (f ∷ fs) [] e = absurd (omega arith)
length-equality_rows vars (f ∷ fs) (g ∷ gs) e = omega (arith, length-equality_rows vars fs gs (omega arith))

-- those of equal forms are at most two for each of the second list
pub equality_rows-few : (vars : ℕ) (fs gs : List AffineForm) → length (equality_rows vars fs gs) ≤ 2 * length gs
equality_rows-few vars [] gs = omega arith
equality_rows-few vars (f ∷ fs) [] = omega arith
equality_rows-few vars (f ∷ fs) (g ∷ gs) = omega (arith, equality_rows-few vars fs gs)

-- those of equal forms also where forms are put in
pub cells-many : (vars : ℕ) (point here written read : List AffineForm) → length written ≡ length read
    → length (equality_rows vars (put_in point written) (put_in here read)) ≡ 2 * length read
cells-many vars point here written read e =
    omega (
      arith,
      length-equality_rows vars (put_in point written) (put_in here read)
          (length-map written (λ form. substitution form point) ∙ e ∙ sym (length-map read (λ form. substitution form here))),
      length-map read (λ form. substitution form here),
    )

-- small forms over so many variables are within more
pub within-more : (many vars : ℕ) (forms : List AffineForm) → many ≤ vars → AllByRecursion (IsSmallOver many) forms → AllByRecursion (IsSmallWithin vars) forms
within-more many vars [] more h = tt
within-more many vars (f ∷ fs) more h = (record { within = omega (arith, more, h.0.over); small = h.0.small }, within-more many vars fs more h.1)

-- a level below their number is at most the loops in common
pub level-within : (level common : ℕ) (first : Bool) → level < common + (if first then 1 else 0) → level ≤ common
level-within level common true h = omega (arith, h)
level-within level common false h = omega (arith, h)
