-- The bounds of the loops around a statement, and the rows of the guards.
use Rattle.std.proofs.Common.{◌≡◌, refl, sym, ◌∙◌, ap, subst, inl, inr, ℕ, zero, suc, ◌+◌, ◌<◌, ◌≤◌, Bool, true, false, List, [], ◌∷◌, length, map, get_or, take, arith}
use Rattle.iolb_model.specs.declared.limits.TheConstants.{LOOPS}
use Rattle.std.specs.Prelude.{◌⊎◌, ◌==◌, if◌then◌else◌, ⊤, Option, Some, None, IsSomeAnd, option_map, unwrap_or, is_some}
use Rattle.std.specs.List.{AllByRecursion, enumerate_from}
use Rattle.std.proofs.lemmas.Bool.{eqb-true}
use Rattle.std.proofs.lemmas.List.{length-map, map-append, take-map}
use Rattle.base_laws.proofs.Lists.{All-append, All-at, All-map, All-weaken, there}
use Rattle.iolb_model.specs.Form.{AffineForm}
use Rattle.iolb_model.specs.Path.{PathStep, bounded, guarded, bounds_on, guards_on, first_of, item_path, row_path}
use Rattle.iolb_model.specs.Program.{Item, assign, loop, guard, Row, done, next, AffineProgram, IsOver, StatementFits, ItemFits, RowFits, IsWellFormed}
use Rattle.iolb_model.specs.Order.{common_loops, row_common}
use Rattle.execution_laws.proofs.Domains.{statements-rise, way-there}
use Rattle.execution_laws.proofs.Orders.{row_common-front, row_common-within}
use Rattle.execution_laws.proofs.Ways.{there-holds}
use Rattle.affine_form.specs.Form.{variables, IsSmallForm}
use Rattle.affine_form.specs.Rows.{BoundsFit, IsSmallOver, direction_of, widened}
use Rattle.affine_form.proofs.RowLemmas.{length-widened}
use Rattle.affine_program.specs.declared.statement.Statement.{Statement}
use Rattle.affine_program.specs.declared.item.Item.{Item as CodeItem}
use Rattle.affine_program.specs.Tree.{row_of}
use Rattle.affine_program.specs.Limits.{IsStatementWithinLimits}
use Rattle.affine_program.specs.Parts.{ProgramParts, StandOn, HasItsWay, meaning, statement_of, IsProgram}
use Rattle.affine_program.specs.Domain.{path_of, bounds_at, depth_of, guards_at}
use Rattle.iolb_model.specs.declared.limits.TheConstants.{NUMBER_SIZE}

-- what holds of each member with its place holds of the one at a place
pub All-placed : {X : Type 0} (P : ℕ × X → Type 0) (first : ℕ) (xs : List X) (k : ℕ) (d : X) → AllByRecursion P (enumerate_from first xs) → k < length xs
    → P (first + k, get_or xs k d)
All-placed P first [] k d h below = absurd (omega arith)
All-placed P first (x ∷ xs) zero d h below = subst (λ (n : ℕ). P (n, x)) (omega arith) h.0
All-placed P first (x ∷ xs) (suc k) d h below =
    subst (λ (n : ℕ). P (n, get_or xs k d)) (omega arith) (All-placed P (first + 1) xs k d h.1 (omega arith))

-- the bounds and the rows of the guards of a statement are those on the way to it
pub way-is : (parts : ProgramParts) (statement : ℕ) (at : Statement) → IsProgram parts → statement < length parts.statements → at ≡ get_or parts.statements statement at
    → StandOn (length parts.params + length at.bounds.items) at.bounds.items at.guards.items (path_of (meaning parts) statement)
way-is parts statement at is below read =
    there-holds (row_path (row_of parts.tree) statement) (StandOn (length parts.params + length at.bounds.items) at.bounds.items at.guards.items)
    (subst (λ (n : ℕ). HasItsWay (length parts.params) parts.tree (n, at)) (none statement)
    (subst (λ (x : Statement). HasItsWay (length parts.params) parts.tree (0 + statement, x)) (sym read)
    (All-placed (HasItsWay (length parts.params) parts.tree) 0 parts.statements statement at is.ways below))) where
      none : (n : ℕ) → 0 + n ≡ n
      none n = omega arith

pub bounds-are : (parts : ProgramParts) (statement : ℕ) (at : Statement) → IsProgram parts → statement < length parts.statements → at ≡ get_or parts.statements statement at
    → bounds_at (meaning parts) statement ≡ at.bounds.items
bounds-are parts statement at is below read = (way-is parts statement at is below read).0

pub guards-are : (parts : ProgramParts) (statement : ℕ) (at : Statement) → IsProgram parts → statement < length parts.statements → at ≡ get_or parts.statements statement at
    → guards_at (meaning parts) statement ≡ at.guards.items
guards-are parts statement at is below read =
    let way = way-is parts statement at is below read in
    ap (λ (bounds : List (AffineForm × AffineForm)). map (widened (length parts.params + length bounds)) (guards_on (path_of (meaning parts) statement))) way.0 ∙ way.1

-- the bounds on a way, and the rows of its guards, are over so many variables, and one more for each loop
abbrev pub PathFits : ℕ → List PathStep → Type 0
PathFits vars [] = ⊤
PathFits vars (bounded lower upper ∷ path) = (IsOver vars lower × IsOver vars upper) × PathFits (suc vars) path
PathFits vars (guarded rows ∷ path) = AllByRecursion (IsOver vars) rows × PathFits vars path

-- what the tree says of a statement on the way to it
abbrev pub StandsAt : AffineProgram → ℕ → ℕ → List PathStep → Type 0
StandsAt program vars statement path = PathFits vars path × StatementFits program (vars + length (bounds_on path)) statement

assign-stands : (program : AffineProgram) (vars number s : ℕ) (b : Bool) → b ≡ (number == s) → StatementFits program vars number
    → IsSomeAnd {T = List PathStep} (if b then Some [] else None) (λ path. Unit {0}) → IsSomeAnd {T = List PathStep} (if b then Some [] else None) (StandsAt program vars s)
assign-stands program vars number s true e fits h =
    (tt, subst (λ (n : ℕ). StatementFits program n s) (none vars) (subst (StatementFits program vars) (eqb-true number s (sym e)) fits)) where
      none : (n : ℕ) → n ≡ n + 0
      none n = omega arith
assign-stands program vars number s false e fits h = h

mutual
  item-stands : (program : AffineProgram) (vars : ℕ) (item : Item) (s : ℕ) → ItemFits program vars item → IsSomeAnd (item_path item s) (λ path. Unit {0})
      → IsSomeAnd (item_path item s) (StandsAt program vars s)
  item-stands program vars (assign number) s fits h = assign-stands program vars number s (number == s) refl fits h
  item-stands program vars (loop name direction lower upper body) s fits h =
      longer (row_path body s) (row-stands program (suc vars) body s fits.2 (inside (row_path body s) h)) where
        inside : (o : Option (List PathStep)) → IsSomeAnd (option_map (λ path. bounded lower upper ∷ path) o) (λ path. Unit {0}) → IsSomeAnd o (λ path. Unit {0})
        inside None h = h
        inside (Some path) h = tt

        longer : (o : Option (List PathStep)) → IsSomeAnd o (StandsAt program (suc vars) s) → IsSomeAnd (option_map (λ path. bounded lower upper ∷ path) o) (StandsAt program vars s)
        longer None h = h
        longer (Some path) h = (((fits.0, fits.1), h.0), subst (λ (n : ℕ). StatementFits program n s) (moved (length (bounds_on path))) h.1) where
          moved : (n : ℕ) → suc vars + n ≡ vars + suc n
          moved n = omega arith
  item-stands program vars (guard rows body) s fits h =
      same (row_path body s) (row-stands program vars body s fits.1 (inside (row_path body s) h)) where
        inside : (o : Option (List PathStep)) → IsSomeAnd (option_map (λ path. guarded rows ∷ path) o) (λ path. Unit {0}) → IsSomeAnd o (λ path. Unit {0})
        inside None h = h
        inside (Some path) h = tt

        same : (o : Option (List PathStep)) → IsSomeAnd o (StandsAt program vars s) → IsSomeAnd (option_map (λ path. guarded rows ∷ path) o) (StandsAt program vars s)
        same None h = h
        same (Some path) h = ((fits.0, h.0), h.1)

  pub row-stands : (program : AffineProgram) (vars : ℕ) (row : Row) (s : ℕ) → RowFits program vars row → IsSomeAnd (row_path row s) (λ path. Unit {0})
      → IsSomeAnd (row_path row s) (StandsAt program vars s)
  row-stands program vars done s fits h = absurd h
  row-stands program vars (next item row) s fits h =
      elim (either (item_path item s) (row_path row s) h) [
        | inl here ↦ first (item_path item s) (row_path row s) (item-stands program vars item s fits.0 here)
        | inr there ↦ second (item_path item s) (row_path row s) there.0 (row-stands program vars row s fits.1 there.1)
      ] where
        either : (o p : Option (List PathStep)) → IsSomeAnd (first_of o p) (λ path. Unit {0}) → IsSomeAnd o (λ path. Unit {0}) ⊎ ((is_some o ≡ false) × IsSomeAnd p (λ path. Unit {0}))
        either None p h = inr (refl, h)
        either (Some path) p h = inl h

        first : (o p : Option (List PathStep)) → IsSomeAnd o (StandsAt program vars s) → IsSomeAnd (first_of o p) (StandsAt program vars s)
        first None p h = absurd h
        first (Some path) p h = h

        second : (o p : Option (List PathStep)) → is_some o ≡ false → IsSomeAnd p (StandsAt program vars s) → IsSomeAnd (first_of o p) (StandsAt program vars s)
        second None p e h = h
        second (Some path) p e h = absurd cc

-- the way to any statement of a well-formed program fits
pub path-fits : (program : AffineProgram) (statement : ℕ) → IsWellFormed program → PathFits (length program.parameters) (path_of program statement)
path-fits program statement well = known (row_path program.tree statement) (row-stands program (length program.parameters) program.tree statement well.tree) where
  known : (o : Option (List PathStep)) → (IsSomeAnd o (λ path. Unit {0}) → IsSomeAnd o (StandsAt program (length program.parameters) statement))
      → PathFits (length program.parameters) (unwrap_or o [])
  known None stands = tt
  known (Some path) stands = (stands tt).0

fits-from : (vars : ℕ) (path : List PathStep) → PathFits vars path
    → AllByRecursion (λ (bounds : AffineForm × AffineForm). IsSmallForm NUMBER_SIZE bounds.0 × IsSmallForm NUMBER_SIZE bounds.1) (bounds_on path) → BoundsFit vars (bounds_on path)
fits-from vars [] h small = tt
fits-from vars (bounded lower upper ∷ path) h small =
    ((record { over = h.0.0; small = small.0.0 }, record { over = h.0.1; small = small.0.1 }), fits-from (suc vars) path h.1 small.1)
fits-from vars (guarded rows ∷ path) h small = fits-from vars path h.1 small

-- the rows of guards, read over the variables of all loops
guards-over : (all vars : ℕ) (path : List PathStep) → PathFits vars path → vars + length (bounds_on path) ≤ all
    → AllByRecursion (λ (row : AffineForm). variables row ≡ all) (map (widened all) (guards_on path))
guards-over all vars [] h few = tt
guards-over all vars (bounded lower upper ∷ path) h few = guards-over all (suc vars) path h.1 (omega arith)
guards-over all vars (guarded rows ∷ path) h few =
    subst (AllByRecursion (λ (row : AffineForm). variables row ≡ all)) (sym (map-append (widened all) rows (guards_on path)))
    (All-append (λ (row : AffineForm). variables row ≡ all) (map (widened all) rows) (map (widened all) (guards_on path))
    (All-map (λ (row : AffineForm). variables row ≡ all) (widened all) rows
    (All-weaken (IsOver vars) (λ (row : AffineForm). variables (widened all row) ≡ all) rows (λ row over. length-widened all row (omega arith)) h.0))
    (guards-over all vars path h.1 few))

-- the limits of a statement of a program
pub limits-at : (parts : ProgramParts) (statement : ℕ) (at : Statement) → IsProgram parts → statement < length parts.statements → at ≡ get_or parts.statements statement at
    → IsStatementWithinLimits at
limits-at parts statement at is below read =
    subst IsStatementWithinLimits (sym read) (All-at IsStatementWithinLimits parts.statements statement at is.limits.each below)

-- the bounds of a statement of a program fit
pub bounds-fit : (parts : ProgramParts) (statement : ℕ) (at : Statement) → IsProgram parts → statement < length parts.statements → at ≡ get_or parts.statements statement at
    → BoundsFit (length parts.params) at.bounds.items
bounds-fit parts statement at is below read =
    let bounds = bounds-are parts statement at is below read in
    subst (BoundsFit (length parts.params)) bounds
    (fits-from (length parts.params) (path_of (meaning parts) statement) (path-fits (meaning parts) statement is.well_formed)
    (subst (AllByRecursion (λ (bounds : AffineForm × AffineForm). IsSmallForm NUMBER_SIZE bounds.0 × IsSmallForm NUMBER_SIZE bounds.1)) (sym bounds) (limits-at parts statement at is below read).bounds))

-- and so do the rows of its guards
pub guards-fit : (parts : ProgramParts) (statement : ℕ) (at : Statement) → IsProgram parts → statement < length parts.statements → at ≡ get_or parts.statements statement at
    → AllByRecursion (IsSmallOver (length parts.params + length at.bounds.items)) at.guards.items
guards-fit parts statement at is below read =
    let way = way-is parts statement at is below read in
    let all : ℕ = length parts.params + length at.bounds.items in
    joined all at.guards.items
    (subst (AllByRecursion (λ (row : AffineForm). variables row ≡ all)) way.1
    (guards-over all (length parts.params) (path_of (meaning parts) statement) (path-fits (meaning parts) statement is.well_formed) (omega (arith, ap length way.0))))
    (limits-at parts statement at is below read).guarded where
      joined : (n : ℕ) (rows : List AffineForm) → AllByRecursion (λ (row : AffineForm). variables row ≡ n) rows → AllByRecursion (IsSmallForm NUMBER_SIZE) rows → AllByRecursion (IsSmallOver n) rows
      joined n [] h small = tt
      joined n (row ∷ rows) h small = (record { over = h.0; small = small.0 }, joined n rows h.1 small.1)

-- the loops that two statements have in common are at most as many as those around the first
pub common-within : (parts : ProgramParts) (t s : ℕ) (at : Statement) → IsProgram parts → t < length parts.statements → at ≡ get_or parts.statements t at
    → length (common_loops (meaning parts) t s) ≤ length at.bounds.items
common-within parts t s at is below read =
    let few : length (common_loops (meaning parts) t s) ≤ depth_of (meaning parts) t =
    there-holds (row_path (row_of parts.tree) t) (λ path. length (common_loops (meaning parts) t s) ≤ length (bounds_on path))
    (row_common-within (row_of parts.tree) t s (statements-rise (meaning parts) is.well_formed)
    (way-there (meaning parts) t is.well_formed (omega (arith, length-map parts.statements statement_of)))) in
    omega (arith, ap length (bounds-are parts t at is below read))

-- the directions of the loops around a statement
pub directions-are : (parts : ProgramParts) (statement : ℕ) (at : Statement) → IsProgram parts → statement < length parts.statements → at ≡ get_or parts.statements statement at
    → common_loops (meaning parts) statement statement ≡ map direction_of at.down.items
directions-are parts statement at is below read =
    subst (λ (n : ℕ). row_common (row_of parts.tree) n n ≡ map direction_of at.down.items) (none statement)
    (subst (λ (x : Statement). row_common (row_of parts.tree) (0 + statement) (0 + statement) ≡ map direction_of x.down.items) (sym read)
    (All-placed (λ (placed : ℕ × Statement). row_common (row_of parts.tree) placed.0 placed.0 ≡ map direction_of placed.1.down.items) 0 parts.statements statement at is.directions below)) where
      none : (n : ℕ) → 0 + n ≡ n
      none n = omega arith

-- the loops that a statement has in common with another are the first of those around it
pub common-front : (parts : ProgramParts) (t s : ℕ) (at : Statement) → IsProgram parts → t < length parts.statements → at ≡ get_or parts.statements t at
    → common_loops (meaning parts) t s ≡ map direction_of (take (length (common_loops (meaning parts) t s)) at.down.items)
common-front parts t s at is below read =
    let n : ℕ = length (common_loops (meaning parts) t s) in
    row_common-front (row_of parts.tree) t s (statements-rise (meaning parts) is.well_formed) ∙ ap (take n) (directions-are parts t at is below read) ∙ take-map direction_of n at.down.items

-- the loops that two statements have in common are within the limit
pub common-few : (parts : ProgramParts) (tree : List CodeItem) (t s : ℕ) → tree ≡ parts.tree → IsProgram parts → t < length parts.statements
    → length (row_common (row_of tree) t s) ≤ LOOPS
common-few parts tree t s e is below =
    let at = there parts.statements t below in
    subst (λ (items : List CodeItem). length (row_common (row_of items) t s) ≤ LOOPS) (sym e)
    (omega (arith, common-within parts t s at.0 is below at.1, (limits-at parts t at.0 is below at.1).depth))

-- the bounds that the code reads fit
pub read-fit : (parts : ProgramParts) (table : List Statement) (names : List (List ℕ)) (statement many : ℕ) (at : Statement) (bounds : List (AffineForm × AffineForm)) → IsProgram parts → table ≡ parts.statements → names ≡ parts.params
    → statement < length parts.statements → at ≡ get_or table statement at → bounds ≡ at.bounds.items → many ≡ length names → BoundsFit many bounds
read-fit parts table names statement many at bounds is same params below read lent count =
    subst (λ (n : ℕ). BoundsFit n bounds) (sym (count ∙ ap length params))
    (subst (BoundsFit (length parts.params)) (sym lent)
    (bounds-fit parts statement at is below (subst (λ (xs : List Statement). at ≡ get_or xs statement at) same read)))

-- and the rows of guards that it reads
pub read-guards : (parts : ProgramParts) (table : List Statement) (statement all : ℕ) (at : Statement) (guards : List AffineForm) → IsProgram parts → table ≡ parts.statements
    → statement < length parts.statements → at ≡ get_or table statement at → guards ≡ at.guards.items → all ≡ length parts.params + length at.bounds.items
    → AllByRecursion (IsSmallOver all) guards
read-guards parts table statement all at guards is same below read lent count =
    subst (λ (n : ℕ). AllByRecursion (IsSmallOver n) guards) (sym count)
    (subst (AllByRecursion (IsSmallOver (length parts.params + length at.bounds.items))) (sym lent)
    (guards-fit parts statement at is below (subst (λ (xs : List Statement). at ≡ get_or xs statement at) same read)))

-- the bounds on the way to a statement are those that the code reads
pub bounds-read : (parts : ProgramParts) (table : List Statement) (statement : ℕ) (at : Statement) (bounds : List (AffineForm × AffineForm)) → IsProgram parts → table ≡ parts.statements
    → statement < length parts.statements → at ≡ get_or table statement at → bounds ≡ at.bounds.items → bounds_at (meaning parts) statement ≡ bounds
bounds-read parts table statement at bounds is same below read lent =
    bounds-are parts statement at is below (subst (λ (xs : List Statement). at ≡ get_or xs statement at) same read) ∙ sym lent

-- and so are the rows of the guards on it
pub guards-read : (parts : ProgramParts) (table : List Statement) (statement : ℕ) (at : Statement) (guards : List AffineForm) → IsProgram parts → table ≡ parts.statements
    → statement < length parts.statements → at ≡ get_or table statement at → guards ≡ at.guards.items → guards_at (meaning parts) statement ≡ guards
guards-read parts table statement at guards is same below read lent =
    guards-are parts statement at is below (subst (λ (xs : List Statement). at ≡ get_or xs statement at) same read) ∙ sym lent
