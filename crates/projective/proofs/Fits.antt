-- The rows of a projective program's systems are over their variables, and few.
use Rattle.std.proofs.Common.{◌≡◌, sym, ◌∙◌, ap, subst, ℕ, zero, suc, ◌+◌, ◌-◌, ◌*◌, ◌<◌, ◌≤◌, Bool, true, false, List, [], ◌∷◌, ◌++◌, length, map, get_or, replicate, arith, lit<}
use Rattle.std.specs.Prelude.{nat_lt, ◌==◌, ◌||◌, if◌then◌else◌, IsSomeAnd}
use Rattle.std.specs.List.{AllByRecursion}
use Rattle.std.proofs.Math.IntN.{pos, negsuc}
use Rattle.std.proofs.lemmas.List.{length-append, length-map}
use Rattle.base_laws.proofs.Lists.{All-append, All-replicate, All-weaken, there}
use Rattle.iolb_model.specs.Form.{AffineForm}
use Rattle.iolb_model.specs.Order.{common_loops}
use Rattle.iolb_model.specs.Program.{Direction, AffineProgram, statement_at}
use Rattle.iolb_model.specs.declared.limits.TheConstants.{NUMBER_SIZE}
use Rattle.reuse_paths.proofs.FamilyLabels.{ranks-few}
use Rattle.flow_deps.proofs.SmallForms.{variable-small}
use Rattle.affine_form.specs.Form.{variables, IsSmall}
use Rattle.affine_form.specs.System.{AllOver}
use Rattle.affine_form.specs.Rows.{IsSmallOver, IsSmallWithin, BoundsFit, widened, variable, variables_from, within_rows, equality_rows, put_in, order_rows}
use Rattle.affine_form.proofs.RowLemmas.{length-widened, length-variables, variables-over, within_rows-over, equality_rows-over, put_in-within, order_rows-over}
use Rattle.affine_form.proofs.Meaning.{length-within_rows}
use Rattle.affine_program.specs.Domain.{bounds_at, depth_of, domain_of, domain_rows, guards_at}
use Rattle.affine_program.specs.declared.statement.Statement.{Statement}
use Rattle.affine_program.specs.Parts.{ProgramParts, IsProgram, meaning}
use Rattle.affine_program.proofs.Bounds.{bounds-are, bounds-fit}
use Rattle.dep_quast.specs.Context.{ReadOf, reference_of, context, parameter_point, reader_point, reader_values, writer_values, write_rows}
use Rattle.dep_quast.proofs.Fits.{all-there, depth-few, written-over, fits-at, cells-many, within-more}
use Rattle.claims.proofs.Rows.{widened-over}
use Rattle.projective.specs.Projective.{shifted_variable}
use Rattle.projective.proofs.Facts.{rows-bare}
use Rattle.projective.specs.Turns.{width, is_kept, turn_value, turn_values, turn_before}

pub shifted-fits : (vars place : ℕ) → IsSmallOver vars (shifted_variable vars place (negsuc 0))
shifted-fits vars place = record { over = (variable-small vars place).over; small = ((variable-small vars place).small.0, lit< tt) }

pub widened-fits : (many vars : ℕ) (form : AffineForm) → many ≤ vars → IsSmallOver many form → IsSmallOver vars (widened vars form)
widened-fits many vars form more h = record {
  over = length-widened vars form (omega (arith, h.over));
  small = (
    All-append (IsSmall NUMBER_SIZE) form.coefficients (replicate (vars - length form.coefficients) (pos 0)) h.small.0
        (All-replicate (IsSmall NUMBER_SIZE) (vars - length form.coefficients) (pos 0) (lit< tt)),
    h.small.1,
  );
}

within-of : (vars : ℕ) (forms : List AffineForm) → AllByRecursion (IsSmallOver vars) forms → AllByRecursion (IsSmallWithin vars) forms
within-of vars forms h = All-weaken (IsSmallOver vars) (IsSmallWithin vars) forms (λ form f. record { within = omega (arith, f.over); small = f.small }) h

module _ (parts : ProgramParts) (is : IsProgram parts) (some : 0 < length parts.statements) where
  abbrev program : AffineProgram
  program = meaning parts

  abbrev is_program : IsProgram parts
  is_program = is

  abbrev n : ℕ
  n = length program.parameters

  abbrev d : ℕ
  d = depth_of program 0

  abbrev vars : ℕ
  vars = width program

  abbrev wide : ℕ
  wide = width program + d

  abbrev pub bounds : List (AffineForm × AffineForm)
  bounds = (there parts.statements 0 some).0.bounds.items

  bounds-here : bounds_at program 0 ≡ bounds
  bounds-here = bounds-are parts 0 (there parts.statements 0 some).0 is some (there parts.statements 0 some).1

  pub bounds-over : BoundsFit n bounds
  bounds-over = bounds-fit parts 0 (there parts.statements 0 some).0 is some (there parts.statements 0 some).1

  pub bounds-many : length bounds ≡ d
  bounds-many = sym (ap (λ (loops : List (AffineForm × AffineForm)). length loops) bounds-here)

  -- a bound that the code reads is over fewer variables
  bound-within : (many room : ℕ) (steps : List (AffineForm × AffineForm)) (k : ℕ) (pair : AffineForm × AffineForm) → BoundsFit many steps → k < length steps → pair ≡ get_or steps k pair
      → many + length steps ≤ room → variables pair.1 ≤ room
  bound-within many room [] k pair fit below is more = absurd (omega arith)
  bound-within many room (b ∷ steps) zero pair fit below is more =
      omega (arith, more, fit.0.1.over, ap (λ (p : AffineForm × AffineForm). variables p.1) is)
  bound-within many room (b ∷ steps) (suc k) pair fit below is more = bound-within (suc many) room steps k pair fit.1 (omega arith) is (omega (arith, more))

  pub upper-within : (table : List Statement) (at : Statement) (read : List (AffineForm × AffineForm)) (k : ℕ) (pair : AffineForm × AffineForm) → table ≡ parts.statements → at ≡ get_or table 0 at
      → read ≡ at.bounds.items → k < length read → pair ≡ get_or read k pair → variables pair.1 ≤ vars
  upper-within table at read k pair same is lent below one =
      let here : at ≡ get_or parts.statements 0 at = is ∙ ap (λ (xs : List Statement). get_or xs 0 at) same in
      let fit : BoundsFit n read = subst (BoundsFit n) (sym lent) (bounds-fit parts 0 at is_program some here) in
      bound-within n vars read k pair fit below one
      (omega (arith, ap (λ (xs : List (AffineForm × AffineForm)). length xs) lent, ap (λ (loops : List (AffineForm × AffineForm)). length loops) (bounds-are parts 0 at is_program some here)))

  pub loops-read : (table : List Statement) (at : Statement) (read : List (AffineForm × AffineForm)) → table ≡ parts.statements → at ≡ get_or table 0 at → read ≡ at.bounds.items
      → bounds_at program 0 ≡ read
  loops-read table at read same is lent =
      bounds-are parts 0 at is_program some (is ∙ ap (λ (xs : List Statement). get_or xs 0 at) same) ∙ sym lent

  -- ---- the values one turn before

  value-fits : (loop place : ℕ) (upper : AffineForm) (many : ℕ) → many ≤ vars → IsSmallOver many upper → IsSmallOver vars (turn_value program loop place upper)
  value-fits loop place upper many more h = by (place == loop) (nat_lt place loop || is_kept program place) where
    by : (a b : Bool) → IsSmallOver (width program) (if a then shifted_variable (width program) (length program.parameters + place) (negsuc 0)
        else (if b then variable (width program) (length program.parameters + place) else widened (width program) upper))
    by true b = shifted-fits (width program) (length program.parameters + place)
    by false true = variable-small (width program) (length program.parameters + place)
    by false false = widened-fits many (width program) upper more h

  values-fit : (loop place : ℕ) (many : ℕ) (steps : List (AffineForm × AffineForm)) → many + length steps ≤ vars → BoundsFit many steps → AllByRecursion (IsSmallOver vars) (turn_values program loop place steps)
  values-fit loop place many [] more h = tt
  values-fit loop place many (b ∷ steps) more h = (value-fits loop place b.1 many (omega arith) h.0.1, values-fit loop (suc place) (suc many) steps (omega arith) h.1)

  pub turn-fits : (loop : ℕ) → AllByRecursion (IsSmallOver vars) (turn_before program loop)
  turn-fits loop = subst (λ (loops : List (AffineForm × AffineForm)). AllByRecursion (IsSmallOver vars) (turn_values program loop 0 loops)) (sym bounds-here) (values-fit loop 0 n bounds (omega (arith, bounds-many)) bounds-over)

  -- ---- rows

  pub within-over : guards_at program 0 ≡ [] → (many : ℕ) (before values : List AffineForm) → length before ≡ n → AllByRecursion (IsSmallOver many) before → AllByRecursion (IsSmallOver many) values
      → AllOver many (domain_rows program 0 many before values)
  within-over bare many before values long p q =
      subst (AllOver many) (sym (rows-bare program 0 many before values bare))
      (subst (λ (loops : List (AffineForm × AffineForm)). AllOver many (within_rows many loops before values)) (sym bounds-here)
      (within_rows-over many bounds before values (subst (λ (k : ℕ). BoundsFit k bounds) (sym long) bounds-over) p q))

  pub within-many : guards_at program 0 ≡ [] → (many : ℕ) (before values : List AffineForm) → length values ≡ d → length (domain_rows program 0 many before values) ≡ 2 * d
  within-many bare many before values long =
      ap (λ (rows : List AffineForm). length rows) (rows-bare program 0 many before values bare) ∙ length-within_rows many (bounds_at program 0) before values long

  pub context-over : guards_at program 0 ≡ [] → (read : ℕ) (tests : List AffineForm) → AllOver vars tests → AllOver vars (context program (record { statement = 0; read = read }) tests)
  context-over bare read tests over =
      All-append (λ row. variables row ≡ vars) (map (widened vars) program.assumptions ++ (domain_of program 0).rows) tests
      (All-append (λ row. variables row ≡ vars) (map (widened vars) program.assumptions) (domain_of program 0).rows (widened-over n vars program.assumptions (omega arith) is.well_formed.assumptions)
      (within-over bare vars (variables_from vars 0 n) (variables_from vars n d) (length-variables vars 0 n) (variables-over vars 0 n) (variables-over vars n d))) over

  pub context-many : guards_at program 0 ≡ [] → (read : ℕ) (tests : List AffineForm) → length tests ≤ 6 → length (context program (record { statement = 0; read = read }) tests) ≤ 50
  context-many bare read tests few =
      omega (
        arith,
        length-append (map (widened vars) program.assumptions ++ (domain_of program 0).rows) tests,
        length-append (map (widened vars) program.assumptions) (domain_of program 0).rows,
        length-map program.assumptions (widened vars),
        is.limits.assumptions,
        within-many bare vars (variables_from vars 0 n) (variables_from vars n d) (length-variables vars n d),
        depth-few parts is 0 some,
        few,
      )

  subscripts-few : length (statement_at program 0).writes.subscripts ≤ 4
  subscripts-few =
      ranks-few parts.arrays (statement_at program 0).writes.array (length (statement_at program 0).writes.subscripts) is.limits.ranks
      (fits-at program 0 is.well_formed (all-there parts is 0 some)).writes.rank

  -- ---- the rows of writes of the cell

  module _ (bare : guards_at program 0 ≡ []) (read : ℕ) (same : (reference_of program (record { statement = 0; read = read })).subscripts ≡ (statement_at program 0).writes.subscripts) (common : length (common_loops program 0 0) ≡ d) where
    abbrev reader : ReadOf
    reader = record { statement = 0; read = read }

    reader-fits : AllByRecursion (IsSmallOver vars) (reference_of program reader).subscripts
    reader-fits = subst (AllByRecursion (IsSmallOver vars)) (sym same) (written-over parts is 0 some)

    -- that a write at these values is of the cell that is read
    cells-over : (many : ℕ) (values : List AffineForm) → vars ≤ many → length values ≡ d → AllByRecursion (IsSmallOver many) values
        → AllOver many (equality_rows many (put_in (parameter_point program many ++ values) (statement_at program 0).writes.subscripts) (put_in (reader_point program reader many) (reference_of program reader).subscripts))
    cells-over many values more long over =
        let point : List AffineForm = parameter_point program many ++ values in
        let all : length point ≡ vars = length-append (parameter_point program many) values ∙ sums (length-variables many 0 n) long in
        equality_rows-over many (put_in point (statement_at program 0).writes.subscripts) (put_in (reader_point program reader many) (reference_of program reader).subscripts)
        (put_in-within many point (statement_at program 0).writes.subscripts (All-append (IsSmallOver many) (parameter_point program many) values (variables-over many 0 n) over)
        (subst (λ (k : ℕ). AllByRecursion (IsSmallOver k) (statement_at program 0).writes.subscripts) (sym all) (written-over parts is 0 some)))
        (put_in-within many (reader_point program reader many) (reference_of program reader).subscripts (variables-over many 0 vars)
        (subst (λ (k : ℕ). AllByRecursion (IsSmallOver k) (reference_of program reader).subscripts) (sym (length-variables many 0 vars)) reader-fits)) where
          sums : {a b c e : ℕ} → a ≡ b → c ≡ e → a + c ≡ b + e
          sums p q = omega arith

    -- ---- what a source claims of its point

    pub inside-over : (loop : ℕ) → AllOver vars (domain_rows program 0 vars (parameter_point program vars) (turn_before program loop))
    inside-over loop = within-over bare vars (parameter_point program vars) (turn_before program loop) (length-variables vars 0 n) (variables-over vars 0 n) (turn-fits loop)

    pub here-over : (loop : ℕ) → length (turn_before program loop) ≡ d
        → AllOver vars (equality_rows vars (put_in (parameter_point program vars ++ turn_before program loop) (statement_at program 0).writes.subscripts) (put_in (reader_point program reader vars) (reference_of program reader).subscripts))
    here-over loop long = cells-over vars (turn_before program loop) (omega arith) long (turn-fits loop)

    pub order-over : (loop : ℕ) → AllOver vars (order_rows vars (common_loops program 0 0) loop (turn_before program loop) (reader_values program reader vars))
    order-over loop =
        order_rows-over vars (common_loops program 0 0) loop (turn_before program loop) (reader_values program reader vars) (within-of vars (turn_before program loop) (turn-fits loop))
        (within-of vars (reader_values program reader vars) (variables-over vars n d))

    -- ---- writes of the cell

    module _ (rows : List AffineForm) (over : AllOver vars rows) (few : length rows ≤ 50) where
      abbrev written : List AffineForm
      written = write_rows program reader rows 0

      abbrev inside : List AffineForm
      inside = domain_rows program 0 wide (parameter_point program wide) (writer_values program reader 0 wide)

      abbrev cells : List AffineForm
      cells = equality_rows wide (put_in (parameter_point program wide ++ writer_values program reader 0 wide) (statement_at program 0).writes.subscripts) (put_in (reader_point program reader wide) (reference_of program reader).subscripts)

      abbrev order : ℕ → List AffineForm
      order level = order_rows wide (common_loops program 0 0) level (writer_values program reader 0 wide) (reader_values program reader wide)

      abbrev since : ℕ → ℕ → List AffineForm
      since loop after = order_rows wide (common_loops program 0 0) after (turn_before program loop) (writer_values program reader 0 wide)

      writers-over : AllByRecursion (IsSmallOver wide) (writer_values program reader 0 wide)
      writers-over = variables-over wide vars d

      written-all : AllOver wide written
      written-all =
          All-append (λ row. variables row ≡ wide) (map (widened wide) rows ++ inside) cells
          (All-append (λ row. variables row ≡ wide) (map (widened wide) rows) inside (widened-over vars wide rows (omega arith) over)
          (within-over bare wide (parameter_point program wide) (writer_values program reader 0 wide) (length-variables wide 0 n) (variables-over wide 0 n) writers-over))
          (cells-over wide (writer_values program reader 0 wide) (omega arith) (length-variables wide vars d) writers-over)

      order-all : (level : ℕ) → AllOver wide (order level)
      order-all level =
          order_rows-over wide (common_loops program 0 0) level (writer_values program reader 0 wide) (reader_values program reader wide) (within-of wide (writer_values program reader 0 wide) writers-over)
          (within-of wide (reader_values program reader wide) (variables-over wide n d))

      since-all : (loop after : ℕ) → AllOver wide (since loop after)
      since-all loop after =
          order_rows-over wide (common_loops program 0 0) after (turn_before program loop) (writer_values program reader 0 wide) (within-more vars wide (turn_before program loop) (omega arith) (turn-fits loop))
          (within-of wide (writer_values program reader 0 wide) writers-over)

      written-many : length written ≤ 70
      written-many =
          omega (
            arith,
            length-append (map (widened wide) rows ++ inside) cells,
            length-append (map (widened wide) rows) inside,
            length-map rows (widened wide),
            few,
            within-many bare wide (parameter_point program wide) (writer_values program reader 0 wide) (length-variables wide vars d),
            depth-few parts is 0 some,
            cells-many wide (parameter_point program wide ++ writer_values program reader 0 wide) (reader_point program reader wide) (statement_at program 0).writes.subscripts (reference_of program reader).subscripts
                (sym (ap (λ (forms : List AffineForm). length forms) same)),
            ap (λ (forms : List AffineForm). length forms) same,
            subscripts-few,
          )

      -- an order's rows are two for each loop before the level, and one
      order-few : (many : ℕ) (loops : List Direction) (level : ℕ) (ys xs : List AffineForm) → length (order_rows many loops level ys xs) ≤ 2 * level + 1
      order-few many [] level ys xs = omega arith
      order-few many (direction ∷ loops) level [] xs = omega arith
      order-few many (direction ∷ loops) level (y ∷ ys) [] = omega arith
      order-few many (direction ∷ loops) zero (y ∷ ys) (x ∷ xs) = omega arith
      order-few many (direction ∷ loops) (suc level) (y ∷ ys) (x ∷ xs) = omega (arith, order-few many loops level ys xs)

      pub between-over : (loop after level : ℕ) → AllOver wide ((written ++ since loop after) ++ order level)
      between-over loop after level =
          All-append (λ row. variables row ≡ wide) (written ++ since loop after) (order level) (All-append (λ row. variables row ≡ wide) written (since loop after) written-all (since-all loop after)) (order-all level)

      pub between-few : (loop after level : ℕ) → after < d → level < d → length ((written ++ since loop after) ++ order level) ≤ 128
      between-few loop after level p q =
          omega (
            arith,
            length-append (written ++ since loop after) (order level),
            length-append written (since loop after),
            written-many,
            order-few wide (common_loops program 0 0) after (turn_before program loop) (writer_values program reader 0 wide),
            order-few wide (common_loops program 0 0) level (writer_values program reader 0 wide) (reader_values program reader wide),
            depth-few parts is 0 some,
            p,
            q,
          )

      pub earlier-over : (level : ℕ) → AllOver wide (written ++ order level)
      earlier-over level = All-append (λ row. variables row ≡ wide) written (order level) written-all (order-all level)

      pub earlier-few : (level : ℕ) → level < d → length (written ++ order level) ≤ 128
      earlier-few level q =
          omega (
            arith,
            length-append written (order level),
            written-many,
            order-few wide (common_loops program 0 0) level (writer_values program reader 0 wide) (reader_values program reader wide),
            depth-few parts is 0 some,
            q,
          )
