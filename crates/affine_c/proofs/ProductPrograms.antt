-- Programs of matrix products are programs.
use Rattle.std.proofs.Common.{◌≡◌, refl, sym, ◌∙◌, ap, subst, ℕ, zero, suc, ◌+◌, ◌*◌, ◌%◌, ◌^◌, ◌<◌, ◌≤◌, Bool, true, false, List, [], ◌∷◌, ◌++◌, length, map, arith, inl, inr}
use Rattle.std.specs.Prelude.{◌⊎◌, ◌==◌, nat_lt, Option, Some, IsSomeAnd, slice_get, flat_map, codes, decimal, bytes_eq}
use Rattle.std.specs.List.{AllByRecursion, enumerate_from, list_all, list_any, range_with_len}
use Rattle.std.proofs.lemmas.Bool.{and_parts, cases_Bool, cases_eq}
use Rattle.std.proofs.lemmas.Bool.Decides.{nat_tests}
use Rattle.std.proofs.lemmas.Fmt.{decimal_by_steps, decimal_injective, length-decimal-le}
use Rattle.std.proofs.lemmas.List.{length-map, map-append}
use Rattle.std.proofs.lemmas.List.FromFn.{length-range_with_len, get_or-map-range_with_len, map-range_with_len_more}
use Rattle.std.proofs.lemmas.Grind.{flat_map-append}
use Rattle.std.proofs.lemmas.Slice.Eq.{bytes_eq-Decides}
use Rattle.base_laws.proofs.Lists.{All-weaken}
use Rattle.base_laws.proofs.Ranges.{range-more}
use Rattle.iolb_model.specs.Order.{row_common}
use Rattle.iolb_model.specs.Path.{PathStep, bounded, row_path}
use Rattle.iolb_model.specs.Program.{upward, Array, Statement as ModelStatement, AffineProgram, IsWellFormed, AccessFits, StatementFits, RowFits, row_statements, no_statement, statement_at}
use Rattle.iolb_model.specs.Form.{AffineForm}
use Rattle.iolb_model.specs.declared.limits.TheConstants.{NUMBER_SIZE, SUBSCRIPTS}
use Rattle.affine_form.specs.Form.{IsSmallForm}
use Rattle.c_tokens.specs.Bytes.{is_name_byte}
use Rattle.affine_program.specs.declared.statement.Statement.{Statement}
use Rattle.affine_program.specs.Limits.{IsStatementWithinLimits}
use Rattle.affine_form.specs.Rows.{direction_of, variable}
use Rattle.affine_program.specs.Parts.{ProgramParts, StandOn, IsProgram, meaning, array_of, statement_of}
use Rattle.affine_program.specs.Printable.{IsPrintable, IsPrintableRow, IsArrayName, AreDifferentArrays, IsOrdered, next_seen, is_array_name, statement_numbers}
use Rattle.affine_program.specs.Tree.{item_of, row_from}
use Rattle.affine_c.specs.Built.{StandsIn}
use Rattle.affine_c.specs.Products.{first_value, last_value, matrix_names, matrices, matrix_cell, product_statement, product_nest, product_program, IsInProductNest, AreProducts}

-- ---- ranges

-- what holds of each number of a range
range-all : (P : ℕ → Type 0) (a n : ℕ) → ((k : ℕ) → a ≤ k → k < a + n → P k) → AllByRecursion P (range_with_len a n)
range-all P a zero h = tt
range-all P a (suc n) h = (h a (omega arith) (omega arith), range-all P (a + 1) n (λ k least most. h k (omega (arith, least)) (omega (arith, most))))

-- ---- the tree

numbered : (qs : List ℕ) → row_statements (row_from (map product_nest qs)) ≡ qs
numbered [] = refl
numbered (q ∷ qs) = ap (λ (rest : List ℕ). q ∷ rest) (numbered qs)

rows-fit : (program : AffineProgram) (qs : List ℕ) → AllByRecursion (StatementFits program 4) qs → RowFits program 1 (row_from (map product_nest qs))
rows-fit program [] h = tt
rows-fit program (q ∷ qs) h = ((refl, refl, ((refl, refl, ((refl, refl, (h.0, tt)), tt)), tt)), rows-fit program qs h.1)

same-test : (m n : ℕ) → m ≡ n → (m == n) ≡ true
same-test m n e = grind (arith, nat_tests)

apart-test : (m n : ℕ) → (m ≡ n → ⊥) → (m == n) ≡ false
apart-test m n apart = grind (arith, nat_tests)

-- the way through a product's loops
abbrev pub product_path : List PathStep
product_path = bounded (first_value 0) (last_value 0) ∷ bounded (first_value 1) (last_value 1) ∷ bounded (first_value 2) (last_value 2) ∷ []

-- the way to each statement
pub ways : (a n q : ℕ) → a ≤ q → q < a + n → row_path (row_from (map product_nest (range_with_len a n))) q ≡ Some product_path
ways a zero q least most = absurd (omega arith)
ways a (suc n) q least most = by (cases_eq a q) (λ apart. ways (a + 1) n q (omega (arith, least, apart)) (omega (arith, most))) where
  by : (a ≡ q) ⊎ (a ≡ q → ⊥) → ((a ≡ q → ⊥) → row_path (row_from (map product_nest (range_with_len (a + 1) n))) q ≡ Some product_path)
      → row_path (row_from (map product_nest (range_with_len a (suc n)))) q ≡ Some product_path
  by (inl e) rest = let here : (a == q) ≡ true = same-test a q e in rw here refl
  by (inr apart) rest = let here : (a == q) ≡ false = apart-test a q apart in rw here (rest apart)

placed : (n : ℕ) (a : ℕ) (statements : List Statement) → AllByRecursion IsInProductNest statements → a + length statements ≤ n
    → AllByRecursion (StandsIn 1 (row_from (map product_nest (range_with_len 0 n)))) (enumerate_from a statements)
placed n a [] h few = tt
placed n a (s ∷ statements) h few = (
  subst (λ (way : Option (List PathStep)). IsSomeAnd way (StandOn (1 + length s.bounds.items) s.bounds.items s.guards.items)) (sym (ways 0 n a (omega arith) (omega arith)))
      (sym h.0.bounds, sym h.0.guards),
  placed n (a + 1) statements h.1 (omega arith),
)

-- and the directions of the loops around it
pub directions : (a n q : ℕ) → a ≤ q → q < a + n → row_common (row_from (map product_nest (range_with_len a n))) q q ≡ upward ∷ upward ∷ upward ∷ []
directions a zero q least most = absurd (omega arith)
directions a (suc n) q least most = by (cases_eq a q) (λ apart. directions (a + 1) n q (omega (arith, least, apart)) (omega (arith, most))) where
  by : (a ≡ q) ⊎ (a ≡ q → ⊥) → ((a ≡ q → ⊥) → row_common (row_from (map product_nest (range_with_len (a + 1) n))) q q ≡ upward ∷ upward ∷ upward ∷ [])
      → row_common (row_from (map product_nest (range_with_len a (suc n)))) q q ≡ upward ∷ upward ∷ upward ∷ []
  by (inl e) rest = let here : (a == q) ≡ true = same-test a q e in rw here refl
  by (inr apart) rest = let here : (a == q) ≡ false = apart-test a q apart in rw here (rest apart)

running : (n : ℕ) (a : ℕ) (statements : List Statement) → AllByRecursion IsInProductNest statements → a + length statements ≤ n
    → AllByRecursion (λ (placed : ℕ × Statement). row_common (row_from (map product_nest (range_with_len 0 n))) placed.0 placed.0 ≡ map direction_of placed.1.down.items) (enumerate_from a statements)
running n a [] h few = tt
running n a (s ∷ statements) h few =
    (directions 0 n a (omega arith) (omega arith) ∙ ap (map direction_of) (sym h.0.down), running n (a + 1) statements h.1 (omega arith))

-- ---- arrays

names-count : (a n : ℕ) → length (flat_map matrix_names (range_with_len a n)) ≡ 3 * n
names-count a zero = refl
names-count a (suc n) = omega (arith, names-count (a + 1) n)

arrays-count : (n : ℕ) → length (matrices n) ≡ 3 * n
arrays-count n = length-map (flat_map matrix_names (range_with_len 0 n)) (λ (name : List ℕ). (name, 2)) ∙ names-count 0 n

-- each array has two subscripts
ranked : (names : List (List ℕ)) (k : ℕ) → k < length names → IsSomeAnd (slice_get (map array_of (map (λ (name : List ℕ). (name, 2)) names)) k) (λ array. 2 ≡ array.rank)
ranked [] k there = absurd (omega arith)
ranked (name ∷ names) zero there = refl
ranked (name ∷ names) (suc k) there = ranked names k (omega arith)

two-subscripts : (names : List (List ℕ)) → AllByRecursion (λ (array : List ℕ × ℕ). array.1 ≤ SUBSCRIPTS) (map (λ (name : List ℕ). (name, 2)) names)
two-subscripts [] = tt
two-subscripts (name ∷ names) = (omega arith, two-subscripts names)

cell-fits : (n array row column : ℕ) → length (variable 4 row).coefficients ≡ 4 → length (variable 4 column).coefficients ≡ 4 → array < 3 * n
    → AccessFits (product_program n) 4 (matrix_cell array row column)
cell-fits n array row column over also there = record {
  rank = ranked (flat_map matrix_names (range_with_len 0 n)) array (omega (arith, names-count 0 n));
  subscripts = (over, (also, tt));
}

-- ---- statements

statement-fits : (n q : ℕ) → q < n → StatementFits (product_program n) 4 q
statement-fits n q below =
    let is : statement_at (product_program n) q ≡ product_statement q = get_or-map-range_with_len product_statement 0 n q q no_statement below (omega arith) in
    record {
      there = omega (arith, length-map (range_with_len 0 n) product_statement, length-range_with_len 0 n);
      writes = subst (λ (s : ModelStatement). AccessFits (product_program n) 4 s.writes) (sym is) (cell-fits n (3 * q) 1 2 refl refl (omega arith));
      reads = subst (λ (s : ModelStatement). AllByRecursion (AccessFits (product_program n) 4) s.reads) (sym is)
          (cell-fits n (3 * q) 1 2 refl refl (omega arith), (cell-fits n (3 * q + 1) 1 3 refl refl (omega arith), (cell-fits n (3 * q + 2) 3 2 refl refl (omega arith), tt)));
    }

well-formed : (n : ℕ) → IsWellFormed (product_program n)
well-formed n = record {
  numbered = numbered (range_with_len 0 n) ∙ ap (range_with_len 0) (sym (length-map (range_with_len 0 n) product_statement ∙ length-range_with_len 0 n));
  assumptions = (refl, tt);
  tree = rows-fit (product_program n) (range_with_len 0 n) (range-all (StatementFits (product_program n) 4) 0 n (λ q least most. statement-fits n q (omega arith)));
}

-- ---- names

digit-is : (n : ℕ) → n < 10 → is_name_byte (48 + n) ≡ true
digit-is n small = grind (arith, nat_tests)

list_all-append : (p : ℕ → Bool) (xs ys : List ℕ) → list_all p xs ≡ true → list_all p ys ≡ true → list_all p (xs ++ ys) ≡ true
list_all-append p [] ys h g = g
list_all-append p (x ∷ xs) ys h g = let both = and_parts (p x) (list_all p xs) h in let here : p x ≡ true = both.0 in rw here (list_all-append p xs ys both.1 g)

name-digits : (n : ℕ) → n < 2 ^ 64 → list_all is_name_byte (decimal n) ≡ true
name-digits = decimal_by_steps (λ m ds. list_all is_name_byte ds ≡ true) (λ m l. last m l)
    (λ m ds l is. list_all-append is_name_byte ds ((48 + m % 10) ∷ []) is (last (m % 10) (omega arith))) where
      last : (m : ℕ) → m < 10 → list_all is_name_byte ((48 + m) ∷ []) ≡ true
      last m l = let here : is_name_byte (48 + m) ≡ true = digit-is m l in rw here refl

-- a name isn't that of a matrix of another product
other-name : (letter other q a : ℕ) → q < a → a < 2 ^ 64 → bytes_eq (letter ∷ decimal q) (other ∷ decimal a) ≡ false
other-name letter other q a less small = by (cases_Bool (bytes_eq (letter ∷ decimal q) (other ∷ decimal a))) where
  by : (bytes_eq (letter ∷ decimal q) (other ∷ decimal a) ≡ true) ⊎ (bytes_eq (letter ∷ decimal q) (other ∷ decimal a) ≡ false) → bytes_eq (letter ∷ decimal q) (other ∷ decimal a) ≡ false
  by (inl same) =
      let one : letter ∷ decimal q ≡ other ∷ decimal a = (bytes_eq-Decides (letter ∷ decimal q) (other ∷ decimal a)).0 same in
      let digits : decimal q ≡ decimal a = cc in
      absurd (omega (arith, decimal_injective q a (omega arith) small digits, less))
  by (inr apart) = apart

none-more : {X : Type 0} (p : X → Bool) (x : X) (xs : List X) → p x ≡ false → list_any p xs ≡ false → list_any p (x ∷ xs) ≡ false
none-more p x xs h g = rw h g

-- and so none of later products
absent : (letter q a n : ℕ) → q < a → a + n < 2 ^ 64 → is_array_name (letter ∷ decimal q) (map array_of (map (λ (name : List ℕ). (name, 2)) (flat_map matrix_names (range_with_len a n)))) ≡ false
absent letter q a zero less small = refl
absent letter q a (suc n) less small =
    let is : Array → Bool = λ (array : Array). bytes_eq (letter ∷ decimal q) array.name in
    let rest : List Array = map array_of (map (λ (name : List ℕ). (name, 2)) (flat_map matrix_names (range_with_len (a + 1) n))) in
    let below : a < 2 ^ 64 = omega arith in
    none-more is (record { name = 67 ∷ decimal a; rank = 2 }) ((record { name = 65 ∷ decimal a; rank = 2 }) ∷ (record { name = 66 ∷ decimal a; rank = 2 }) ∷ rest) (other-name letter 67 q a less below)
    (none-more is (record { name = 65 ∷ decimal a; rank = 2 }) ((record { name = 66 ∷ decimal a; rank = 2 }) ∷ rest) (other-name letter 65 q a less below)
    (none-more is (record { name = 66 ∷ decimal a; rank = 2 }) rest (other-name letter 66 q a less below) (absent letter q (a + 1) n (omega arith) (omega arith))))

differ : (a n : ℕ) → a + n < 2 ^ 64 → AreDifferentArrays (map array_of (map (λ (name : List ℕ). (name, 2)) (flat_map matrix_names (range_with_len a n))))
differ a zero small = tt
differ a (suc n) small = (
  absent 67 a (a + 1) n (omega arith) (omega arith),
  (
    absent 65 a (a + 1) n (omega arith) (omega arith),
    (absent 66 a (a + 1) n (omega arith) (omega arith), differ (a + 1) n (omega arith)),
  ),
)

-- a name of small letters isn't an array's
small-name : (letter a n : ℕ) → 91 ≤ letter → is_array_name (letter ∷ []) (map array_of (map (λ (name : List ℕ). (name, 2)) (flat_map matrix_names (range_with_len a n)))) ≡ false
small-name letter a zero small = refl
small-name letter a (suc n) small =
    let c : (letter == 67) ≡ false = grind (arith, nat_tests) in
    let x : (letter == 65) ≡ false = grind (arith, nat_tests) in
    let b : (letter == 66) ≡ false = grind (arith, nat_tests) in
    rw (c, x, b) (small-name letter (a + 1) n small)

arrays-named : (a n : ℕ) → a + n < 2 ^ 64 → AllByRecursion (IsArrayName (codes "N" ∷ [])) (map array_of (map (λ (name : List ℕ). (name, 2)) (flat_map matrix_names (range_with_len a n))))
arrays-named a zero small = tt
arrays-named a (suc n) small =
    let digits = name-digits a (omega arith) in
    let few : length (decimal a) ≤ 20 = length-decimal-le 20 a (omega arith) (omega arith) (omega arith) in
    let name : IsArrayName (codes "N" ∷ []) (record { name = 67 ∷ decimal a; rank = 2 }) = (record { begins = refl; bytes = digits; few = omega (arith, few); no_word = refl }, refl) in
    let left : IsArrayName (codes "N" ∷ []) (record { name = 65 ∷ decimal a; rank = 2 }) = (record { begins = refl; bytes = digits; few = omega (arith, few); no_word = refl }, refl) in
    let right : IsArrayName (codes "N" ∷ []) (record { name = 66 ∷ decimal a; rank = 2 }) = (record { begins = refl; bytes = digits; few = omega (arith, few); no_word = refl }, refl) in
    (name, (left, (right, arrays-named (a + 1) n (omega arith))))

-- ---- the order of arrays

seen-new : (seen number : ℕ) → number ≡ seen → next_seen seen number ≡ suc seen
seen-new seen number e = let test : nat_lt number seen ≡ false = grind (arith, nat_tests) in rw test refl

seen-old : (seen number : ℕ) → number < seen → next_seen seen number ≡ seen
seen-old seen number less = let test : nat_lt number seen ≡ true = grind (arith, nat_tests) in rw test refl

one-product : (s last : ℕ) (numbers : List ℕ) → IsOrdered (3 + s) numbers last → IsOrdered s (s ∷ s ∷ (s + 1) ∷ (s + 2) ∷ numbers) last
one-product s last numbers h =
    let a : next_seen s s ≡ 1 + s = seen-new s s refl ∙ omega arith in
    let b : next_seen (1 + s) s ≡ 1 + s = seen-old (1 + s) s (omega arith) in
    let c : next_seen (1 + s) (s + 1) ≡ 2 + s = seen-new (1 + s) (s + 1) (omega arith) ∙ omega arith in
    let d : next_seen (2 + s) (s + 2) ≡ 3 + s = seen-new (2 + s) (s + 2) (omega arith) ∙ omega arith in (
      omega arith,
      subst (λ (k : ℕ). IsOrdered k (s ∷ (s + 1) ∷ (s + 2) ∷ numbers) last) (sym a) (
        omega arith,
        subst (λ (k : ℕ). IsOrdered k ((s + 1) ∷ (s + 2) ∷ numbers) last) (sym b) (
          omega arith,
          subst (λ (k : ℕ). IsOrdered k ((s + 2) ∷ numbers) last) (sym c) (omega arith, subst (λ (k : ℕ). IsOrdered k numbers last) (sym d) h),
        ),
      ),
    )

ordered : (a n last : ℕ) → last ≡ 3 * (a + n) → IsOrdered (3 * a) (statement_numbers (map product_statement (range_with_len a n))) last
ordered a zero last is = omega arith
ordered a (suc n) last is = one-product (3 * a) last (statement_numbers (map product_statement (range_with_len (a + 1) n)))
    (subst (λ (k : ℕ). IsOrdered k (statement_numbers (map product_statement (range_with_len (a + 1) n))) last) (omega arith) (ordered (a + 1) n last (omega arith)))

-- ---- loops

loops : (n : ℕ) (qs : List ℕ) → IsPrintableRow (product_program n) [] 0 (row_from (map product_nest qs))
loops n [] = tt
loops n (q ∷ qs) = (
  (
    record {
      depth = omega arith;
      is_name = record { begins = refl; bytes = refl; few = omega arith; no_word = refl };
      no_parameter = refl;
      no_array = small-name 105 0 n (omega arith);
      is_new = refl;
      lower_small = ((omega arith, tt), omega arith);
      upper_small = ((omega arith, tt), omega arith);
    },
    (
      (
        record {
          depth = omega arith;
          is_name = record { begins = refl; bytes = refl; few = omega arith; no_word = refl };
          no_parameter = refl;
          no_array = small-name 106 0 n (omega arith);
          is_new = refl;
          lower_small = ((omega arith, (omega arith, tt)), omega arith);
          upper_small = ((omega arith, (omega arith, tt)), omega arith);
        },
        (
          (
            record {
              depth = omega arith;
              is_name = record { begins = refl; bytes = refl; few = omega arith; no_word = refl };
              no_parameter = refl;
              no_array = small-name 107 0 n (omega arith);
              is_new = refl;
              lower_small = ((omega arith, (omega arith, (omega arith, tt))), omega arith);
              upper_small = ((omega arith, (omega arith, (omega arith, tt))), omega arith);
            },
            (tt, tt),
          ),
          tt,
        ),
      ),
      tt,
    ),
  ),
  loops n qs,
)

printable : (n : ℕ) → n ≤ 32 → IsPrintable (product_program n)
printable n few = record {
  parameters = (record { begins = refl; bytes = refl; few = omega arith; no_word = refl }, tt);
  different = (refl, tt);
  arrays = arrays-named 0 n (omega arith);
  different_arrays = differ 0 n (omega arith);
  some_assumptions = λ some. omega arith;
  order = ordered 0 n (length (product_program n).arrays) (omega (arith, length-map (matrices n) array_of, arrays-count n));
  loops = loops n (range_with_len 0 n);
}

-- ---- programs

-- what the parts mean
pub products-mean : (n : ℕ) (parts : ProgramParts) → AreProducts n parts → meaning parts ≡ product_program n
products-mean n parts are =
    let params : parts.params ≡ codes "N" ∷ [] = are.params in
    let rows : parts.assumed.rows ≡ last_value 0 ∷ [] = ap (λ s. s.rows) are.assumed in
    let arrays : map array_of parts.arrays ≡ map array_of (matrices n) = ap (map array_of) are.arrays in
    let statements : map statement_of parts.statements ≡ map product_statement (range_with_len 0 n) = are.statements in
    let tree : row_from (map item_of parts.tree) ≡ row_from (map product_nest (range_with_len 0 n)) = ap row_from are.tree in
    cc

pub products-are-programs : (n : ℕ) (parts : ProgramParts) → n ≤ 32 → AreProducts n parts → IsProgram parts
products-are-programs n parts few are =
    let means : meaning parts ≡ product_program n = products-mean n parts are in
    let many : length parts.statements ≡ n = sym (length-map parts.statements statement_of) ∙ ap length are.statements ∙ length-map (range_with_len 0 n) product_statement ∙ length-range_with_len 0 n in
    record {
      well_formed = subst IsWellFormed (sym means) (well-formed n);
      assumed = ap (λ s. s.vars) are.assumed ∙ ap length (sym are.params);
      ways = subst (λ (n : ℕ). AllByRecursion (StandsIn n (row_from (map item_of parts.tree))) (enumerate_from 0 parts.statements)) (sym (ap length are.params))
          (subst (λ (nests : List _). AllByRecursion (StandsIn 1 (row_from nests)) (enumerate_from 0 parts.statements)) (sym are.tree) (placed n 0 parts.statements are.nests (omega arith)));
      directions = subst (λ (nests : List _). AllByRecursion (λ (placed : ℕ × Statement). row_common (row_from nests) placed.0 placed.0 ≡ map direction_of placed.1.down.items) (enumerate_from 0 parts.statements)) (sym are.tree)
          (running n 0 parts.statements are.nests (omega arith));
      limits = record {
        parameters = omega (arith, ap length are.params);
        assumptions = omega (arith, ap (λ s. length s.rows) are.assumed);
        assumed = subst (λ (rows : List AffineForm). AllByRecursion (IsSmallForm NUMBER_SIZE) rows) (sym (ap (λ s. s.rows) are.assumed)) (((omega arith, tt), omega arith), tt);
        arrays = omega (arith, ap length are.arrays, arrays-count n);
        ranks = subst (λ (arrays : List (List ℕ × ℕ)). AllByRecursion (λ (array : List ℕ × ℕ). array.1 ≤ SUBSCRIPTS) arrays) (sym are.arrays) (two-subscripts (flat_map matrix_names (range_with_len 0 n)));
        statements = omega arith;
        each = All-weaken IsInProductNest IsStatementWithinLimits parts.statements (λ s h. h.limits) are.nests;
      };
      printable = subst IsPrintable (sym means) (printable n few);
    }

-- ---- one product more

pub one-more : {X Y : Type 0} (f : X → Y) (g : ℕ → Y) (n : ℕ) (xs : List X) (x : X) → map f xs ≡ map g (range_with_len 0 n) → f x ≡ g n
    → map f (xs ++ x ∷ []) ≡ map g (range_with_len 0 (n + 1))
one-more f g n xs x same here =
    map-append f xs (x ∷ []) ∙ ap (λ (ys : List _). ys ++ f x ∷ []) same ∙ ap (λ (y : _). map g (range_with_len 0 n) ++ y ∷ []) here
    ∙ sym (map-range_with_len_more g 0 n n (omega arith))

pub matrices-more : (n : ℕ) → matrices (n + 1) ≡ matrices n ++ map (λ (name : List ℕ). (name, 2)) (matrix_names n)
matrices-more n =
    let pair : List ℕ → List ℕ × ℕ = λ (name : List ℕ). (name, 2) in
    ap (λ (qs : List ℕ). map pair (flat_map matrix_names qs)) (range-more 0 n ∙ ap (λ (k : ℕ). range_with_len 0 n ++ k ∷ []) (omega arith))
    ∙ ap (map pair) (flat_map-append matrix_names (range_with_len 0 n) (n ∷ [])) ∙ map-append pair (flat_map matrix_names (range_with_len 0 n)) (matrix_names n ++ [])
