-- Steps of the code.
use Rattle.std.proofs.Common.{◌≡◌, refl, sym, ◌∙◌, ap, subst, ℕ, zero, suc, ◌+◌, ◌<◌, ◌≤◌, Bool, true, false, List, [], ◌∷◌, ◌++◌, length, map, filter, cond, take, get_or, arith}
use Rattle.std.specs.Prelude.{Option, None, Some, IsSomeAnd, nat_eq, slice_get, ◌==◌, if◌then◌else◌}
use Rattle.std.specs.List.{AllByRecursion, IsDistinct, range_with_len}
use Rattle.std.proofs.lemmas.Bool.{eq-eqb, eqb-true}
use Rattle.std.proofs.lemmas.List.{length-map, map-append, take_more}
use Rattle.std.proofs.lemmas.Map.Steps.{length-le_from_distinct_below}
use Rattle.std.proofs.lemmas.Option.{slice_get_within}
use Rattle.base_laws.proofs.Ranges.{filter-failed, filter-passed, range-distinct}
use Rattle.base_laws.proofs.Lists.{All-at, All-push, All-weaken}
use Rattle.iolb_model.specs.Form.{AffineForm}
use Rattle.iolb_model.specs.Program.{Access, AffineProgram, Array, IsWellFormed, no_statement, read_at, statement_at}
use Rattle.affine_program.specs.Domain.{depth_of}
use Rattle.affine_program.specs.Parts.{ProgramParts, meaning}
use Rattle.projective_bounds.specs.HeldColds.{IsHeldCold, IsPlaced, array_read as array_of_cold}
use Rattle.dep_quast.specs.Context.{ReadOf}
use Rattle.dep_quast.specs.Tree.{SelectionTree}
use Rattle.dep_quast.specs.Truth.{ReadFits}
use Rattle.execution_laws.proofs.Ordered.{All-member}
use Rattle.pebble_game.proofs.Marks.{distinct-filtered, standing-member}
use Rattle.projective.specs.SourceTrees.{read_number}
use Rattle.projective.specs.Products.{AreAssumed}
use Rattle.projective.proofs.Runs.{run-many}
use Rattle.projective.specs.Projective.{Assumes, HoldsOfOne, IsLoop, IsProjection, IsProjective}
use Rattle.dep_quast.specs.Quasts.{tree_at, tree_or_blank}
use Rattle.reuse_paths.proofs.FamilyLabels.{read-rank}
use Rattle.wavefront.specs.declared.cold.Cold.{Cold}
use Rattle.projective_bounds.specs.Families.{array_read, first_to, loop_form, loops_label}
use Rattle.projective_bounds.specs.Colds.{AreColdsOf, IsReadCold, is_first_read}
use Rattle.projective_bounds.specs.Loops.{RunLoops}

-- ---- loops

-- each subscript is a loop
pub subscript-loop : (program : AffineProgram) (read : ℕ) (items : List AffineForm) (k : ℕ) (form : AffineForm) → IsProjective program → read < length (statement_at program 0).reads
    → items ≡ (read_at program 0 read).subscripts → k < length items → form ≡ get_or items k form → IsLoop (length program.parameters) (depth_of program 0) form
subscript-loop program read items k form projective there same below is =
    let P : AffineForm → Type 0 = IsLoop (length program.parameters) (depth_of program 0) in
    let projection = All-at (IsProjection (length program.parameters) (depth_of program 0)) (statement_at program 0).reads read no_statement.writes projective.projects.projections there in
    subst P (sym is) (All-at P items k form (subst (AllByRecursion P) (sym same) projection.loops) below)

-- one loop more
pub loop-more : (program : AffineProgram) (loops more : List ℕ) (items : List AffineForm) (k value : ℕ) (form : AffineForm) (is : IsLoop (length program.parameters) (depth_of program 0) form)
    → k < length items → form ≡ get_or items k form → value ≡ is.0
    → (loops_label program loops ≡ take k items) × AllByRecursion (λ (level : ℕ). level < depth_of program 0) loops → more ≡ loops ++ value ∷ []
    → (loops_label program more ≡ take (k + 1) items) × AllByRecursion (λ (level : ℕ). level < depth_of program 0) more
loop-more program loops more items k value form is below one same h pushed = (
  ap (loops_label program) pushed ∙ map-append (loop_form program) loops (value ∷ [])
      ∙ ap (λ (forms : List AffineForm). forms ++ loop_form program value ∷ []) h.0
      ∙ ap (λ (f : AffineForm). take k items ++ f ∷ []) (ap (loop_form program) same ∙ sym is.2 ∙ one) ∙ sym (take_more items k form below),
  subst (AllByRecursion (λ (level : ℕ). level < depth_of program 0)) (sym pushed)
      (All-push (λ (level : ℕ). level < depth_of program 0) loops value h.1 (subst (λ (n : ℕ). n < depth_of program 0) (sym same) is.1)),
)

-- there is a parameter for each loop
pub loops-many : (program : AffineProgram) (below : List ℕ) → RunLoops program below → length below ≡ depth_of program 0
loops-many program below run = run-many program (length program.parameters) run.nest below run.run ∙ ap length run.around

pub all-below : (m n : ℕ) (xs ys : List ℕ) → xs ≡ ys → m ≡ n → AllByRecursion (λ (x : ℕ). x < n) ys → AllByRecursion (λ (x : ℕ). x < m) xs
all-below m n xs ys e f h = subst (AllByRecursion (λ (x : ℕ). x < m)) (sym e) (All-weaken (λ (x : ℕ). x < n) (λ (x : ℕ). x < m) ys (λ x below. omega (arith, f, below)) h)

pub assumed-below : (program : AffineProgram) (ps : List ℕ) → AreAssumed program ps → AllByRecursion (λ (p : ℕ). p < length program.parameters) ps
assumed-below program ps h =
    All-weaken (λ (p : ℕ). (p < length program.parameters) × HoldsOfOne (Assumes (length program.parameters) p) program.assumptions) (λ (p : ℕ). p < length program.parameters) ps (λ p both. both.0) h

-- ---- arrays that are read

pub first-array : (array : ℕ) (accesses : List Access) (d : Access) → first_to array accesses < length accesses → (get_or accesses (first_to array accesses) d).array ≡ array
first-array array [] d below = absurd (omega arith)
first-array array (a ∷ accesses) d below = by (a.array == array) refl below (first-array array accesses d) where
  by : (b : Bool) → b ≡ (a.array == array) → (if b then 0 else suc (first_to array accesses)) < suc (length accesses)
      → (first_to array accesses < length accesses → (get_or accesses (first_to array accesses) d).array ≡ array)
      → (get_or (a ∷ accesses) (if b then 0 else suc (first_to array accesses)) d).array ≡ array
  by true e inside rest = eqb-true a.array array (sym e)
  by false e inside rest = rest (omega arith)

-- the array of a read
abbrev array_at : AffineProgram → ℕ → ℕ
array_at program read = (read_at program 0 read).array

rank-within : (found : Option Array) (arrays : List Array) (array rank : ℕ) → found ≡ slice_get arrays array → IsSomeAnd found (λ a. rank ≡ a.rank) → array < length arrays
rank-within None arrays array rank e some = absurd some
rank-within (Some a) arrays array rank e some = slice_get_within arrays array a (sym e)

-- it is there
array-there : (program : AffineProgram) → IsWellFormed program → (read : ℕ) → ReadFits program (read_number read) → array_at program read < length program.arrays
array-there program well read fits =
    rank-within (slice_get program.arrays (array_at program read)) program.arrays (array_at program read) (length (read_at program 0 read).subscripts) refl
    (read-rank program (read_number read) well fits)

-- what passes a test in a range, and stands there
passing : (passes : ℕ → Bool) (first count : ℕ) → AllByRecursion (λ (n : ℕ). (passes n ≡ true) × (n < first + count)) (filter passes (range_with_len first count))
passing passes first zero = tt
passing passes first (suc count) =
    by (passes first) refl
    (All-weaken (λ (n : ℕ). (passes n ≡ true) × (n < (first + 1) + count)) (λ (n : ℕ). (passes n ≡ true) × (n < first + suc count)) (filter passes (range_with_len (first + 1) count))
    (λ n h. (h.0, omega (arith, h.1))) (passing passes (first + 1) count)) where
      by : (b : Bool) → b ≡ passes first → AllByRecursion (λ (n : ℕ). (passes n ≡ true) × (n < first + suc count)) (filter passes (range_with_len (first + 1) count))
          → AllByRecursion (λ (n : ℕ). (passes n ≡ true) × (n < first + suc count)) (cond b (first ∷ filter passes (range_with_len (first + 1) count)) (filter passes (range_with_len (first + 1) count)))
      by true e rest = ((sym e, omega arith), rest)
      by false e rest = rest

-- reads that are the first of their arrays read different arrays
firsts-differ : (program : AffineProgram) (reads : List ℕ) → IsDistinct nat_eq reads → AllByRecursion (λ (read : ℕ). is_first_read program read ≡ true) reads
    → IsDistinct nat_eq (map (array_at program) reads)
unfolding IsDistinct
firsts-differ program [] distinct first = tt
firsts-differ program (read ∷ reads) distinct first = (others reads distinct.0 first.1, firsts-differ program reads distinct.1 first.1) where
  differ : (other : ℕ) → nat_eq read other ≡ false → is_first_read program other ≡ true → nat_eq (array_at program read) (array_at program other) ≡ false
  differ other apart there = by (nat_eq (array_at program read) (array_at program other)) refl where
    by : (b : Bool) → b ≡ nat_eq (array_at program read) (array_at program other) → nat_eq (array_at program read) (array_at program other) ≡ false
    by true e =
        let same : read ≡ other =
        sym (eqb-true (array_read program (array_at program read)) read first.0)
        ∙ ap (array_read program) (eqb-true (array_at program read) (array_at program other) (sym e))
        ∙ eqb-true (array_read program (array_at program other)) other there in
        let met : nat_eq read other ≡ true = eq-eqb read other same in
        cc
    by false e = sym e

  others : (rest : List ℕ) → AllByRecursion (λ (other : ℕ). nat_eq read other ≡ false) rest → AllByRecursion (λ (other : ℕ). is_first_read program other ≡ true) rest
      → AllByRecursion (λ (array : ℕ). nat_eq (array_at program read) array ≡ false) (map (array_at program) rest)
  others [] apart there = tt
  others (other ∷ rest) apart there = (differ other apart.0 there.0, others rest apart.1 there.1)

-- different numbers below one are no more than it
few-below : (n : ℕ) (xs : List ℕ) → IsDistinct nat_eq xs → AllByRecursion (λ (x : ℕ). x < n) xs → length xs ≤ n
few-below n xs distinct below = length-le_from_distinct_below xs n distinct (λ v m. All-member (λ (x : ℕ). x < n) xs v below (standing-member xs v m))

-- ---- cold terms

module _ (program : ProgramParts) (trees : List (List SelectionTree)) where
  abbrev P : AffineProgram
  P = meaning program

  -- a term that holds over the tree of its read
  pub cold-placed : (read : ℕ) (tree : SelectionTree) (cold : Cold) → tree_at trees 0 read ≡ Some tree → IsReadCold P read cold → IsHeldCold P tree cold → IsPlaced P trees cold
  cold-placed read tree cold there is held =
      let place : tree_at trees cold.statement cold.read ≡ Some tree = ap (λ (reader : ReadOf). tree_at trees reader.statement reader.read) is.outline.reader ∙ there in
      record {
        there = place ∙ ap Some (sym (ap tree_or_blank place));
        shown = subst (λ (t : SelectionTree). IsHeldCold P t cold) (sym (ap tree_or_blank place)) held;
        no_rows = λ none. ap (λ m. m.columns) is.outline.matrix ∙ sym (ap (λ m. m.rows) is.outline.matrix) ∙ none;
      }

  -- the first reads before one
  abbrev firsts : ℕ → List ℕ
  firsts bound = filter (is_first_read P) (range_with_len 0 bound)

  -- those of these reads
  pub record ColdsTo (bound : ℕ) (colds : List Cold) : Type 0 where
    pub are : AreColdsOf P (firsts bound) colds
    pub placed : AllByRecursion (IsPlaced P trees) colds

  colds-push : (reads : List ℕ) (colds : List Cold) (read : ℕ) (cold : Cold) → AreColdsOf P reads colds → IsReadCold P read cold → AreColdsOf P (reads ++ read ∷ []) (colds ++ cold ∷ [])
  colds-push [] [] read cold h one = (one, tt)
  colds-push [] (c ∷ colds) read cold h one = absurd h
  colds-push (r ∷ reads) [] read cold h one = absurd h
  colds-push (r ∷ reads) (c ∷ colds) read cold h one = (h.0, colds-push reads colds read cold h.1 one)

  pub colds-more : (bound : ℕ) (colds more : List Cold) (cold : Cold) → ColdsTo bound colds → is_first_read P bound ≡ true → IsReadCold P bound cold → IsPlaced P trees cold
      → more ≡ colds ++ cold ∷ [] → ColdsTo (bound + 1) more
  colds-more bound colds more cold h first is placed pushed = record {
    are = subst (AreColdsOf P (firsts (bound + 1))) (sym pushed)
        (subst (λ (reads : List ℕ). AreColdsOf P reads (colds ++ cold ∷ [])) (sym (filter-passed (is_first_read P) bound first)) (colds-push (firsts bound) colds bound cold h.are is));
    placed = subst (AllByRecursion (IsPlaced P trees)) (sym pushed) (All-push (IsPlaced P trees) colds cold h.placed placed);
  }

  pub colds-kept : (bound : ℕ) (colds : List Cold) → ColdsTo bound colds → is_first_read P bound ≡ false → ColdsTo (bound + 1) colds
  colds-kept bound colds h out = record {
    are = subst (λ (reads : List ℕ). AreColdsOf P reads colds) (sym (filter-failed (is_first_read P) bound out)) h.are;
    placed = h.placed;
  }

  -- their arrays are those of the reads
  arrays-are : (reads : List ℕ) (colds : List Cold) → AreColdsOf P reads colds → map (array_of_cold P) colds ≡ map (array_at P) reads
  arrays-are [] [] h = refl
  arrays-are [] (cold ∷ colds) h = absurd h
  arrays-are (read ∷ reads) [] h = absurd h
  arrays-are (read ∷ reads) (cold ∷ colds) h =
      ap (λ (n : ℕ). n ∷ map (array_of_cold P) colds) (ap (λ (reader : ReadOf). (read_at P reader.statement reader.read).array) h.0.outline.reader)
      ∙ ap (λ (ns : List ℕ). array_at P read ∷ ns) (arrays-are reads colds h.1)

  -- and differ
  pub arrays-differ : (bound : ℕ) (colds : List Cold) → ColdsTo bound colds → IsDistinct nat_eq (map (array_of_cold P) colds)
  arrays-differ bound colds h =
      subst (IsDistinct nat_eq) (sym (arrays-are (firsts bound) colds h.are))
      (firsts-differ P (firsts bound) (distinct-filtered (is_first_read P) (range_with_len 0 bound) (range-distinct 0 bound))
      (All-weaken (λ (n : ℕ). (is_first_read P n ≡ true) × (n < bound)) (λ (n : ℕ). is_first_read P n ≡ true) (firsts bound) (λ n h. h.0) (standing bound))) where
        standing : (count : ℕ) → AllByRecursion (λ (n : ℕ). (is_first_read P n ≡ true) × (n < count)) (firsts count)
        standing count =
            All-weaken (λ (n : ℕ). (is_first_read P n ≡ true) × (n < 0 + count)) (λ (n : ℕ). (is_first_read P n ≡ true) × (n < count)) (firsts count)
            (λ n h. (h.0, omega (arith, h.1))) (passing (is_first_read P) 0 count)

  -- so they are no more than the arrays
  pub colds-few : (colds : List Cold) → IsWellFormed P → length P.statements ≡ 1 → ColdsTo (length (statement_at P 0).reads) colds → length colds ≤ length P.arrays
  colds-few colds well one h =
      let count : ℕ = length (statement_at P 0).reads in
      let there : AllByRecursion (λ (array : ℕ). array < length P.arrays) (map (array_at P) (firsts count)) =
      mapped (firsts count) (passing (is_first_read P) 0 count) in
      subst (λ (n : ℕ). n ≤ length P.arrays) (length-map colds (array_of_cold P))
      (few-below (length P.arrays) (map (array_of_cold P) colds) (arrays-differ count colds h)
      (subst (AllByRecursion (λ (array : ℕ). array < length P.arrays)) (sym (arrays-are (firsts count) colds h.are)) there)) where
        mapped : (reads : List ℕ) → AllByRecursion (λ (n : ℕ). (is_first_read P n ≡ true) × (n < 0 + length (statement_at P 0).reads)) reads
            → AllByRecursion (λ (array : ℕ). array < length P.arrays) (map (array_at P) reads)
        mapped [] h = tt
        mapped (read ∷ reads) h = (array-there P well read (record { statement = omega (arith, one); read = omega (arith, h.0.1) }), mapped reads h.1)
