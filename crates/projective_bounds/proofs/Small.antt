-- The term of a whole domain is within the limits of certificates.
use Rattle.std.proofs.Common.{◌≡◌, ◌≢◌, refl, sym, ◌∙◌, ap, subst, ℕ, zero, suc, ◌+◌, ◌-◌, ◌*◌, ◌/◌, ◌<◌, ◌≤◌, max, List, [], ◌∷◌, ◌++◌, length, map, get_or, sum, cond, arith, lit<, Bool, true, false}
use Rattle.std.specs.Prelude.{Some, None, ◌==◌, if◌then◌else◌, sum_by}
use Rattle.std.specs.List.{AllByRecursion, range_with_len}
use Rattle.std.proofs.lemmas.Bool.{eqb-true, eqb-false}
use Rattle.std.proofs.lemmas.List.{length-append, length-map}
use Rattle.std.proofs.lemmas.List.FromFn.{length-range_with_len}
use Rattle.std.proofs.lemmas.List.Sums.{sum_by-cons}
use Rattle.base_laws.proofs.Lists.{All-append, All-every, All-map, All-replicate, All-weaken}
use Rattle.iolb_model.specs.Form.{AffineForm}
use Rattle.iolb_model.specs.Program.{AffineProgram, statement_at}
use Rattle.certificate_fit.proofs.FormsFit.{bounds-small}
use Rattle.projective.specs.Turns.{width}
use Rattle.affine_form.specs.Form.{IsSmall, IsSmallForm}
use Rattle.affine_form.specs.Multipliers.{FarkasMultipliers}
use Rattle.affine_form.specs.Rows.{variable}
use Rattle.affine_form.proofs.RowLemmas.{variables-over}
use Rattle.affine_program.specs.Domain.{depth_of}
use Rattle.affine_program.specs.Parts.{ProgramParts, meaning}
use Rattle.cover_lp.specs.Cover.{holds, weight_at as cover_weight}
use Rattle.dep_quast.specs.Tree.{SelectionTree, leaf, test, leaf_count, source, input, empty, blank}
use Rattle.poly_tree.specs.Expansion.{coefficients}
use Rattle.poly_tree.specs.Poly.{Quotient}
use Rattle.poly_tree.proofs.Expansions.{IsCanonical-more}
use Rattle.reuse_paths.specs.Families.{FamilyForms, family_of}
use Rattle.reuse_paths.specs.Walks.{take}
use Rattle.certificate_fit.specs.Limits.{AreSmall, IsSmallCredit, IsSmallEntry, IsSmallFamily, IsSmallFamilyNode, IsSmallLabel, IsSmallPolynomial, IsSmallWalk, NameRows, NamesRows}
use Rattle.k_partition.specs.declared.term.Partition.{Partition}
use Rattle.k_partition.specs.View.{credit_term_of, partition_of}
use Rattle.iolb_check.specs.Limits.{IsSmallPartition}
use Rattle.projective.specs.Projective.{coordinates, projection_sets, reference_to}
use Rattle.projective.specs.Products.{AreRepeated, AreTaken}
use Rattle.projective_bounds.specs.Families.{array_families, array_family, array_node, array_read, array_subscripts, array_walk, cell_form, cell_label, entries_of, label_if, loop_form, loops_label, place_among}
use Rattle.projective_bounds.specs.WholeLaws.{CanBeShown, WholeTermsAreSmall}
use Rattle.projective_bounds.specs.Multipliers.{labels_agree, none_taken, rows_taken}
use Rattle.projective_bounds.specs.Whole.{IsWholeTerm, stretch_for}
use Rattle.projective.proofs.Runs.{run-many}
use Rattle.projective_bounds.proofs.Family.{AreWalked, IsWalked, tree-is}
use Rattle.projective_bounds.proofs.Held.{few as nest-few, run-fits, walked}
use Rattle.projective_bounds.proofs.Readings.{weight-most, weighted-light}
use Rattle.iolb_model.specs.declared.limits.TheConstants.{COEFFICIENT_SIZE, NUMBER_SIZE}

-- ---- multipliers

pub taken-names : (rows : List AffineForm) (count : ℕ) (ps : List ℕ) (shown : List FarkasMultipliers) → length rows ≤ 32 → AreTaken rows count ps shown → NameRows shown
taken-names rows count [] [] few h = tt
taken-names rows count [] (m ∷ shown) few h = absurd h
taken-names rows count (p ∷ ps) [] few h = absurd h
taken-names rows count (p ∷ ps) (m ∷ shown) few h =
    (subst NamesRows (sym h.0.is) (omega (arith, h.0.there), tt), taken-names rows count ps shown few h.1)

rows-name : (first count : ℕ) → first + count ≤ 128 → NameRows (rows_taken first count)
rows-name first zero le = tt
rows-name first (suc count) le = ((omega arith, tt), rows-name (suc first) count (omega arith))

agree-name : (size : ℕ) → NameRows (labels_agree size)
agree-name size = All-replicate NamesRows (2 * size) none_taken tt

-- ---- polynomials

pub repeated-small : (v : ℕ) (ps : List ℕ) (sums : List Quotient) → v + length ps ≤ 24 → AreRepeated v ps sums → AllByRecursion IsSmallPolynomial sums
repeated-small v [] [] few h = tt
repeated-small v [] (s ∷ sums) few h = absurd h
repeated-small v (p ∷ ps) [] few h = absurd h
repeated-small v (p ∷ ps) (s ∷ sums) few h = (
  record {
    variables = IsCanonical-more (suc v) 24 s.tree (omega arith) h.0.uses;
    numbers = All-weaken (IsSmall 2) (IsSmall COEFFICIENT_SIZE) (coefficients s.tree) (λ x below. omega (arith, below)) h.0.numbers;
    over = omega (arith, h.0.whole);
    light = omega (arith, h.0.light);
  },
  repeated-small (suc v) ps sums (omega arith) h.1,
)

-- ---- the stretch

quotient-le : (q n : ℕ) → q / n ≤ q
quotient-le q n = grind arith

stretch-few : (q total : ℕ) → q ≤ 12 → q ≤ total → (stretch_for q total ≤ 64) × (1 ≤ stretch_for q total)
stretch-few q total few le = by (total == q) where
  by : (b : Bool) → ((if b then 16 else max 1 (q / (total - q))) ≤ 64) × (1 ≤ (if b then 16 else max 1 (q / (total - q))))
  by true = (omega arith, omega arith)
  by false = let most = quotient-le q (total - q) in (omega arith, omega arith)

-- ---- families

entries-small : (size : ℕ) (tree : SelectionTree) → AllByRecursion IsSmallEntry (entries_of size tree)
entries-small size (leaf (source claim)) = ((tt, agree-name size), tt)
entries-small size (leaf (input shown)) = (agree-name size, tt)
entries-small size (leaf (empty shown)) = tt
entries-small size (leaf blank) = (agree-name size, tt)
entries-small size (test form above below) = All-append IsSmallEntry (entries_of size above) (entries_of size below) (entries-small size above) (entries-small size below)

entries-few : (size : ℕ) (tree : SelectionTree) → length (entries_of size tree) ≤ leaf_count tree
entries-few size (leaf (source claim)) = omega arith
entries-few size (leaf (input shown)) = omega arith
entries-few size (leaf (empty shown)) = omega arith
entries-few size (leaf blank) = omega arith
entries-few size (test form above below) = omega (arith, length-append (entries_of size above) (entries_of size below), entries-few size above, entries-few size below)

variable-small : (vars place : ℕ) → IsSmallForm NUMBER_SIZE (variable vars place)
variable-small vars place = (variables-over vars place 1).0.small

module _ (program : AffineProgram) (trees : List (List SelectionTree)) (array : ℕ) (set : List ℕ) (weight : ℕ) (h : IsWalked program trees array set) where
  label-small : (loops : List ℕ) → AreSmall (loops_label program loops)
  label-small loops = All-map (IsSmallForm NUMBER_SIZE) (loop_form program) loops (All-every (λ loop. IsSmallForm NUMBER_SIZE (loop_form program loop)) (λ loop. variable-small (width program) (length program.parameters + loop)) loops)

  cells-small : (forms : List AffineForm) (loops : List ℕ) → AreSmall (cell_label program forms loops)
  cells-small forms loops =
      All-map (IsSmallForm NUMBER_SIZE) (cell_form program forms) loops
      (All-every (λ loop. IsSmallForm NUMBER_SIZE (cell_form program forms loop)) (λ loop. variable-small (length program.parameters + length forms) (length program.parameters + place_among forms (length program.parameters + loop))) loops)

  walk-small : IsSmallWalk (array_walk program trees array (length set))
  walk-small = subst (λ (tree : SelectionTree). IsSmallWalk (take (array_read program array) (entries_of (length set) tree))) (sym (tree-is program trees array set h))
      (record { nested = entries-small (length set) h.tree; few = omega (arith, entries-few (length set) h.tree, h.few) })

  node-small : IsSmallFamilyNode (array_node program trees array set)
  node-small = by ((statement_at program 0).writes.array == array) where
    by : (b : Bool) → IsSmallFamilyNode (if b then Some (record { label = loops_label program set; region = Some (record { rows = []; tree = array_walk program trees array (length set) }) }) else None)
    by true = (label-small set, record { few = omega arith; rows = tt; tree = walk-small })
    by false = tt

  input-small : (other : ℕ) → IsSmallLabel (label_if program array set other)
  input-small other = by (other == array) where
    by : (b : Bool) → IsSmallLabel (if b then Some (cell_label program (array_subscripts program array) set) else None)
    by true = cells-small (array_subscripts program array) set
    by false = tt

  family-small : 1 ≤ weight → weight ≤ 12 → IsSmallFamily (array_family program trees array set weight)
  family-small some few = record {
    some_scale = omega arith;
    scale = lit< tt;
    some_weight = some;
    weight = few;
    start_label = label-small set;
    start = walk-small;
    nodes = (node-small, tt);
    inputs = All-map IsSmallLabel (label_if program array set) (range_with_len 0 (length program.arrays)) (All-every (λ other. IsSmallLabel (label_if program array set other)) input-small (range_with_len 0 (length program.arrays)));
  }

-- each weight is at most 12
abbrev AreLight : List ℕ → Type 0
AreLight weights = AllByRecursion (λ (w : ℕ). w ≤ 12) weights

all-light : (weights : List ℕ) → ((j : ℕ) → j < length weights → get_or weights j 0 ≤ 12) → AreLight weights
all-light [] h = tt
all-light (w ∷ weights) h = (h 0 (omega arith), all-light weights (λ j below. h (suc j) (omega arith)))

module _ (program : AffineProgram) (trees : List (List SelectionTree)) where
  abbrev with_family : Bool → ℕ → List ℕ → ℕ → List (List ℕ) → List ℕ → List FamilyForms
  with_family b first set w sets weights = (if b then [] else array_family program trees first set w ∷ []) ++ array_families program trees (suc first) sets weights

  families-small : (first : ℕ) (sets : List (List ℕ)) (weights : List ℕ) → AreWalked program trees first sets weights → AreLight weights → AllByRecursion IsSmallFamily (array_families program trees first sets weights)
  families-small first [] weights h light = tt
  families-small first (set ∷ sets) [] h light = tt
  families-small first (set ∷ sets) (w ∷ weights) h light = by (w == 0) refl (families-small (suc first) sets weights h.1 light.1) where
    by : (b : Bool) → b ≡ (w == 0) → AllByRecursion IsSmallFamily (array_families program trees (suc first) sets weights) → AllByRecursion IsSmallFamily (with_family b first set w sets weights)
    by true e rest = rest
    by false e rest =
        let not : w ≢ 0 = eqb-false w 0 (sym e) in
        (family-small program trees first set w (h.0 not) (omega arith) light.0, rest)

  families-few : (first : ℕ) (sets : List (List ℕ)) (weights : List ℕ) → length (array_families program trees first sets weights) ≤ length sets
  families-few first [] weights = omega arith
  families-few first (set ∷ sets) [] = omega arith
  families-few first (set ∷ sets) (w ∷ weights) = by (w == 0) (families-few (suc first) sets weights) where
    by : (b : Bool) → length (array_families program trees (suc first) sets weights) ≤ length sets → length (with_family b first set w sets weights) ≤ suc (length sets)
    by true h = omega arith
    by false h = omega arith

  -- a coordinate that is covered lies in the set of a family
  families-some : (first : ℕ) (sets : List (List ℕ)) (weights : List ℕ) (c : ℕ) → 1 ≤ cover_weight sets weights c → 1 ≤ length (array_families program trees first sets weights)
  families-some first [] weights c h = absurd (omega arith)
  families-some first (set ∷ sets) [] c h = absurd (omega arith)
  families-some first (set ∷ sets) (w ∷ weights) c h = by (w == 0) refl (families-some (suc first) sets weights c) where
    none : (b : Bool) (n : ℕ) → n ≡ 0 → cond b n 0 ≡ 0
    none true n e = e
    none false n e = refl

    by : (b : Bool) → b ≡ (w == 0) → (1 ≤ cover_weight sets weights c → 1 ≤ length (array_families program trees (suc first) sets weights)) → 1 ≤ length (with_family b first set w sets weights)
    by true e rest = rest (omega (arith, none (holds set c) w (eqb-true w 0 (sym e))))
    by false e rest = omega arith

  pub weights-all : (first : ℕ) (sets : List (List ℕ)) (weights : List ℕ) → sum_by (λ (family : FamilyForms). family.weight) (array_families program trees first sets weights) ≤ sum weights
  weights-all first [] weights = omega arith
  weights-all first (set ∷ sets) [] = omega arith
  weights-all first (set ∷ sets) (w ∷ weights) = by (w == 0) (weights-all (suc first) sets weights) where
    by : (b : Bool) → sum_by (λ (family : FamilyForms). family.weight) (array_families program trees (suc first) sets weights) ≤ sum weights
        → sum_by (λ (family : FamilyForms). family.weight) (with_family b first set w sets weights) ≤ sum (w ∷ weights)
    by true h = omega (arith, sum_by-cons (λ (n : ℕ). n) w weights)
    by false h =
        omega (
          arith,
          sum_by-cons (λ (n : ℕ). n) w weights,
          sum_by-cons (λ (family : FamilyForms). family.weight) (array_family program trees first set w) (array_families program trees (suc first) sets weights),
        )

-- ---- the term

nothing : {X : Type 0} (xs : List X) → length xs ≡ 0 → xs ≡ []
nothing [] e = refl
nothing (x ∷ xs) e = absurd (omega arith)

module _ (parts : ProgramParts) (trees : List (List SelectionTree)) (q : ℕ) (weights : List ℕ) (partition : Partition) (can : CanBeShown parts trees q weights)
    (h : IsWholeTerm (meaning parts) trees q weights (partition_of partition)) where
  abbrev program : AffineProgram
  program = meaning parts

  abbrev sets : List (List ℕ)
  sets = projection_sets program

  few : length partition.nest ≤ 6
  few = nest-few parts trees q weights partition.nest partition.sums can h.nest h.count

  walks : AreWalked program trees 0 sets weights
  walks = walked parts trees q weights partition.nest partition.sums can h.nest h.count

  light : AreLight weights
  light = all-light weights (λ j below. omega (arith, weighted-light sets (depth_of program 0) q weights can.packing can.some can.pair j (omega (arith, below, can.pair.cover.one_each)), can.few))

  families-are : map family_of partition.families.items ≡ array_families program trees 0 sets weights
  families-are = h.families

  families-many : length partition.families.items ≡ length (array_families program trees 0 sets weights)
  families-many = sym (length-map partition.families.items family_of) ∙ ap length families-are

  sets-many : length sets ≡ length program.arrays
  sets-many =
      length-map (range_with_len 0 (length program.arrays)) (λ array. coordinates (length program.parameters) (depth_of program 0) (reference_to (statement_at program 0).reads array))
      ∙ length-range_with_len 0 (length program.arrays)

  enough : q ≤ sum weights
  enough = omega (arith, can.pair.cover.covered 0 (omega (arith, can.projective.loops.some)), weight-most sets weights 0)

  whole-small : IsSmallPartition partition
  whole-small =
      let stretch = stretch-few q (sum weights) can.few enough in
      let many = run-many program (length program.parameters) partition.nest h.count.parameters h.count.run in
      record {
        variables = few;
        bounds = bounds-small (length program.parameters) partition.nest (run-fits program (length program.parameters) partition.nest h.count.parameters h.count.run);
        shown = taken-names program.assumptions (length program.parameters) h.count.parameters partition.sums.shown can.program.limits.assumptions h.count.shown;
        sums = repeated-small (length program.parameters) h.count.parameters partition.sums.sums (omega (arith, many, few, can.program.limits.parameters)) h.count.sums;
        inside = subst NameRows (sym h.inside) (rows-name (length program.assumptions) (2 * length partition.nest) (omega (arith, few, can.program.limits.assumptions)));
        some_q = omega (arith, h.cover, can.some);
        q = omega (arith, h.cover, can.few);
        a = omega (arith, h.a, stretch.0);
        b = omega (arith, h.b);
        some_events = omega (arith, h.a, stretch.1);
        few_credits = omega (arith, length-map partition.credits.items credit_term_of, ap length h.credits);
        credits = subst (AllByRecursion IsSmallCredit) (sym (nothing partition.credits.items (sym (length-map partition.credits.items credit_term_of) ∙ ap length h.credits))) tt;
        some_families = omega (
          arith,
          families-many,
          families-some program trees 0 sets weights 0 (omega (arith, can.pair.cover.covered 0 (omega (arith, can.projective.loops.some)), can.some)),
        );
        few_families = omega (arith, families-many, families-few program trees 0 sets weights, sets-many, can.projective.projects.few);
        families = subst (AllByRecursion IsSmallFamily) (sym families-are) (families-small program trees 0 sets weights walks light);
        weights = omega (arith, ap (sum_by (λ (family : FamilyForms). family.weight)) families-are, weights-all program trees 0 sets weights, can.light);
        apart = subst NameRows (sym h.apart) tt;
      }

pub whole-terms-small : WholeTermsAreSmall
whole-terms-small parts trees q weights partition can h = whole-small parts trees q weights partition can h
