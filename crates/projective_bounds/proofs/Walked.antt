-- What is known of the arrays of a projective program that are read.
use Rattle.std.proofs.Common.{◌≡◌, refl, sym, ◌∙◌, ap, subst, ℕ, zero, suc, ◌+◌, ◌<◌, List, [], ◌∷◌, length, map, replicate, get_or, arith, Bool, true, false}
use Rattle.std.specs.Prelude.{Option, Some, None, IsSomeAnd, slice_get, ◌==◌, if◌then◌else◌, not as negated, pos, ℤ}
use Rattle.std.specs.Ordering.{int_eq}
use Rattle.std.specs.List.{AllByRecursion, range_with_len}
use Rattle.std.proofs.lemmas.Bool.{eqb-true, eqb-false}
use Rattle.std.proofs.lemmas.Option.{slice_get_within}
use Rattle.std.proofs.lemmas.List.{length-replicate, length-set}
use Rattle.base_laws.proofs.Lists.{All-at, All-weaken}
use Rattle.iolb_model.specs.Form.{AffineForm}
use Rattle.iolb_model.specs.Program.{Access, Array, AffineProgram, IsWellFormed, no_statement, statement_at}
use Rattle.projective.specs.Turns.{width}
use Rattle.projective_bounds.proofs.Codes.{first-array}
use Rattle.affine_form.specs.Form.{variables}
use Rattle.affine_form.specs.Rows.{variable}
use Rattle.affine_program.specs.Domain.{depth_of}
use Rattle.dep_quast.specs.Context.{reference_of}
use Rattle.dep_quast.specs.Tree.{SelectionTree}
use Rattle.dep_quast.specs.Truth.{ReadFits}
use Rattle.dep_quast.specs.Trees.{read_of}
use Rattle.reuse_paths.proofs.FamilyLabels.{read-rank}
use Rattle.projective.specs.Projective.{IsLoop, IsProjection, IsProjective, coordinates, reference_to}
use Rattle.projective.proofs.Units.{unit-at, unit-other}
use Rattle.projective_bounds.specs.Families.{array_read, first_to, has_variable, loop_form, place_among}
use Rattle.projective_bounds.specs.Readable.{AreReadable, IsReadable}
use Rattle.projective_bounds.specs.Trees.{HaveKeepingTrees, KeepsLoops}
use Rattle.projective_bounds.proofs.Family.{AreWalked, IsWalked}
use Rattle.projective_bounds.proofs.ReaderLabels.{none}

-- a variable stands in the form at its place
place-has : (forms : List AffineForm) (v : ℕ) (d : AffineForm) → place_among forms v < length forms → has_variable v (get_or forms (place_among forms v) d) ≡ true
place-has [] v d h = absurd (omega arith)
place-has (f ∷ forms) v d h = by (has_variable v f) refl h (place-has forms v d) where
  by : (b : Bool) → b ≡ has_variable v f → (if b then 0 else suc (place_among forms v)) < suc (length forms) → (place_among forms v < length forms → has_variable v (get_or forms (place_among forms v) d) ≡ true)
      → has_variable v (get_or (f ∷ forms) (if b then 0 else suc (place_among forms v)) d) ≡ true
  by true e below rest = sym e
  by false e below rest = rest (omega arith)

-- the one variable that stands in a loop's form
stands-is : (params depth loop : ℕ) (form : AffineForm) → IsLoop params depth form → has_variable (params + loop) form ≡ true → form ≡ variable (params + depth) (params + loop)
stands-is params depth loop form (place, below, is) has = by (place == loop) refl where
  by : (b : Bool) → b ≡ (place == loop) → form ≡ variable (params + depth) (params + loop)
  by true e = is ∙ ap (λ (n : ℕ). variable (params + depth) (params + n)) (eqb-true place loop (sym e))
  by false e =
      let zero : get_or form.coefficients (params + loop) (pos 0) ≡ pos 0 = ap (λ (f : AffineForm). get_or f.coefficients (params + loop) (pos 0)) is
      ∙ unit-at (params + depth) (params + place) (params + loop) (omega arith) ∙ unit-other (params + place) (params + loop) (λ same. eqb-false place loop (sym e) (omega arith)) in
      let lacks : has_variable (params + loop) form ≡ false = ap (λ (z : ℤ). negated (int_eq z (pos 0))) zero in
      absurd cc

module _ (program : AffineProgram) (trees : List (List SelectionTree)) (well : IsWellFormed program) (projective : IsProjective program) (keep : HaveKeepingTrees program trees) where
  abbrev p : ℕ
  p = length program.parameters

  abbrev d : ℕ
  d = depth_of program 0

  abbrev reads : List Access
  reads = (statement_at program 0).reads

  module _ (array : ℕ) (set : List ℕ) (h : IsReadable program array set) (is : set ≡ coordinates p d (reference_to reads array)) where
    abbrev access : Access
    access = reference_of program (read_of 0 (array_read program array))

    to-array : access.array ≡ array
    to-array = first-array array reads no_statement.writes h.read

    fits : ReadFits program (read_of 0 (array_read program array))
    fits = record { statement = omega (arith, projective.one); read = h.read }

    projects : IsProjection p d access
    projects = All-at (IsProjection p d) reads (array_read program array) no_statement.writes projective.projects.projections h.read

    known : reference_to reads array ≡ Some access
    known = ap (reference_to reads) (sym to-array) ∙ All-at (λ (a : Access). reference_to reads a.array ≡ Some a) reads (array_read program array) no_statement.writes projective.projects.same h.read

    set-is : coordinates p d (Some access) ≡ set
    set-is = ap (coordinates p d) (sym known) ∙ sym is

    loop-many : (form : AffineForm) → IsLoop p d form → variables form ≡ width program
    loop-many form (place, below, same) = ap variables same ∙ length-set (replicate (width program) (pos 0)) (p + place) (pos 1) ∙ length-replicate (width program) (pos 0)

    stands : (loops : List ℕ) → AllByRecursion (λ (loop : ℕ). place_among access.subscripts (p + loop) < length access.subscripts) loops
        → AllByRecursion (λ (loop : ℕ). (place_among access.subscripts (p + loop) < length access.subscripts) × (get_or access.subscripts (place_among access.subscripts (p + loop)) none ≡ loop_form program loop)) loops
    stands [] there = tt
    stands (loop ∷ loops) there = (
      (
        there.0,
        stands-is p d loop (get_or access.subscripts (place_among access.subscripts (p + loop)) none)
            (All-at (IsLoop p d) access.subscripts (place_among access.subscripts (p + loop)) none projects.loops there.0) (place-has access.subscripts (p + loop) none there.0),
      ),
      stands loops there.1,
    )

    rank-is : (found : Option Array) → IsSomeAnd found (λ a. length access.subscripts ≡ a.rank) → (a : Array) → found ≡ Some a → length access.subscripts ≡ a.rank
    rank-is None some a e = absurd some
    rank-is (Some b) some a e = let same : b ≡ a = cc in subst (λ (c : Array). length access.subscripts ≡ c.rank) same some

    there-is : (found : Option Array) → IsSomeAnd found (λ a. length access.subscripts ≡ a.rank) → (a : Array) × (found ≡ Some a)
    there-is None some = absurd some
    there-is (Some b) some = (b, refl)

    pub walked : IsWalked program trees array set
    walked =
        let tree = keep (array_read program array) h.read in
        let rank = read-rank program (read_of 0 (array_read program array)) well fits in
        let there = there-is (slice_get program.arrays access.array) rank in
        record {
          inside = h.there;
          read = h.read;
          reads = to-array;
          known = subst (λ (n : ℕ). n < length program.arrays) to-array (slice_get_within program.arrays access.array there.0 there.1);
          rank = λ a e. rank-is (slice_get program.arrays access.array) rank a (ap (slice_get program.arrays) to-array ∙ e);
          over = All-weaken (IsLoop p d) (λ (form : AffineForm). variables form ≡ width program) access.subscripts loop-many projects.loops;
          stand = stands set h.stands;
          tree = tree.tree;
          there = tree.there;
          few = tree.few;
          keeps = subst (λ (n : ℕ). KeepsLoops program ((statement_at program 0).writes.array == n) set 16 tree.tree) to-array
              (subst (λ (s : List ℕ). KeepsLoops program ((statement_at program 0).writes.array == access.array) s 16 tree.tree) set-is tree.keeps);
        }

  -- of all arrays from one on
  pub all-walked : (first count : ℕ) (sets : List (List ℕ)) (weights : List ℕ) → sets ≡ map (λ array. coordinates p d (reference_to reads array)) (range_with_len first count) → AreReadable program first sets weights
      → AreWalked program trees first sets weights
  all-walked first count [] weights is h = tt
  all-walked first count (set ∷ sets) [] is h = tt
  all-walked first zero (set ∷ sets) (weight ∷ weights) is h = absurd cc
  all-walked first (suc count) (set ∷ sets) (weight ∷ weights) is h =
      let here : set ≡ coordinates p d (reference_to reads first) = cc in
      let rest : sets ≡ map (λ array. coordinates p d (reference_to reads array)) (range_with_len (first + 1) count) = cc in (
        λ some. walked first set (h.0 some) here,
        all-walked (suc first) count sets weights (rest ∙ ap (λ (n : ℕ). map (λ array. coordinates p d (reference_to reads array)) (range_with_len n count)) (next first)) h.1,
      ) where
        next : (n : ℕ) → n + 1 ≡ suc n
        next n = omega arith
