-- The opening branch of a program of matrix products, at matrices of 64 by 64 numbers.
use Rattle.std.proofs.Common.{◌≡◌, ◌⊎◌, refl, sym, ◌∙◌, ap, subst, inl, inr, ℕ, zero, suc, ◌+◌, ◌*◌, ◌-◌, ◌<◌, ◌≤◌, min, List, [], ◌∷◌, length, map, get_or, arith}
use Rattle.std.specs.Prelude.{Some, slice_get}
use Rattle.std.specs.Global.{Global}
use Rattle.std.specs.List.{AllByRecursion, range_with_len}
use Rattle.std.proofs.Math.IntN.{pos}
use Rattle.std.proofs.lemmas.List.{length-map}
use Rattle.std.proofs.lemmas.List.FromFn.{length-range_with_len}
use Rattle.base_laws.proofs.Lists.{All-at}
use Rattle.iolb_model.specs.Bound.{branch_value}
use Rattle.iolb_model.specs.Program.{AffineProgram, Statement, no_statement, statement_at}
use Rattle.affine_c.specs.Products.{product_program, product_statement}
use Rattle.dep_quast.specs.Context.{ReadOf, reference_of}
use Rattle.dep_quast.specs.Truth.{ReadFits}
use Rattle.domain_count.specs.Count.{IsCount}
use Rattle.poly_tree.specs.Poly.{Quotient}
use Rattle.wavefront.specs.declared.cold.Cold.{Cold}
use Rattle.projective_bounds.specs.HeldColds.{array_read, reader_of}
use Rattle.iolb_check.specs.Bounds.{IsWideBranch, terms_of}
use Rattle.iolb_check.specs.Claims.{BranchClaim, claim_of_branch, claim_of_term}
use Rattle.iolb_check.specs.Conditions.{AreBranchValues, AreValuesOf, IsValueOf}
use Rattle.iolb_check.specs.declared.bound.Value.{Value}
use Rattle.iolb_check.specs.declared.bound.Value.TheVariants as values
use Rattle.iolb_check.specs.declared.term.Branch.{Branch}
use Rattle.iolb_check.specs.declared.term.Term.{Term}
use Rattle.iolb_check.specs.declared.term.Term.TheVariants as terms
use Rattle.projective_bounds.specs.Certified.{HasCoverInReach}
use Rattle.projective_bounds.specs.Loops.{parameters_of}
use Rattle.find_terms.specs.Opened.{BeginsWithOpening}
use Rattle.find_terms.specs.Openings.{AreOpenings, AreRising, HasPlainRead, IsFirstOpening, IsOpeningTerm}
use Rattle.find_terms.specs.Products.{ProductsHaveOpenings}
use Rattle.find_terms.proofs.products.InputReads.{opening-counts}
use Rattle.find_terms.proofs.products.Plain.{first-plain, room, runs, second-plain}
use Rattle.find_terms.proofs.products.Programs.{statement-is}
use Rattle.find_terms.proofs.products.Worth.{AreSquares, branch-worth, narrow}
use Rattle.find_terms.proofs.products.Squares.{parameters, square-is, square_tree, two-parameters}
use Rattle.projective.proofs.Summed.{whole}
use Rattle.find_terms.proofs.NameLaws.{named-many}
use Rattle.iolb_model.specs.declared.limits.TheConstants.{OPENING_TERMS}

-- ---- places in a list that rises

rising-apart : (ns : List ℕ) (i k a b : ℕ) → AreRising ns → i < length ns → k < length ns → get_or ns i a ≡ a → get_or ns k b ≡ b → a < b → i < k
rising-apart [] i k a b rising here there at_i at_k less = absurd (omega (arith, here))
rising-apart (n ∷ ns) zero zero a b rising here there at_i at_k less = absurd (omega (arith, at_i, at_k, less))
rising-apart (n ∷ ns) zero (suc k) a b rising here there at_i at_k less = omega arith
rising-apart (n ∷ ns) (suc i) zero a b rising here there at_i at_k less =
    let after : n < get_or ns i a = All-at (λ (later : ℕ). n < later) ns i a rising.0 (omega (arith, here)) in absurd (omega (arith, after, at_i, at_k, less))
rising-apart (n ∷ ns) (suc i) (suc k) a b rising here there at_i at_k less =
    let rest = rising-apart ns i k a b rising.1 (omega (arith, here)) (omega (arith, there)) at_i at_k less in omega (arith, rest)

module _ (n : ℕ) where
  abbrev program : AffineProgram
  program = product_program n

  statements-many : length program.statements ≡ n
  statements-many = length-map (range_with_len 0 n) product_statement ∙ length-range_with_len 0 n

  -- ---- what an opening term counts

  read-two : (q r : ℕ) → r < 3 → length (get_or (product_statement q).reads r no_statement.writes).subscripts ≡ 2
  read-two q zero less = refl
  read-two q (suc zero) less = refl
  read-two q (suc (suc zero)) less = refl
  read-two q (suc (suc (suc r))) less = absurd (omega (arith, less))

  two-subscripts : (reader : ReadOf) → ReadFits program reader → length (reference_of program reader).subscripts ≡ 2
  two-subscripts reader fits =
      let is : statement_at program reader.statement ≡ product_statement reader.statement = statement-is n reader.statement (omega (arith, fits.statement, statements-many)) in
      let less : reader.read < 3 = subst (λ (s : Statement). reader.read < length s.reads) is fits.read in
      ap (λ (s : Statement). length (get_or s.reads reader.read no_statement.writes).subscripts) is ∙ read-two reader.statement reader.read less

  -- its count
  count-is : (cold : Cold) → IsOpeningTerm program (reader_of cold) cold → (count : Quotient) → IsCount program cold.nest cold.sums count → count ≡ whole square_tree
  count-is cold opens count right =
      square-is count (parameters_of (parameters 3) opens.outline.0)
      (two-parameters opens.outline.0 3 (sym (named-many program (reader_of cold) opens.outline.0 opens.outline.1) ∙ two-subscripts (reader_of cold) opens.read))
      (opening-counts program (reader_of cold) opens.outline.0 (parameters 3) opens.outline.1 (runs n cold.statement below) (room n cold.statement below) cold count opens right) where
        below : cold.statement < n
        below = omega (arith, opens.read.statement, statements-many)

  -- ---- the values of opening terms

  squares : (colds : List Cold) (vs : List Value) → AllByRecursion (IsFirstOpening program) colds → AreValuesOf program (map claim_of_term (map terms.Cold colds)) vs
      → AreSquares vs × (length vs ≡ length colds)
  squares [] vs each are = (subst AreSquares (sym are) tt, ap length are)
  squares (cold ∷ colds) [] each are = absurd are
  squares (cold ∷ colds) (value ∷ vs) each are = let rest = squares colds vs each.1 are.1 in ((one value are.0, rest.0), ap suc rest.1) where
    one : (v : Value) → IsValueOf program (claim_of_term (terms.Cold cold)) v → v ≡ values.Cold (whole square_tree)
    one (values.Cold count) is = ap values.Cold (count-is cold each.0.opens count is)
    one (values.Partition bound) is = absurd is
    one (values.Wavefront pairs outer) is = absurd is
    one (values.Joint bound) is = absurd is

  -- ---- as many as twice the products, or 16

  module _ (alloc : Global) (colds : List Cold) (are : AreOpenings program colds) where
    abbrev arrays : List ℕ
    arrays = map (array_read program) colds

    abbrev Full : Type 0
    Full = length colds ≡ OPENING_TERMS

    -- the place of an array
    abbrev At : ℕ → ℕ → Type 0
    At array least = (k : ℕ) × (k < length arrays) × (get_or arrays k array ≡ array) × (least ≤ k)

    -- the term of an array behind that of another
    behind : (array : ℕ) → HasPlainRead program array → (before least : ℕ) → before < array → At before least → Full ⊎ At array (suc least)
    behind array has before least less (i, here, is, more) = elim (are.all array has) [
      | inl there ↦ let far = rising-apart arrays i there.0 before array are.order here there.1 is there.2 less in inr (there.0, there.1, there.2, omega (arith, far, more))
      | inr full ↦ inl full.0
    ]

    first-at : (array : ℕ) → HasPlainRead program array → Full ⊎ At array 0
    first-at array has = elim (are.all array has) [ inl there ↦ inr (there.0, there.1, there.2, omega arith) | inr full ↦ inl full.0 ]

    last-at : (q : ℕ) → q < n → Full ⊎ At (3 * q + 2) (2 * q + 1)
    last-at zero below = elim (first-at 1 (first-plain n alloc zero below)) [
      | inl full ↦ inl full
      | inr there ↦ behind 2 (second-plain n alloc zero below) 1 0 (omega arith) there
    ]
    last-at (suc q) below = by (last-at q (omega (arith, below))) where
      more : (array least other : ℕ) → least ≡ other → At array least → At array other
      more array least other e h = subst (At array) e h

      twice : Full ⊎ At (3 * suc q + 1) (suc (2 * q + 1)) → Full ⊎ At (3 * suc q + 2) (2 * suc q + 1)
      twice (inl full) = inl full
      twice (inr there) = elim (behind (3 * suc q + 2) (second-plain n alloc (suc q) below) (3 * suc q + 1) (suc (2 * q + 1)) (omega arith) there) [
        | inl full ↦ inl full
        | inr next ↦ inr (more (3 * suc q + 2) (suc (suc (2 * q + 1))) (2 * suc q + 1) (omega arith) next)
      ]

      by : Full ⊎ At (3 * q + 2) (2 * q + 1) → Full ⊎ At (3 * suc q + 2) (2 * suc q + 1)
      by (inl full) = inl full
      by (inr there) = twice (behind (3 * suc q + 1) (first-plain n alloc (suc q) below) (3 * q + 2) (2 * q + 1) (omega arith) there)

    as-many : (q : ℕ) → n ≡ suc q → min (2 * n) 16 ≤ length colds
    as-many q is = by (last-at q (omega (arith, is))) where
      by : Full ⊎ At (3 * q + 2) (2 * q + 1) → min (2 * n) 16 ≤ length colds
      by (inl full) = omega (arith, full)
      by (inr there) = let long = length-map colds (array_read program) in omega (arith, there.1, there.3, long, is)

-- ---- certificates that are made

first-values : (source : AffineProgram) (branch : BranchClaim) (branches : List BranchClaim) (all : List (List Value)) → AreBranchValues source (branch ∷ branches) all
    → (vs : List Value) × (slice_get all 0 ≡ Some vs) × AreValuesOf source branch.terms vs
first-values source branch branches [] are = absurd are
first-values source branch branches (vs ∷ others) are = (vs, refl, are.0)

pub products-open : Global → ProductsHaveOpenings
products-open alloc n certificate all several made meets = by (made.others not-projective) where
  some : (q : ℕ) × (n ≡ suc q)
  some = (n - 1, omega (arith, several))

  not-projective : ¬ HasCoverInReach (product_program n)
  not-projective h = omega (arith, several, h.projective.one, statements-many n)

  by : BeginsWithOpening (product_program n) certificate.branches
      → (vs : List Value) × (slice_get all 0 ≡ Some vs) × (¬ IsWideBranch (pos 64 ∷ []) 64 vs) × (4096 * min (2 * n) 16 ≤ branch_value (terms_of vs) (pos 64 ∷ []) 64)
  by (inl none) = let plain = first-plain n alloc 0 (omega (arith, several)) in absurd (none plain.0 plain.2)
  by (inr (first, later, begins, opening, nonempty)) =
      let valued : AreBranchValues (product_program n) (claim_of_branch first ∷ map claim_of_branch later) all =
      subst (λ (branches : List Branch). AreBranchValues (product_program n) (map claim_of_branch branches) all) begins meets.valued in
      let found = first-values (product_program n) (claim_of_branch first) (map claim_of_branch later) all valued in
      let colds : List Cold = opening.0 in
      let are : AreOpenings (product_program n) opening.0 = opening.1 in
      let its : AreValuesOf (product_program n) (map claim_of_term (map terms.Cold opening.0)) found.0 =
      subst (λ (ts : List Term). AreValuesOf (product_program n) (map claim_of_term ts) found.0) opening.2 found.2 in
      let worth = squares n opening.0 found.0 are.each its in
      let many : min (2 * n) 16 ≤ length opening.0 = as-many n alloc opening.0 are some.0 some.1 in
      let value = branch-worth found.0 worth.0 in (
        found.0,
        found.1,
        narrow found.0 worth.0 (omega (arith, worth.1, are.few)),
        omega (arith, many, value, worth.1),
      )
