-- The certificate of one matrix product, at matrices of 64 by 64 numbers.
use Rattle.std.proofs.Common.{◌≡◌, refl, sym, ◌∙◌, ap, subst, inl, inr, ℕ, zero, suc, ◌+◌, ◌*◌, ◌-◌, ◌/◌, ◌^◌, ◌<◌, ◌≤◌, List, [], ◌∷◌, length, map, get_or, sum, arith}
use Rattle.std.specs.Prelude.{true, sum_by}
use Rattle.std.specs.List.{AllByRecursion}
use Rattle.std.proofs.Math.IntN.{pos}
use Rattle.std.proofs.lemmas.Int.{ints}
use Rattle.std.proofs.lemmas.List.{length-map}
use Rattle.iolb_model.specs.Bound.{count_value, events_of, labels_of, points_of, term_value}
use Rattle.iolb_model.specs.Form.{AffineForm}
use Rattle.iolb_model.specs.Program.{Access, AffineProgram, read_at, statement_at}
use Rattle.affine_program.specs.Domain.{bounds_at}
use Rattle.affine_c.specs.Products.{product_program}
use Rattle.cover_lp.specs.Cover.{IsPair, weight_at}
use Rattle.cover_lp.proofs.Duality.{one-total}
use Rattle.dep_quast.specs.Quasts.{trees_of}
use Rattle.dep_quast.specs.Tree.{SelectionTree}
use Rattle.domain_count.specs.Count.{IsCount}
use Rattle.domain_count.proofs.Claimed.{right-claims-give-one}
use Rattle.k_partition.specs.declared.term.PartitionBound.{PartitionBound}
use Rattle.k_partition.specs.declared.term.Shape.{Shape}
use Rattle.k_partition.specs.Numbers.{factor_over, numbers_of}
use Rattle.k_partition.specs.PartitionClaims.{IsCreditsTotal, no_points}
use Rattle.k_partition.specs.Term.{CreditTerm, PartitionTerm}
use Rattle.k_partition.specs.View.{partition_of}
use Rattle.poly_tree.specs.Expansion.{Expansion, over, none, part, number, zero_expansion}
use Rattle.poly_tree.specs.Poly.{IsLegal, Quotient}
use Rattle.poly_tree.specs.Printed.{polynomial_of}
use Rattle.reuse_paths.specs.Families.{FamilyForms}
use Rattle.uniform_cover.specs.Products.{product_by}
use Rattle.wavefront.specs.declared.cold.Cold.{Cold}
use Rattle.iolb_check.specs.Bounds.{HasWideBranch, IsWideAt, IsWideBranch, IsWidePartition, IsWideTerm, term_of as bound_term}
use Rattle.iolb_check.specs.Claims.{claim_of_branch, claim_of_term}
use Rattle.iolb_check.specs.Conditions.{AreBranchValues, AreValuesOf, IsPartitionValue, IsValueOf}
use Rattle.iolb_check.specs.declared.bound.Value.{Value}
use Rattle.iolb_check.specs.declared.bound.Value.TheVariants as values
use Rattle.iolb_check.specs.declared.term.Branch.{Branch}
use Rattle.iolb_check.specs.declared.term.Term.{Term}
use Rattle.iolb_check.specs.declared.term.Term.TheVariants as terms
use Rattle.projective.specs.Products.{IsProduct, RunBelow, product_of}
use Rattle.projective.specs.Projective.{AllRun, HoldsOfOne, IsProjective, stands_in}
use Rattle.projective_bounds.specs.Certified.{HasCoverInReach, IsCertified}
use Rattle.projective_bounds.specs.Colds.{AreColdsOf, IsReadCold}
use Rattle.projective_bounds.specs.Families.{array_families, loop_form}
use Rattle.projective_bounds.specs.Loops.{parameters_of}
use Rattle.projective_bounds.specs.Whole.{IsWholeTerm, stretch_for}
use Rattle.find_terms.specs.Products.{OneProductIsCertified}
use Rattle.projective.proofs.Summed.{whole, whole-legal}
use Rattle.projective.proofs.Times.{product-value}
use Rattle.find_terms.proofs.products.Squares.{parameters, product-is, square-is, square_tree, two-parameters}
use Rattle.std.proofs.Math.Nat.{div-le_self}
use Rattle.find_terms.proofs.products.Worth.{AreSquares, narrow, sizes}

abbrev one : AffineProgram
one = product_program 1

-- ---- it is projective, and a cover is in reach

apart : pos 0 ≡ pos 1 → ⊥
apart e = cc

runs : AllRun one 1 (bounds_at one 0)
runs = (
  (0, record { there = omega arith; lower = refl; upper = refl; assumed = inl (refl, omega (arith, ints)) }),
  (
    (0, record { there = omega arith; lower = refl; upper = refl; assumed = inl (refl, omega (arith, ints)) }),
    ((0, record { there = omega arith; lower = refl; upper = refl; assumed = inl (refl, omega (arith, ints)) }), tt),
  ),
)

-- two variables differ, as forms
differ : (place : ℕ) (form other : AffineForm) → get_or form.coefficients place (pos 0) ≡ pos 1 → get_or other.coefficients place (pos 0) ≡ pos 0 → other ≡ form → ⊥
differ place form other is missing e = apart (sym missing ∙ ap (λ (f : AffineForm). get_or f.coefficients place (pos 0)) e ∙ is)

is-projective : IsProjective one
is-projective = record {
  one = refl;
  unguarded = refl;
  loops = record { some = omega arith; nest = inr (inr (inr (inr (tt, tt), tt), tt), tt); loops = runs };
  projects = record {
    few = omega arith;
    accumulates = inl refl;
    same = (refl, (refl, (refl, tt)));
    standing = standing;
    projections = (
      record { loops = ((0, omega arith, refl), ((1, omega arith, refl), tt)); different = ((differ 1 _ _ refl refl, tt), (tt, tt)) },
      (
        record { loops = ((0, omega arith, refl), ((2, omega arith, refl), tt)); different = ((differ 1 _ _ refl refl, tt), (tt, tt)) },
        (record { loops = ((2, omega arith, refl), ((1, omega arith, refl), tt)); different = ((differ 3 _ _ refl refl, tt), (tt, tt)) }, tt),
      ),
    );
  };
} where
  standing : (place : ℕ) → place < 3 → HoldsOfOne (λ (access : Access). stands_in (1 + place) access ≡ true) (statement_at one 0).reads
  standing zero below = inl refl
  standing (suc zero) below = inl refl
  standing (suc (suc zero)) below = inr (inl refl)
  standing (suc (suc (suc place))) below = absurd (omega (arith, below))

abbrev sets : List (List ℕ)
sets = (0 ∷ 1 ∷ []) ∷ (0 ∷ 2 ∷ []) ∷ (1 ∷ 2 ∷ []) ∷ []

abbrev ones : List ℕ
ones = 1 ∷ 1 ∷ 1 ∷ []

pair : IsPair sets 3 2 ones ones
pair = record {
  cover = record { one_each = refl; covered = covered };
  packs = record { one_each = refl; held = (omega arith, (omega arith, (omega arith, tt))) };
  equal = refl;
} where
  covered : (coordinate : ℕ) → coordinate < 3 → 2 ≤ weight_at sets ones coordinate
  covered zero below = omega arith
  covered (suc zero) below = omega arith
  covered (suc (suc zero)) below = omega arith
  covered (suc (suc (suc coordinate))) below = absurd (omega (arith, below))

reach : HasCoverInReach one
reach = record {
  projective = is-projective;
  q = 2;
  weights = ones;
  packing = ones;
  pair = record { positive = omega arith; few = omega arith; light = omega arith; is_pair = pair };
}

-- ---- the least cover

all-ones : (weights : List ℕ) → length weights ≡ 3 → sum weights ≡ 3 → ((coordinate : ℕ) → coordinate < 3 → 2 ≤ weight_at sets weights coordinate) → weights ≡ ones
all-ones [] many total covered = absurd (omega (arith, many))
all-ones (a ∷ []) many total covered = absurd (omega (arith, many))
all-ones (a ∷ b ∷ []) many total covered = absurd (omega (arith, many))
all-ones (a ∷ b ∷ c ∷ []) many total covered =
    let first = covered 0 (omega arith) in
    let second = covered 1 (omega arith) in
    let third = covered 2 (omega arith) in
    let is_a : a ≡ 1 = omega (arith, total, first, second, third) in
    let is_b : b ≡ 1 = omega (arith, total, first, second, third) in
    let is_c : c ≡ 1 = omega (arith, total, first, second, third) in
    ap (λ (x : ℕ). x ∷ b ∷ c ∷ []) is_a ∙ ap (λ (x : ℕ). 1 ∷ x ∷ c ∷ []) is_b ∙ ap (λ (x : ℕ). 1 ∷ 1 ∷ x ∷ []) is_c
all-ones (a ∷ b ∷ c ∷ d ∷ weights) many total covered = absurd (omega (arith, many))

-- ---- products of the parameter

zeros : (vars : ℕ) (nest : List (AffineForm × AffineForm)) (ps : List ℕ) → RunBelow one vars nest ps → ps ≡ parameters (length nest)
zeros vars [] [] run = refl
zeros vars [] (p ∷ ps) run = absurd run
zeros vars (b ∷ nest) [] run = absurd run
zeros vars (b ∷ nest) (p ∷ ps) run =
    let first : p ≡ 0 = omega (arith, run.0.there) in ap (λ (x : ℕ). x ∷ ps) first ∙ ap (λ (xs : List ℕ). 0 ∷ xs) (zeros (suc vars) nest ps run.1)

abbrev cube_tree : Expansion
cube_tree = over 0 (part zero_expansion (part zero_expansion (part zero_expansion (part (number (pos 1)) none))))

cube-legal : IsLegal (whole cube_tree)
cube-legal = whole-legal cube_tree (omega arith, (tt, (tt, (tt, (tt, tt)))), λ e. let same : pos 1 ≡ pos 0 = cc in absurd cc) (omega arith, (tt, (tt, (tt, (tt, tt)))))

cube-is : (total : Quotient) (ps : List ℕ) → ps ≡ 0 ∷ 0 ∷ 0 ∷ [] → IsProduct ps total → total ≡ whole cube_tree
cube-is total ps are = product-is total ps cube_tree cube-legal (λ f. product-value (0 ∷ 0 ∷ 0 ∷ []) f ∙ ap (λ (qs : List ℕ). product_of qs f) (sym are))

-- ---- the term of the whole domain

module _ (trees : List (List SelectionTree)) (q : ℕ) (weights : List ℕ) (term : PartitionTerm) (is : IsWholeTerm one trees q weights term) (two : q ≡ 2) (are : weights ≡ ones) (bound : PartitionBound)
    (valued : IsPartitionValue one term bound) where
  three : length term.nest ≡ 3
  three = ap length is.nest

  count-is : bound.count ≡ whole cube_tree
  count-is =
      right-claims-give-one one term.nest term.count bound.count is.count.total valued.count is.count.right
      ∙ cube-is is.count.total is.count.parameters (zeros 1 term.nest is.count.parameters is.count.run ∙ ap parameters three) is.count.product

  credits-are : bound.credits ≡ no_points
  credits-are = subst (λ (credits : List CreditTerm). IsCreditsTotal 1 no_points credits bound.credits) is.credits valued.credits

  families-are : term.families ≡ array_families one trees 0 sets ones
  families-are = is.families ∙ ap (array_families one trees 0 sets) are

  a-is : bound.a ≡ 2
  a-is = valued.numbers.a ∙ is.a ∙ ap (λ (n : ℕ). stretch_for n (sum weights)) two ∙ ap (λ (ws : List ℕ). stretch_for 2 (sum ws)) are

  b-is : bound.b ≡ 0
  b-is = valued.numbers.b ∙ is.b

  m-is : bound.m ≡ 3
  m-is = valued.numbers.m ∙ ap (λ (families : List FamilyForms). sum_by (λ (family : FamilyForms). family.weight) families) families-are

  num-is : bound.num ≡ 1
  num-is = valued.numbers.num ∙ ap (λ (shape : Shape). factor_over shape term) is.shape
      ∙ ap (λ (families : List FamilyForms). product_by (λ (family : FamilyForms). family.weight ^ family.weight) families) families-are

  labels-are : labels_of (numbers_of bound) 64 ≡ 192 ^ 3
  labels-are =
      ap (λ (n : ℕ). n * (64 + (bound.a * 64 + bound.b)) ^ bound.m) num-is ∙ ap (λ (n : ℕ). 1 * (64 + (n * 64 + bound.b)) ^ bound.m) a-is
      ∙ ap (λ (n : ℕ). 1 * (64 + (2 * 64 + n)) ^ bound.m) b-is ∙ ap (λ (n : ℕ). 1 * (64 + (2 * 64 + 0)) ^ n) m-is

  events-are : events_of (numbers_of bound) 64 ≡ 128
  events-are = ap (λ (n : ℕ). n * 64 + bound.b) a-is ∙ ap (λ (n : ℕ). 2 * 64 + n) b-is

  points-are : count_value (polynomial_of bound.count) sizes ≡ 262144
  points-are = ap (λ (p : Quotient). count_value (polynomial_of p) sizes) count-is

  events-few : events_of (numbers_of bound) 64 * ((count_value (polynomial_of bound.count) sizes - 1) / points_of (numbers_of bound) 64) ≤ 128 * 262143
  events-few =
      let u : ℕ = points_of (numbers_of bound) 64 in
      let less : 262143 / u ≤ 262143 = div-le_self 262143 u in
      let is_so : events_of (numbers_of bound) 64 * ((count_value (polynomial_of bound.count) sizes - 1) / u) ≡ 128 * (262143 / u) =
      ap (λ (e : ℕ). e * ((count_value (polynomial_of bound.count) sizes - 1) / u)) events-are ∙ ap (λ (c : ℕ). 128 * ((c - 1) / u)) points-are in
      omega (arith, less, is_so)

  term-narrow : ¬ IsWidePartition sizes 64 bound
  term-narrow (inl wide) = let heavy = subst (λ (p : Quotient). IsWideAt sizes p) count-is wide in omega (arith, heavy)
  term-narrow (inr (inl wide)) = let heavy = subst (λ (p : Quotient). IsWideAt sizes p) credits-are wide in omega (arith, heavy)
  term-narrow (inr (inr (inl wide))) = let heavy : 2 ^ 127 ≤ 192 ^ 3 = subst (λ (n : ℕ). 2 ^ 127 ≤ n) labels-are wide in omega (arith, heavy)
  term-narrow (inr (inr (inr wide))) = omega (arith, wide, events-few)

  term-few : term_value (bound_term (values.Partition bound)) sizes 64 ≤ 128 * 262143
  term-few = omega (arith, events-few)

-- a branch of this one term
one-value : (vs : List Value) (v : Value) → vs ≡ v ∷ [] → ¬ IsWideTerm sizes 64 v → term_value (bound_term v) sizes 64 ≤ 128 * 262143 → ¬ IsWideBranch sizes 64 vs
one-value vs v is fits few wide = by (subst (IsWideBranch sizes 64) is wide) where
  by : IsWideBranch sizes 64 (v ∷ []) → ⊥
  by (inl (inl heavy)) = fits heavy
  by (inl (inr past)) = past
  by (inr heavy) = omega (arith, heavy, few)

-- ---- the cold terms

two-each : (read : ℕ) → read < 3 → length (read_at one 0 read).subscripts ≡ 2
two-each zero below = refl
two-each (suc zero) below = refl
two-each (suc (suc zero)) below = refl
two-each (suc (suc (suc read))) below = absurd (omega (arith, below))

cold-is : (read : ℕ) (cold : Cold) (count : Quotient) → read < 3 → IsReadCold one read cold → IsCount one cold.nest cold.sums count → count ≡ whole square_tree
cold-is read cold count below h right =
    let outline = h.outline in
    let many : length outline.loops ≡ 2 = sym (ap length outline.are.subscripts ∙ length-map outline.loops (loop_form one)) ∙ two-each read below in
    right-claims-give-one one cold.nest cold.sums count h.total right h.right
    ∙ square-is h.total (parameters_of outline.below outline.loops)
    (ap (λ (bs : List ℕ). parameters_of bs outline.loops) (zeros 1 outline.run.nest outline.below outline.run.run) ∙ two-parameters outline.loops (length outline.run.nest) many) h.product

colds-are : (reads : List ℕ) (colds : List Cold) (vs : List Value) → AllByRecursion (λ (read : ℕ). read < 3) reads → AreColdsOf one reads colds
    → AreValuesOf one (map claim_of_term (map terms.Cold colds)) vs → AreSquares vs × (length vs ≡ length reads)
colds-are [] [] vs below each are = (subst AreSquares (sym are) tt, ap length are)
colds-are [] (cold ∷ colds) vs below each are = absurd each
colds-are (read ∷ reads) [] vs below each are = absurd each
colds-are (read ∷ reads) (cold ∷ colds) [] below each are = absurd are
colds-are (read ∷ reads) (cold ∷ colds) (v ∷ vs) below each are =
    let rest = colds-are reads colds vs below.1 each.1 are.1 in ((own v are.0, rest.0), ap suc rest.1) where
      own : (w : Value) → IsValueOf one (claim_of_term (terms.Cold cold)) w → w ≡ values.Cold (whole square_tree)
      own (values.Cold count) is = ap values.Cold (cold-is read cold count below.0 each.0 is)
      own (values.Partition bound) is = absurd is
      own (values.Wavefront pairs outer) is = absurd is
      own (values.Joint bound) is = absurd is

-- ---- the certificate

pub one-certified : OneProductIsCertified
one-certified certificate all made meets = (is, narrow-all) where
  is : IsCertified one certificate
  is = (made.projective reach).0

  least : (is.q ≡ 2) × (sum is.weights ≡ 3)
  least =
      let most : is.q ≤ 2 = is.cover.least.least 2 ones ones (omega arith) pair in
      let ratio : sum is.weights * 2 ≡ 3 * is.q = one-total sets 3 is.q 2 is.weights is.packing ones ones is.cover.least.is_pair pair in
      let some : 1 ≤ is.q = is.cover.least.positive in
      (omega (arith, most, ratio, some), omega (arith, most, ratio, some))

  weights-are : is.weights ≡ ones
  weights-are =
      let covered : (coordinate : ℕ) → coordinate < 3 → 2 ≤ weight_at sets is.weights coordinate = λ coordinate below.
      subst (λ (n : ℕ). n ≤ weight_at sets is.weights coordinate) least.0 (is.cover.least.is_pair.cover.covered coordinate below) in
      all-ones is.weights is.cover.least.is_pair.cover.one_each least.1 covered

  valued : AreBranchValues one (claim_of_branch is.first ∷ claim_of_branch is.second ∷ []) all
  valued = subst (λ (branches : List Branch). AreBranchValues one (map claim_of_branch branches) all) is.two meets.valued

  first-narrow : (vs : List Value) → AreValuesOf one (map claim_of_term is.first.terms.items) vs → ¬ IsWideBranch sizes 64 vs
  first-narrow vs are = by vs (subst (λ (ts : List Term). AreValuesOf one (map claim_of_term ts) vs) is.whole.one are) where
    by : (us : List Value) → AreValuesOf one (claim_of_term (terms.Partition is.whole.term) ∷ []) us → ¬ IsWideBranch sizes 64 us
    by [] h = absurd h
    by (values.Cold count ∷ rest) h = absurd h.0
    by (values.Wavefront pairs outer ∷ rest) h = absurd h.0
    by (values.Joint bound ∷ rest) h = absurd h.0
    by (values.Partition bound ∷ rest) h =
        let trees = trees_of certificate.quasts in
        let term = partition_of is.whole.term in
        one-value (values.Partition bound ∷ rest) (values.Partition bound) (ap (λ (r : List Value). values.Partition bound ∷ r) h.1)
        (term-narrow trees is.q is.weights term is.whole.whole least.0 weights-are bound h.0) (term-few trees is.q is.weights term is.whole.whole least.0 weights-are bound h.0)

  second-narrow : (vs : List Value) → AreValuesOf one (map claim_of_term is.second.terms.items) vs → ¬ IsWideBranch sizes 64 vs
  second-narrow vs are =
      let its = subst (λ (ts : List Term). AreValuesOf one (map claim_of_term ts) vs) is.colds.all are in
      let squares = colds-are (0 ∷ 1 ∷ 2 ∷ []) is.colds.colds vs (omega arith, (omega arith, (omega arith, tt))) is.colds.arrays its in
      narrow vs squares.0 (omega (arith, squares.1))

  narrow-all : ¬ HasWideBranch sizes 64 all
  narrow-all = by all valued where
    by : (bs : List (List Value)) → AreBranchValues one (claim_of_branch is.first ∷ claim_of_branch is.second ∷ []) bs → ¬ HasWideBranch sizes 64 bs
    by [] h wide = h
    by (vs ∷ []) h wide = h.1
    by (vs ∷ us ∷ rest) h (inl wide) = first-narrow vs h.0 wide
    by (vs ∷ us ∷ rest) h (inr (inl wide)) = second-narrow us h.1.0 wide
    by (vs ∷ us ∷ rest) h (inr (inr wide)) = subst (HasWideBranch sizes 64) h.1.1 wide
