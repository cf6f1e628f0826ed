-- What is claimed of the number of points of a nest of named loops: the product of their parameters.
use Rattle.std.proofs.Common.{◌≡◌, refl, sym, ◌∙◌, ap, subst, inl, inr, ℕ, suc, ◌+◌, ◌<◌, ◌≤◌, List, [], ◌∷◌, length, arith, lit<}
use Rattle.std.specs.Prelude.{◌≤ℤ◌, neg_ℤ}
use Rattle.std.specs.List.{AllByRecursion}
use Rattle.std.proofs.Math.IntN.{ℤ, pos, negsuc}
use Rattle.std.proofs.lemmas.Int.{ints}
use Rattle.base_laws.proofs.Lists.{All-append, All-weaken}
use Rattle.iolb_model.specs.Form.{AffineForm}
use Rattle.affine_form.specs.Form.{IsSmall, IsSmallForm}
use Rattle.affine_form.specs.Multipliers.{FarkasMultipliers}
use Rattle.affine_form.specs.Rows.{IsSmallOver, variable}
use Rattle.affine_form.specs.Shown.{row_at}
use Rattle.certificate_fit.specs.Limits.{IsSmallPolynomial}
use Rattle.certificate_fit.specs.PartFit.{sum_at}
use Rattle.claims.specs.Claims.{AllHold, numbered}
use Rattle.claims.specs.declared.place.Step.{Step}
use Rattle.domain_count.specs.Claims.{SumClaims}
use Rattle.domain_count.specs.Count.{IsSumFrom}
use Rattle.find_terms.specs.Counted.{AreCounted}
use Rattle.flow_deps.specs.Answers.{IsAsShort}
use Rattle.flow_deps.specs.declared.wanted.Wanted.TheVariants.{Short}
use Rattle.int_sets.specs.ShortList.{IsShort}
use Rattle.poly_tree.specs.Expansion.{Expansion, IsCanonical, Parts, coefficients, none, number, over, part, parts_coefficients, parts_weight, weight}
use Rattle.projective.specs.Products.{AreAssumed, AreTaken, IsProduct}
use Rattle.projective.specs.Projective.{Assumes, HoldsOfOne}
use Rattle.projective.proofs.Ranges.{ranges-shown}
use Rattle.projective.proofs.Summed.{parameters-below, product-is, whole}
use Rattle.projective.proofs.Times.{product-weight, product_tree}
use Rattle.projective_bounds.proofs.Small.{taken-names}
use Rattle.find_terms.proofs.products.NamedLoops.{NamedLoops, assumed, nest, p, ps, ps-many, runs, size}
use Rattle.find_terms.proofs.products.Summation.{below-next, power-canonical, power-light, power_tree, products-sum, products-summed, sums_below}
use Rattle.iolb_model.specs.declared.limits.TheConstants.{COEFFICIENT_SIZE, MEASURE, MULTIPLIER_SIZE, NUMBER_SIZE, VARIABLES}

-- ---- multipliers that take the row of an assumption

record HasTaken (rows : List AffineForm) (params parameter : ℕ) : Type 0 where
  pub number : ℕ
  pub rest : ℕ
  pub there : number < length rows
  pub row : (row_at rows number).coefficients ≡ (variable params parameter).coefficients
  pub below : (row_at rows number).constant ≡ neg_ℤ (pos rest)
  pub small : rest < MULTIPLIER_SIZE

taken-of : (params parameter : ℕ) (rows : List AffineForm) → AllByRecursion (IsSmallForm NUMBER_SIZE) rows → HoldsOfOne (Assumes params parameter) rows → HasTaken rows params parameter
taken-of params parameter [] small h = absurd h
taken-of params parameter (row ∷ rows) small (inl h) = by row.constant h.1 small.0.1 refl where
  by : (z : ℤ) → z ≤ℤ negsuc 0 → IsSmall NUMBER_SIZE z → row.constant ≡ z → HasTaken (row ∷ rows) params parameter
  by (pos n) under light is = absurd (omega (arith, ints, under))
  by (negsuc n) under light is = record { number = 0; rest = suc n; there = omega arith; row = h.0; below = is; small = omega (arith, light) }
taken-of params parameter (row ∷ rows) small (inr h) =
    let later = taken-of params parameter rows small.1 h in
    record { number = suc later.number; rest = later.rest; there = omega (arith, later.there); row = later.row; below = later.below; small = later.small }

pub record AllTaken (rows : List AffineForm) (params : ℕ) (parameters : List ℕ) : Type 0 where
  pub shown : List FarkasMultipliers
  pub taken : AreTaken rows params parameters shown
  pub short : AllByRecursion (IsAsShort Short) shown
  pub many : length shown ≡ length parameters

module _ (r : NamedLoops) where
  taken-all : (parameters : List ℕ) → AreAssumed r.program parameters → AllTaken r.program.assumptions (p r) parameters
  taken-all [] h = record { shown = []; taken = tt; short = tt; many = refl }
  taken-all (q ∷ parameters) h =
      let rest = taken-all parameters h.1 in
      let here = taken-of (p r) q r.program.assumptions (All-weaken (IsSmallOver (p r)) (IsSmallForm NUMBER_SIZE) r.program.assumptions (λ form g. g.small) r.room.assumed) h.0.1 in
      let m : FarkasMultipliers = record { scale = 1; rest = here.rest; weights = (here.number, 1) ∷ [] } in
      let short : IsShort m = record { scale = refl; rest = here.small; few = omega arith; taken = ((omega arith, omega arith), tt); different = (tt, tt) } in
      record {
        shown = m ∷ rest.shown;
        taken = (record { number = here.number; rest = here.rest; there = here.there; row = here.row; below = here.below; is = refl }, rest.taken);
        short = (short, rest.short);
        many = ap suc rest.many;
      }

  pub all_taken : AllTaken r.program.assumptions (p r) (ps r)
  all_taken = taken-all (ps r) (assumed r)

  -- ---- polynomials

  parameters-less : AllByRecursion (λ (q : ℕ). q < p r) (ps r)
  parameters-less = parameters-below r.program (p r) (p r) (nest r) (ps r) (runs r) (omega arith)

  few : length (ps r) ≤ 6
  few = omega (arith, ps-many r, r.few, r.room.depth)

  room : p r + length (ps r) ≤ 24
  room = omega (arith, few, r.room.parameters)

mutual
  weight-small : (limit : ℕ) (t : Expansion) → weight t < limit → AllByRecursion (IsSmall limit) (coefficients t)
  weight-small limit (number n) h = (h, tt)
  weight-small limit (over v parts) h = parts-small limit parts h

  parts-small : (limit : ℕ) (parts : Parts) → parts_weight parts < limit → AllByRecursion (IsSmall limit) (parts_coefficients parts)
  parts-small limit none h = tt
  parts-small limit (part t parts) h =
      All-append (IsSmall limit) (coefficients t) (parts_coefficients parts) (weight-small limit t (omega (arith, h))) (parts-small limit parts (omega (arith, h)))

sums-many : (v : ℕ) (parameters : List ℕ) → length (sums_below v parameters) ≡ length parameters
sums-many v [] = refl
sums-many v (q ∷ parameters) = ap suc (sums-many (suc v) parameters)

sums-small : (v : ℕ) (parameters : List ℕ) → AllByRecursion (λ (q : ℕ). q < v) parameters → v + length parameters ≤ 24 → length parameters ≤ 8 → AllByRecursion IsSmallPolynomial (sums_below v parameters)
sums-small v [] below room few = tt
sums-small v (q ∷ parameters) below room few =
    let inside : v < 24 = omega (arith, room) in
    let less : length parameters ≤ 8 = omega (arith, few) in (
      record {
        variables = power-canonical v parameters inside below.1 less VARIABLES inside;
        numbers = weight-small COEFFICIENT_SIZE (power_tree v (product_tree parameters)) (subst (λ (n : ℕ). 0 + (n + 0) < COEFFICIENT_SIZE) (sym (product-weight parameters)) (lit< tt));
        over = lit< tt;
        light = subst (λ (n : ℕ). n < MEASURE) (sym (power-light v parameters inside below.1 less)) (lit< tt);
      },
      sums-small (suc v) parameters (below-next v parameters below.1) (omega (arith, room)) less,
    )

sums-hold : (variables index v : ℕ) (place : List Step) (parameters : List ℕ) → suc v ≡ variables + index → AllByRecursion (λ (q : ℕ). q < v) parameters → v + length parameters ≤ 24 → length parameters ≤ 8
    → AllHold (numbered (sum_at variables place) index (sums_below v parameters))
sums-hold variables index v place [] e below room few = tt
sums-hold variables index v place (q ∷ parameters) e below room few =
    let less : length parameters ≤ 8 = omega (arith, few) in (
      subst (λ (n : ℕ). IsCanonical n (power_tree v (product_tree parameters))) e (power-canonical v parameters (omega (arith, room)) below.1 less (suc v) (omega arith)),
      sums-hold variables (suc index) (suc v) place parameters (omega (arith, e)) (below-next v parameters below.1) (omega (arith, room)) less,
    )

module _ (r : NamedLoops) where
  abbrev pub claims : SumClaims
  claims = record { shown = (all_taken r).shown; sums = sums_below (p r) (ps r) }

  pub product-counts : IsProduct (ps r) (whole (product_tree (ps r)))
  product-counts = product-is r.program (p r) (nest r) (ps r) (runs r) (omega (arith, r.room.parameters)) (omega (arith, few r))

  pub product-sums : IsSumFrom (p r) (nest r) (sums_below (p r) (ps r)) (whole (product_tree (ps r)))
  product-sums = products-sum (p r) (ps r) (parameters-less r) (room r) (omega (arith, few r))

  pub nest-counted : AreCounted Short r.program (nest r) claims
  nest-counted = record {
    total = whole (product_tree (ps r));
    right = record {
      shown = ranges-shown r.program (nest r) (ps r) (all_taken r).shown (runs r) (all_taken r).taken;
      sums = product-sums;
    };
    each = (all_taken r).many ∙ ps-many r ∙ sym (size r);
    polynomials = record {
      small = sums-small (p r) (ps r) (parameters-less r) (room r) (omega (arith, few r));
      uses = λ place. (
        sums-many (p r) (ps r) ∙ ps-many r ∙ sym (size r),
        sums-hold (suc (p r)) 0 (p r) place (ps r) (omega arith) (parameters-less r) (room r) (omega (arith, few r)),
      );
    };
    made = (whole (product_tree (ps r)), products-summed (p r) (ps r) (parameters-less r) (room r) (omega (arith, few r)));
    names = taken-names r.program.assumptions (p r) (ps r) (all_taken r).shown r.room.assumptions (all_taken r).taken;
    as_short = (all_taken r).short;
  }
