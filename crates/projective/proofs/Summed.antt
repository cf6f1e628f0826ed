-- Sums of products of parameters over variables that run from 0 to below parameters.
use Rattle.std.proofs.Common.{◌≡◌, refl, sym, ◌∙◌, ap, subst, ℕ, zero, suc, ◌+◌, ◌*◌, ◌^◌, ◌<◌, ◌≤◌, max, List, [], ◌∷◌, length, get_or, replicate, Bool, arith, lit<}
use Rattle.std.specs.Prelude.{slice_set, if◌then◌else◌}
use Rattle.std.specs.List.{AllByRecursion}
use Rattle.std.proofs.Math.IntN.{ℤ, pos, negsuc, ◌+ℤ◌, ◌-ℤ◌, ◌*ℤ◌}
use Rattle.std.proofs.lemmas.Int.{ints}
use Rattle.std.proofs.lemmas.Bool.{eq-eqb}
use Rattle.std.proofs.lemmas.List.{get_or_default, length-replicate, length-set}
use Rattle.std.proofs.lemmas.Nat.Gcd.{dvd_antisymm}
use Rattle.std.proofs.Math.Nat.{one-dvd}
use Rattle.base_laws.proofs.Ring.{mul-add, mul-zero, mul-one, mul_comm}
use Rattle.base_laws.proofs.Lists.{All-weaken}
use Rattle.iolb_model.specs.Form.{AffineForm, dot, form_value}
use Rattle.iolb_model.specs.Program.{AffineProgram}
use Rattle.affine_form.specs.Combination.{constant_form}
use Rattle.poly_tree.proofs.AffineLemmas.{degrees-more}
use Rattle.affine_form.specs.Rows.{variable}
use Rattle.affine_form.proofs.Meaning.{form_value-variable}
use Rattle.affine_form.proofs.Combination.{form_value-constant}
use Rattle.poly_tree.specs.Expansion.{Expansion, over, none, part, zero_expansion, value, IsCanonical, DegreesAtMost, at, put, degree_in, sizes, weight}
use Rattle.poly_tree.specs.Poly.{Quotient, IsLegal, form_size, numerator_at, put_size, size}
use Rattle.poly_tree.proofs.SameLemmas.{same-polynomial}
use Rattle.poly_tree.proofs.Unique.{agree, put-same, put-below}
use Rattle.domain_count.specs.Antidifference.{IsAntidifference, IsBetween, IsShifted, IsSubstituted, IsSubtracted, IsSummed, less_one}
use Rattle.domain_count.specs.Count.{IsSumFrom}
use Rattle.projective.specs.Projective.{shifted_variable}
use Rattle.projective.specs.Products.{AreRepeated, IsProduct, IsRepeated, RunBelow, product_of}
use Rattle.projective.proofs.Times.{product_tree, product-canonical, product-degrees, product-nonzero, product-value, product-weight}
use Rattle.iolb_model.specs.declared.limits.TheConstants.{MEASURE, SUM_MEASURE}

-- ---- numbers

-- Horner's rule for a polynomial with two equal coefficients, and with none before the second
repeated : (a x : ℤ) → a +ℤ (x *ℤ (a +ℤ (x *ℤ pos 0))) ≡ a *ℤ (x +ℤ pos 1)
repeated a x =
    ap (λ (z : ℤ). a +ℤ (x *ℤ (a +ℤ z))) (mul-zero x) ∙ ap (λ (z : ℤ). a +ℤ (x *ℤ z)) (nothing a) ∙ total (x *ℤ a) (a *ℤ x) (a *ℤ pos 1) (mul_comm x a) (mul-one a) ∙ sym (mul-add a x (pos 1)) where
      nothing : (y : ℤ) → y +ℤ pos 0 ≡ y
      nothing y = omega (arith, ints)

      total : (m n u : ℤ) → m ≡ n → u ≡ a → a +ℤ m ≡ n +ℤ u
      total m n u p q = omega (arith, ints)

once : (a x : ℤ) → pos 0 +ℤ (x *ℤ (a +ℤ (x *ℤ pos 0))) ≡ a *ℤ x
once a x =
    ap (λ (z : ℤ). pos 0 +ℤ (x *ℤ (a +ℤ z))) (mul-zero x) ∙ ap (λ (z : ℤ). pos 0 +ℤ (x *ℤ z)) (nothing a) ∙ front (x *ℤ a) ∙ mul_comm x a where
      nothing : (y : ℤ) → y +ℤ pos 0 ≡ y
      nothing y = omega (arith, ints)

      front : (y : ℤ) → pos 0 +ℤ y ≡ y
      front y = omega (arith, ints)

-- ---- polynomials over 1

abbrev pub whole : Expansion → Quotient
whole t = record { tree = t; denominator = 1 }

pub whole-legal : (t : Expansion) → IsCanonical (2 ^ 16) t → DegreesAtMost 8 t → IsLegal (whole t)
whole-legal t canonical degrees = record { canonical = canonical; degrees = degrees; positive = omega arith; primitive = λ k divides all. dvd_antisymm divides (one-dvd k) }

-- the sum of a product over the values of a variable from 0 to itself, and the same to one less
abbrev sum_tree : ℕ → Expansion → Expansion
sum_tree v t = over v (part t (part t none))

abbrev shifted_tree : ℕ → Expansion → Expansion
shifted_tree v t = over v (part zero_expansion (part t none))

module _ (v : ℕ) (ps : List ℕ) (inside : v < 2 ^ 16) (below : AllByRecursion (λ (p : ℕ). p < v) ps) (few : length ps ≤ 8) where
  abbrev tree : Expansion
  tree = product_tree ps

  canonical : IsCanonical v tree
  canonical = product-canonical v ps below

  degrees : DegreesAtMost 8 tree
  degrees = degrees-more (length ps) 8 tree few (product-degrees ps)

  pub sum-legal : IsLegal (whole (sum_tree v tree))
  sum-legal = whole-legal (sum_tree v tree) (inside, (canonical, (canonical, tt)), product-nonzero ps) (omega arith, (degrees, (degrees, tt)))

  shifted-legal : IsLegal (whole (shifted_tree v tree))
  shifted-legal = whole-legal (shifted_tree v tree) (inside, (tt, (canonical, tt)), product-nonzero ps) (omega arith, (tt, (degrees, tt)))

  -- its value where the variable has another value
  pub sum-value : (f : ℕ → ℤ) → value (sum_tree v tree) f ≡ value tree f *ℤ (f v +ℤ pos 1)
  sum-value f = repeated (value tree f) (f v)

  put-value : (f : ℕ → ℤ) (x : ℤ) → value (sum_tree v tree) (put f v x) ≡ value tree f *ℤ (x +ℤ pos 1)
  put-value f x =
      sum-value (put f v x) ∙ ap (λ (z : ℤ). value tree (put f v x) *ℤ (z +ℤ pos 1)) (put-same f v x)
      ∙ ap (λ (z : ℤ). z *ℤ (x +ℤ pos 1)) (agree v tree (put f v x) f canonical (put-below f v x))

  degree-one : degree_in v (sum_tree v tree) ≡ 1
  degree-one = ap (λ (b : Bool). if b then 1 else max (degree_in v tree) (max (degree_in v tree) 0)) (eq-eqb v v refl)

  narrow : (heavy limit : ℕ) → max 1 (1 + (1 + 0)) * 1 * heavy ^ 1 < limit → put_size (whole (sum_tree v tree)) v heavy < limit
  narrow heavy limit h =
      subst (λ (d : ℕ). max 1 (weight tree + (weight tree + 0)) * 1 * heavy ^ d < limit) (sym degree-one)
      (subst (λ (w : ℕ). max 1 (w + (w + 0)) * 1 * heavy ^ 1 < limit) (sym (product-weight ps)) h)

  light : size (whole (sum_tree v tree)) ≡ 2
  light = ap (λ (w : ℕ). max 1 (w + (w + 0)) * 1) (product-weight ps)

  -- ---- the backward difference

  times-one : (a b : ℤ) → a ≡ b → a *ℤ pos 1 ≡ b *ℤ pos 1
  times-one a b e = ap (λ (z : ℤ). z *ℤ pos 1) e

  shifts : IsShifted v (whole (sum_tree v tree)) (whole (shifted_tree v tree))
  shifts = record {
    narrow = narrow 2 MEASURE (lit< tt);
    legal = shifted-legal;
    value = λ point. times-one (value (shifted_tree v tree) (at point)) (value (sum_tree v tree) (put (at point) v (at point v -ℤ pos 1)))
        (once (value tree (at point)) (at point v) ∙ ap (λ (z : ℤ). value tree (at point) *ℤ z) (back (at point v)) ∙ sym (put-value (at point) (at point v -ℤ pos 1)));
  } where
    back : (x : ℤ) → x ≡ (x -ℤ pos 1) +ℤ pos 1
    back x = omega (arith, ints)

  one-less : (a b c : ℤ) → b -ℤ c ≡ a → a *ℤ pos 1 ≡ ((b *ℤ pos 1) -ℤ (c *ℤ pos 1)) *ℤ pos 1
  one-less a b c e = ap (λ (z : ℤ). z *ℤ pos 1) (turned (b *ℤ pos 1) (c *ℤ pos 1) (mul-one b) (mul-one c)) where
    turned : (m n : ℤ) → m ≡ b → n ≡ c → a ≡ m -ℤ n
    turned m n p q = omega (arith, ints)

  tree-legal : IsLegal (whole tree)
  tree-legal = whole-legal tree (product-canonical (2 ^ 16) ps (All-weaken (λ (p : ℕ). p < v) (λ (p : ℕ). p < 2 ^ 16) ps (λ p h. omega (arith, h)) below)) degrees

  tree-light : size (whole tree) ≡ 1
  tree-light = ap (λ (w : ℕ). max 1 w * 1) (product-weight ps)

  shifted-light : size (whole (shifted_tree v tree)) ≡ 1
  shifted-light = ap (λ (w : ℕ). max 1 (0 + (w + 0)) * 1) (product-weight ps)

  lessens : IsSubtracted (whole (sum_tree v tree)) (whole (shifted_tree v tree)) (whole tree)
  lessens = record {
    narrow = subst (λ (n : ℕ). n * size (whole (shifted_tree v tree)) < SUM_MEASURE) (sym light) (subst (λ (n : ℕ). 2 * n < SUM_MEASURE) (sym shifted-light) (lit< tt));
    legal = tree-legal;
    value = λ point. one-less (value tree (at point)) (value (sum_tree v tree) (at point)) (value (shifted_tree v tree) (at point))
        (apart (value tree (at point)) (at point v) (value (sum_tree v tree) (at point)) (value (shifted_tree v tree) (at point)) (sum-value (at point)) (once (value tree (at point)) (at point v)));
  } where
    apart : (a x b c : ℤ) → b ≡ a *ℤ (x +ℤ pos 1) → c ≡ a *ℤ x → b -ℤ c ≡ a
    apart a x b c p q = total (a *ℤ x) (a *ℤ pos 1) (p ∙ mul-add a x (pos 1)) q (mul-one a) where
      total : (m u : ℤ) → b ≡ m +ℤ u → c ≡ m → u ≡ a → b -ℤ c ≡ a
      total m u e f g = omega (arith, ints)

  sums-up : IsAntidifference v (whole tree) (whole (sum_tree v tree))
  sums-up = record {
    difference = whole tree;
    backward = record { shifted = whole (shifted_tree v tree); shift = shifts; less = lessens };
    same = λ point. refl;
  }

  -- ---- between the bounds

  module _ (p : ℕ) (lesser : p < v) (few_more : suc (length ps) ≤ 8) where
    product-legal : IsLegal (whole (product_tree (p ∷ ps)))
    product-legal =
        whole-legal (product_tree (p ∷ ps))
        (product-canonical (2 ^ 16) (p ∷ ps) (omega arith, All-weaken (λ (q : ℕ). q < v) (λ (q : ℕ). q < 2 ^ 16) ps (λ q h. omega (arith, h)) below))
        (degrees-more (suc (length ps)) 8 (product_tree (p ∷ ps)) few_more (product-degrees (p ∷ ps)))

    upper-value : (point : List ℤ) → length (shifted_variable v p (negsuc 0)).coefficients ≤ length point → form_value (shifted_variable v p (negsuc 0)) point +ℤ pos 1 ≡ at point p
    upper-value point long =
        less-one (dot (variable v p).coefficients point) (get_or point p (pos 0)) (form_value-variable v p point lesser)
        ∙ get_or_default point p (pos 0) (pos 1) (omega (arith, long, length-set (replicate v (pos 0)) p (pos 1), length-replicate v (pos 0))) where
          less-one : (d z : ℤ) → d +ℤ pos 0 ≡ z → (d +ℤ negsuc 0) +ℤ pos 1 ≡ z
          less-one d z e = omega (arith, ints)

    sizes-zero : (n : ℕ) → sizes (replicate n (pos 0)) ≡ 0
    sizes-zero zero = refl
    sizes-zero (suc n) = omega (arith, sizes-zero n)

    sizes-one : (n q : ℕ) → q < n → sizes (slice_set (replicate n (pos 0)) q (pos 1)) ≡ 1
    sizes-one zero q h = absurd (omega arith)
    sizes-one (suc n) zero h = omega (arith, sizes-zero n)
    sizes-one (suc n) (suc q) h = omega (arith, sizes-one n q (omega arith))

    upper-light : form_size (shifted_variable v p (negsuc 0)) ≡ 2
    upper-light = ap (λ (n : ℕ). max 1 (n + 1)) (sizes-one v p lesser)

    lower-light : form_size (less_one (constant_form v (pos 0))) ≡ 1
    lower-light = ap (λ (n : ℕ). max 1 (n + 1)) (sizes-zero v)

    at-upper : IsSubstituted v (shifted_variable v p (negsuc 0)) (whole (sum_tree v tree)) (whole (product_tree (p ∷ ps)))
    at-upper = record {
      narrow = subst (λ (heavy : ℕ). put_size (whole (sum_tree v tree)) v heavy < MEASURE) (sym upper-light) (narrow 2 MEASURE (lit< tt));
      legal = product-legal;
      value = λ point long. times-one (value (product_tree (p ∷ ps)) (at point)) (value (sum_tree v tree) (put (at point) v (form_value (shifted_variable v p (negsuc 0)) point)))
          (product-value (p ∷ ps) (at point) ∙ ap (λ (z : ℤ). at point p *ℤ z) (sym (product-value ps (at point))) ∙ mul_comm (at point p) (value tree (at point))
          ∙ ap (λ (z : ℤ). value tree (at point) *ℤ z) (sym (upper-value point long)) ∙ sym (put-value (at point) (form_value (shifted_variable v p (negsuc 0)) point)));
    }

    at-lower : IsSubstituted v (less_one (constant_form v (pos 0))) (whole (sum_tree v tree)) (whole zero_expansion)
    at-lower = record {
      narrow = subst (λ (heavy : ℕ). put_size (whole (sum_tree v tree)) v heavy < MEASURE) (sym lower-light) (narrow 1 MEASURE (lit< tt));
      legal = whole-legal zero_expansion tt tt;
      value = λ point long. times-one (pos 0) (value (sum_tree v tree) (put (at point) v (form_value (less_one (constant_form v (pos 0))) point)))
          (sym (mul-zero (value tree (at point))) ∙ ap (λ (z : ℤ). value tree (at point) *ℤ z) (sym (none (form_value (less_one (constant_form v (pos 0))) point) (form_value-constant v (negsuc 0) point)))
          ∙ sym (put-value (at point) (form_value (less_one (constant_form v (pos 0))) point)));
    } where
      none : (z : ℤ) → z ≡ negsuc 0 → z +ℤ pos 1 ≡ pos 0
      none z e = omega (arith, ints)

    between : IsBetween v (constant_form v (pos 0), shifted_variable v p (negsuc 0)) (whole (sum_tree v tree)) (whole (product_tree (p ∷ ps)))
    between = record {
      upper = whole (product_tree (p ∷ ps));
      lower = whole zero_expansion;
      at_upper = at-upper;
      at_lower = at-lower;
      less = record {
        narrow = subst (λ (n : ℕ). n * 1 < SUM_MEASURE) (sym (ap (λ (w : ℕ). max 1 w * 1) (product-weight (p ∷ ps)))) (lit< tt);
        legal = product-legal;
        value = λ point. one-less (value (product_tree (p ∷ ps)) (at point)) (value (product_tree (p ∷ ps)) (at point)) (pos 0) (nothing (value (product_tree (p ∷ ps)) (at point)));
      };
    } where
      nothing : (z : ℤ) → z -ℤ pos 0 ≡ z
      nothing z = omega (arith, ints)

-- ---- a nest

-- what adds up a product is its tree
sum-is : (v : ℕ) (ps : List ℕ) (q : Quotient) → v < 2 ^ 16 → AllByRecursion (λ (p : ℕ). p < v) ps → length ps ≤ 8 → IsLegal q → q.denominator ≡ 1
    → ((point : List ℤ) → numerator_at q point ≡ product_of ps (at point) *ℤ (at point v +ℤ pos 1)) → q ≡ whole (sum_tree v (product_tree ps))
sum-is v ps q inside below few legal is value_of =
    same-polynomial q (whole (sum_tree v (product_tree ps))) legal (sum-legal v ps inside below few)
    (λ point. ap (λ (z : ℤ). z *ℤ pos 1) (value_of point ∙ ap (λ (z : ℤ). z *ℤ (at point v +ℤ pos 1)) (sym (product-value ps (at point))) ∙ sym (sum-value v ps inside below few (at point)))
    ∙ ap (λ (d : ℕ). value (sum_tree v (product_tree ps)) (at point) *ℤ pos d) (sym is))

repeated-is : (v : ℕ) (ps : List ℕ) (q : Quotient) → v < 2 ^ 16 → AllByRecursion (λ (p : ℕ). p < v) ps → length ps ≤ 8 → IsRepeated v ps q → q ≡ whole (sum_tree v (product_tree ps))
repeated-is v ps q inside below few h = sum-is v ps q inside below few h.legal h.whole h.value

-- it uses no variable behind its own
pub sum-uses : (v : ℕ) (ps : List ℕ) (q : Quotient) → v < 2 ^ 16 → AllByRecursion (λ (p : ℕ). p < v) ps → length ps ≤ 8 → IsLegal q → q.denominator ≡ 1
    → ((point : List ℤ) → numerator_at q point ≡ product_of ps (at point) *ℤ (at point v +ℤ pos 1)) → IsCanonical (suc v) q.tree
sum-uses v ps q inside below few legal is value_of =
    subst (λ (r : Quotient). IsCanonical (suc v) r.tree) (sym (sum-is v ps q inside below few legal is value_of))
    (omega arith, (product-canonical v ps below, (product-canonical v ps below, tt)), product-nonzero ps)

-- the parameters are below the variables
pub parameters-below : (program : AffineProgram) (vars v : ℕ) (nest : List (AffineForm × AffineForm)) (ps : List ℕ) → RunBelow program vars nest ps → length program.parameters ≤ v → AllByRecursion (λ (p : ℕ). p < v) ps
parameters-below program vars v [] [] h le = tt
parameters-below program vars v [] (p ∷ ps) h le = absurd h
parameters-below program vars v (b ∷ nest) [] h le = absurd h
parameters-below program vars v (b ∷ nest) (p ∷ ps) h le = (omega (arith, h.0.there), parameters-below program (suc vars) v nest ps h.1 le)

pub summed : (program : AffineProgram) (vars : ℕ) (nest : List (AffineForm × AffineForm)) (ps : List ℕ) (sums : List Quotient) → RunBelow program vars nest ps → AreRepeated vars ps sums
    → length program.parameters ≤ vars → vars + length ps < 2 ^ 16 → length ps ≤ 8 → IsSumFrom vars nest sums (whole (product_tree ps))
summed program vars [] [] [] run are le inside few = refl
summed program vars [] [] (s ∷ sums) run are le inside few = absurd are
summed program vars [] (p ∷ ps) sums run are le inside few = absurd run
summed program vars (b ∷ nest) [] sums run are le inside few = absurd run
summed program vars (b ∷ nest) (p ∷ ps) [] run are le inside few = absurd are
summed program vars (b ∷ nest) (p ∷ ps) (s ∷ sums) run are le inside few =
    let below : AllByRecursion (λ (q : ℕ). q < vars) ps = parameters-below program (suc vars) vars nest ps run.1 le in
    let lesser : p < vars = omega (arith, run.0.there) in
    let room : vars < 2 ^ 16 = omega arith in
    let less : length ps ≤ 8 = omega arith in
    let is : s ≡ whole (sum_tree vars (product_tree ps)) = repeated-is vars ps s room below less are.0 in
    let bounds : b ≡ (constant_form vars (pos 0), shifted_variable vars p (negsuc 0)) = λ i. (run.0.lower i, run.0.upper i) in (
      whole (product_tree ps),
      (
        summed program (suc vars) nest ps sums run.1 are.1 (omega arith) (omega arith) less,
        subst (λ (c : AffineForm × AffineForm). IsSummed vars c (whole (product_tree ps)) s (whole (product_tree (p ∷ ps)))) (sym bounds)
            (subst (λ (q : Quotient). IsSummed vars (constant_form vars (pos 0), shifted_variable vars p (negsuc 0)) (whole (product_tree ps)) q (whole (product_tree (p ∷ ps)))) (sym is)
            (record {
              legal = sum-legal vars ps room below less;
              antidifference = sums-up vars ps room below less;
              between = between vars ps room below less p lesser (omega arith);
            })),
      ),
    )

-- the total is the product
pub product-is : (program : AffineProgram) (vars : ℕ) (nest : List (AffineForm × AffineForm)) (ps : List ℕ) → RunBelow program vars nest ps → length program.parameters ≤ 24 → length ps ≤ 8
    → IsProduct ps (whole (product_tree ps))
product-is program vars nest ps run le few = record {
  legal = whole-legal (product_tree ps) (product-canonical (2 ^ 16) ps (All-weaken (λ (p : ℕ). p < 24) (λ (p : ℕ). p < 2 ^ 16) ps (λ p h. omega (arith, h)) (parameters-below program vars 24 nest ps run le)))
      (degrees-more (length ps) 8 (product_tree ps) few (product-degrees ps));
  whole = refl;
  value = λ point. product-value ps (at point);
}
