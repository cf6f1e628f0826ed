-- The summation of a nest whose variables run from 0 to below parameters: the polynomial of a variable is the product of the
-- parameters of those behind it, times the variable.
use Rattle.std.proofs.Common.{◌≡◌, refl, sym, ◌∙◌, ap, subst, ℕ, zero, suc, ◌+◌, ◌*◌, ◌-◌, ◌^◌, ◌<◌, ◌≤◌, max, List, [], ◌∷◌, ◌++◌, length, map, filter, replicate, get_or, cond, Bool, true, false, arith, lit<}
use Rattle.std.specs.Prelude.{slice_set, if◌then◌else◌, ◌==◌}
use Rattle.std.specs.List.{AllByRecursion}
use Rattle.std.proofs.Math.IntN.{ℤ, pos, negsuc, ◌+ℤ◌, ◌-ℤ◌, ◌*ℤ◌}
use Rattle.std.proofs.lemmas.Int.{ints}
use Rattle.std.proofs.lemmas.Bool.{eq-eqb}
use Rattle.std.proofs.lemmas.List.{get_or_default, get_or_past, length-append, length-replicate, length-set, set_past}
use Rattle.base_laws.proofs.Ring.{mul-zero, mul-one, mul_comm, one-mul, sub-mul, zero-mul}
use Rattle.base_laws.proofs.Lists.{All-weaken}
use Rattle.iolb_model.specs.Form.{dot, form_value}
use Rattle.iolb_model.specs.Polynomial.{Term, monomial, terms_value}
use Rattle.affine_form.specs.Combination.{constant_form}
use Rattle.affine_form.specs.Rows.{variable}
use Rattle.affine_form.proofs.Meaning.{form_value-variable}
use Rattle.affine_form.proofs.Combination.{form_value-constant}
use Rattle.poly_tree.specs.Expansion.{DegreesAtMost, Expansion, IsCanonical, at, degree_in, none, number, over, part, put, scaled, sizes, value, weight, zero_expansion}
use Rattle.poly_tree.specs.Poly.{IsLegal, Quotient, put_size, size}
use Rattle.poly_tree.specs.Printed.{expansion_terms, in_print_order, insert_term, is_printed_before, polynomial_of, width, widened_term, written_terms}
use Rattle.poly_tree.proofs.AffineLemmas.{degrees-more}
use Rattle.poly_tree.proofs.Expansions.{IsCanonical-more}
use Rattle.poly_tree.proofs.PrintedLemmas.{Short, short}
use Rattle.poly_tree.proofs.Products.{canonical-scaled, value-scaled, weight-scaled}
use Rattle.poly_tree.proofs.Reduced.{degrees-scaled}
use Rattle.poly_tree.proofs.Unique.{agree, put-same, put-below}
use Rattle.poly_tree.proofs.WrittenTerms.{are-written}
use Rattle.power_sums.proofs.Table.{row_from}
use Rattle.domain_count.specs.Antidifference.{IsAntidifference, IsBetween, IsSubstituted, less_one}
use Rattle.domain_count.specs.Coefficients.{coefficient_terms, degree_of, exponent_of, power_terms, without}
use Rattle.domain_count.specs.Count.{IsSumFrom}
use Rattle.domain_count.specs.Summing.{AreAdded, AreSummed, IsMade, IsPowerRow, IsPowersSum}
use Rattle.projective.specs.Products.{product_of}
use Rattle.projective.specs.Projective.{shifted_variable}
use Rattle.projective.proofs.Summed.{whole, whole-legal}
use Rattle.projective.proofs.Times.{product-canonical, product-degrees, product-nonzero, product-value, product-weight, product_tree}
use Rattle.projective_bounds.specs.Outline.{nest_below}
use Rattle.find_terms.proofs.products.Lowered.{less-value, less_tree, lowered_tree, lowered-canonical, lowered-degrees, lowered-value, lowered-weight}
use Rattle.iolb_model.specs.declared.limits.TheConstants.{MEASURE, SUM_MEASURE, VARIABLES}

-- ---- terms that a variable doesn't stand in

-- exponents of variables below this one alone
abbrev AreBelow : ℕ → List Term → Type 0
AreBelow v terms = AllByRecursion (λ (term : Term). length term.exponents ≤ v) terms

insert-below : (v : ℕ) (t : Term) (ts : List Term) → length t.exponents ≤ v → AreBelow v ts → AreBelow v (insert_term t ts)
insert-below v t [] here h = (here, tt)
insert-below v t (s ∷ ts) here h = by (is_printed_before t s) (insert-below v t ts here h.1) where
  by : (b : Bool) → AreBelow v (insert_term t ts) → AreBelow v (if b then t ∷ (s ∷ ts) else s ∷ insert_term t ts)
  by true rest = (here, h)
  by false rest = (h.0, rest)

ordered-below : (v : ℕ) (ts : List Term) → AreBelow v ts → AreBelow v (in_print_order ts)
ordered-below v [] h = tt
ordered-below v (t ∷ ts) h = insert-below v t (in_print_order ts) h.0 (ordered-below v ts h.1)

width-below : (v : ℕ) (ts : List Term) → AreBelow v ts → width ts ≤ v
width-below v [] h = omega arith
width-below v (t ∷ ts) h = omega (arith, h.0, width-below v ts h.1)

widened-below : (v n : ℕ) (ts : List Term) → n ≤ v → AreBelow v ts → AreBelow v (map (widened_term n) ts)
widened-below v n [] le h = tt
widened-below v n (t ∷ ts) le h =
    (omega (arith, le, h.0, length-append t.exponents (replicate (n - length t.exponents) 0), length-replicate {A = ℕ} (n - length t.exponents) 0), widened-below v n ts le h.1)

written-below : (v : ℕ) (t : Expansion) → IsCanonical v t → AreBelow v (written_terms (whole t))
unfolding Short
written-below v t c =
    let ordered = ordered-below v (expansion_terms t) (short v t c) in
    widened-below v (width (polynomial_of (whole t)).terms) (polynomial_of (whole t)).terms (width-below v (polynomial_of (whole t)).terms ordered) ordered

-- the variable has degree 0 in them, and its coefficient of power 0 is all of them
degree-none : (v : ℕ) (ts : List Term) → AreBelow v ts → degree_of v ts ≡ 0
degree-none v [] h = refl
degree-none v (t ∷ ts) h = let here = get_or_past t.exponents v 0 h.0 in let rest = degree-none v ts h.1 in omega (arith, here, rest)

coefficient-all : (v : ℕ) (ts : List Term) → AreBelow v ts → coefficient_terms v 0 ts ≡ ts
coefficient-all v [] h = refl
coefficient-all v (t ∷ ts) h =
    let rest : List Term = filter (λ (term : Term). exponent_of v term == 0) ts in
    ap (λ (b : Bool). map (without v) (cond b (t ∷ rest) rest)) (eq-eqb (exponent_of v t) 0 (get_or_past t.exponents v 0 h.0))
    ∙ ap (λ (es : List ℕ). record { coefficient = t.coefficient; exponents = es } ∷ coefficient_terms v 0 ts) (set_past t.exponents v 0 h.0)
    ∙ ap (λ (us : List Term). t ∷ us) (coefficient-all v ts h.1)

-- ---- a variable, as the sum of 1 up to it

abbrev pub power_tree : ℕ → Expansion → Expansion
power_tree v t = over v (part zero_expansion (part t none))

times-one : (a b : ℤ) → a ≡ b → a *ℤ pos 1 ≡ b *ℤ pos 1
times-one a b e = ap (λ (z : ℤ). z *ℤ pos 1) e

power-value : (v : ℕ) (t : Expansion) (f : ℕ → ℤ) → value (power_tree v t) f ≡ f v *ℤ value t f
power-value v t f = front (f v *ℤ (value t f +ℤ (f v *ℤ pos 0))) ∙ ap (λ (z : ℤ). f v *ℤ z) (last (value t f) (f v *ℤ pos 0) (mul-zero (f v))) where
  front : (z : ℤ) → pos 0 +ℤ z ≡ z
  front z = omega (arith, ints)

  last : (y z : ℤ) → z ≡ pos 0 → y +ℤ z ≡ y
  last y z e = omega (arith, ints)

unit-monomial : (v : ℕ) (point : List ℤ) → monomial (replicate v 0 ++ 1 ∷ []) point ≡ at point v
unit-monomial zero [] = refl
unit-monomial zero (x ∷ point) = mul-one (x *ℤ pos 1) ∙ mul-one x
unit-monomial (suc v) [] = refl
unit-monomial (suc v) (x ∷ point) = one-mul (monomial (replicate v 0 ++ 1 ∷ []) point) ∙ unit-monomial v point

row : (v : ℕ) → v < 24 → IsPowerRow v 0 (whole (power_tree v (number (pos 1))))
row v few = record {
  in_table = lit< tt;
  num = pos 0 ∷ pos 1 ∷ [];
  den = pos 1;
  sum = row_from 0 (pos 0 ∷ pos 1 ∷ []) (pos 1) refl;
  made = record {
    narrow = lit< tt;
    legal = whole-legal (power_tree v (number (pos 1))) (omega (arith, few), (tt, (tt, tt)), λ e. let same : pos 1 ≡ pos 0 = cc in absurd cc) (omega arith, (tt, (tt, tt)));
    value = λ point. times-one (value (power_tree v (number (pos 1))) (at point)) (terms_value (power_terms v 0 (pos 0 ∷ pos 1 ∷ [])) point)
        (power-value v (number (pos 1)) (at point) ∙ mul-one (at point v) ∙ sym (terms (monomial (replicate v 0 ++ 0 ∷ []) point) (monomial (replicate v 0 ++ 1 ∷ []) point) (at point v) (unit-monomial v point)));
  };
} where
  terms : (m n x : ℤ) → n ≡ x → (pos 0 *ℤ m) +ℤ ((pos 1 *ℤ n) +ℤ pos 0) ≡ x
  terms m n x e = ap (λ (z : ℤ). z +ℤ ((pos 1 *ℤ n) +ℤ pos 0)) (zero-mul m) ∙ ap (λ (z : ℤ). pos 0 +ℤ (z +ℤ pos 0)) (one-mul n ∙ e) ∙ all x where
    all : (z : ℤ) → pos 0 +ℤ (z +ℤ pos 0) ≡ z
    all z = omega (arith, ints)

-- ---- one variable

module _ (v : ℕ) (ps : List ℕ) (inside : v < 24) (below : AllByRecursion (λ (p : ℕ). p < v) ps) (few : length ps ≤ 8) where
  abbrev tree : Expansion
  tree = product_tree ps

  canonical : IsCanonical v tree
  canonical = product-canonical v ps below

  degrees : DegreesAtMost 8 tree
  degrees = degrees-more (length ps) 8 tree few (product-degrees ps)

  minus-canonical : (bound : ℕ) → v ≤ bound → IsCanonical bound (scaled (negsuc 0) tree)
  minus-canonical bound le = canonical-scaled bound (negsuc 0) tree (λ e. let same : negsuc 0 ≡ pos 0 = e in cc) (IsCanonical-more v bound tree le canonical)

  tree-legal : IsLegal (whole tree)
  tree-legal = whole-legal tree (IsCanonical-more v (2 ^ 16) tree (omega arith) canonical) degrees

  pub power-canonical : (bound : ℕ) → v < bound → IsCanonical bound (power_tree v tree)
  power-canonical bound room = (room, (tt, (canonical, tt)), product-nonzero ps)

  pub power-legal : IsLegal (whole (power_tree v tree))
  power-legal = whole-legal (power_tree v tree) (power-canonical (2 ^ 16) (omega arith)) (omega arith, (tt, (degrees, tt)))

  less-legal : IsLegal (whole (less_tree v tree))
  less-legal = whole-legal (less_tree v tree) (omega arith, (minus-canonical v (omega arith), (canonical, tt)), product-nonzero ps) (omega arith, (degrees-scaled 8 (negsuc 0) tree degrees, (degrees, tt)))

  minus-legal : IsLegal (whole (scaled (negsuc 0) tree))
  minus-legal = whole-legal (scaled (negsuc 0) tree) (minus-canonical (2 ^ 16) (omega arith)) (degrees-scaled 8 (negsuc 0) tree degrees)

  tree-light : size (whole tree) ≡ 1
  tree-light = ap (λ (w : ℕ). max 1 w * 1) (product-weight ps)

  pub power-light : size (whole (power_tree v tree)) ≡ 1
  power-light = ap (λ (w : ℕ). max 1 (0 + (w + 0)) * 1) (product-weight ps)

  less-light : size (whole (less_tree v tree)) ≡ 2
  less-light = ap (λ (w : ℕ). max 1 (w + (weight tree + 0)) * 1) (weight-scaled (negsuc 0) tree) ∙ ap (λ (w : ℕ). max 1 ((1 * w) + (w + 0)) * 1) (product-weight ps)

  minus-light : size (whole (scaled (negsuc 0) tree)) ≡ 1
  minus-light = ap (λ (w : ℕ). max 1 w * 1) (weight-scaled (negsuc 0) tree) ∙ ap (λ (w : ℕ). max 1 (1 * w) * 1) (product-weight ps)

  -- where the variable has another value
  put-power : (f : ℕ → ℤ) (x : ℤ) → value (power_tree v tree) (put f v x) ≡ x *ℤ value tree f
  put-power f x =
      power-value v tree (put f v x) ∙ ap (λ (z : ℤ). z *ℤ value tree (put f v x)) (put-same f v x) ∙ ap (λ (z : ℤ). x *ℤ z) (agree v tree (put f v x) f canonical (put-below f v x))

  narrow : (heavy limit : ℕ) → max 1 (0 + (1 + 0)) * 1 * heavy ^ 1 < limit → put_size (whole (power_tree v tree)) v heavy < limit
  narrow heavy limit h =
      subst (λ (d : ℕ). max 1 (0 + (weight tree + 0)) * 1 * heavy ^ d < limit) (sym degree-one)
      (subst (λ (w : ℕ). max 1 (0 + (w + 0)) * 1 * heavy ^ 1 < limit) (sym (product-weight ps)) h) where
        degree-one : degree_in v (power_tree v tree) ≡ 1
        degree-one = ap (λ (b : Bool). if b then 1 else max 0 (max (degree_in v tree) 0)) (eq-eqb v v refl)

  -- it is the sum of powers
  pub powers : IsPowersSum v (whole tree) (whole (power_tree v tree))
  powers = record {
    few_variables = IsCanonical-more v VARIABLES tree (omega arith) canonical;
    parts = subst (λ (d : ℕ). AreAdded v (written_terms (whole tree)) 1 (d + 1) (whole (power_tree v tree))) (sym (degree-none v (written_terms (whole tree)) (written-below v tree canonical))) (
      whole zero_expansion,
      whole (power_tree v tree),
      (
        record { form = record { whole = refl; same = λ point long. refl }; legal = whole-legal zero_expansion tt tt },
        record {
          coefficient = whole tree;
          row = whole (power_tree v (number (pos 1)));
          is_coefficient = subst (λ (terms : List Term). IsMade terms 1 (whole tree)) (sym (coefficient-all v (written_terms (whole tree)) (written-below v tree canonical))) made;
          is_row = row v inside;
          product = record {
            narrow = subst (λ (n : ℕ). n * 1 < MEASURE) (sym tree-light) (lit< tt);
            legal = power-legal;
            value = λ point. times-one (value (power_tree v tree) (at point)) (value tree (at point) *ℤ value (power_tree v (number (pos 1))) (at point))
                (power-value v tree (at point) ∙ mul_comm (at point v) (value tree (at point)) ∙ ap (λ (z : ℤ). value tree (at point) *ℤ z) (sym (power-value v (number (pos 1)) (at point) ∙ mul-one (at point v))));
          };
        },
        record {
          narrow = subst (λ (n : ℕ). 1 * n < SUM_MEASURE) (sym power-light) (lit< tt);
          legal = power-legal;
          value = λ point. sum-none (value (power_tree v tree) (at point));
        },
      ),
    );
  } where
    made : IsMade (written_terms (whole tree)) 1 (whole tree)
    made = record {
      narrow = subst (λ (n : ℕ). n < MEASURE) (sym ((are-written (whole tree) tree-legal).light ∙ tree-light)) (lit< tt);
      legal = tree-legal;
      value = λ point. times-one (value tree (at point)) (terms_value (written_terms (whole tree)) point) (sym ((are-written (whole tree) tree-legal).value point));
    }

    sum-none : (n : ℤ) → n *ℤ pos 1 ≡ ((pos 0 *ℤ pos 1) +ℤ (n *ℤ pos 1)) *ℤ pos 1
    sum-none n = omega (arith, ints)

  -- ---- the backward difference

  one-less : (a b c : ℤ) → b -ℤ c ≡ a → a *ℤ pos 1 ≡ ((b *ℤ pos 1) -ℤ (c *ℤ pos 1)) *ℤ pos 1
  one-less a b c e = omega (arith, ints)

  pub sums-up : IsAntidifference v (whole tree) (whole (power_tree v tree))
  sums-up = record {
    difference = whole tree;
    backward = record {
      shifted = whole (less_tree v tree);
      shift = record {
        narrow = narrow 2 MEASURE (lit< tt);
        legal = less-legal;
        value = λ point. times-one (value (less_tree v tree) (at point)) (value (power_tree v tree) (put (at point) v (at point v -ℤ pos 1)))
            (less-value v tree (at point) ∙ sym (put-power (at point) (at point v -ℤ pos 1)));
      };
      less = record {
        narrow = subst (λ (n : ℕ). n * size (whole (less_tree v tree)) < SUM_MEASURE) (sym power-light) (subst (λ (n : ℕ). 1 * n < SUM_MEASURE) (sym less-light) (lit< tt));
        legal = tree-legal;
        value = λ point. one-less (value tree (at point)) (value (power_tree v tree) (at point)) (value (less_tree v tree) (at point)) (apart (at point));
      };
    };
    same = λ point. refl;
  } where
    apart : (f : ℕ → ℤ) → value (power_tree v tree) f -ℤ value (less_tree v tree) f ≡ value tree f
    apart f =
        total (value (power_tree v tree) f) (value (less_tree v tree) f) (f v *ℤ value tree f) (pos 1 *ℤ value tree f) (value tree f) (power-value v tree f)
        (less-value v tree f ∙ sub-mul (f v) (pos 1) (value tree f)) (one-mul (value tree f)) where
          total : (b c m u a : ℤ) → b ≡ m → c ≡ m -ℤ u → u ≡ a → b -ℤ c ≡ a
          total b c m u a e g h = omega (arith, ints)

  -- ---- between the bounds

  module _ (p : ℕ) (lesser : p < v) (few_more : suc (length ps) ≤ 8) where
    lowered-legal : IsLegal (whole (lowered_tree p ps))
    lowered-legal = whole-legal (lowered_tree p ps) (IsCanonical-more v (2 ^ 16) (lowered_tree p ps) (omega arith) (lowered-canonical p v ps below lesser)) (lowered-degrees p v ps below lesser 8 few_more)

    product-legal : IsLegal (whole (product_tree (p ∷ ps)))
    product-legal =
        whole-legal (product_tree (p ∷ ps)) (IsCanonical-more v (2 ^ 16) (product_tree (p ∷ ps)) (omega arith) (product-canonical v (p ∷ ps) (lesser, below)))
        (degrees-more (suc (length ps)) 8 (product_tree (p ∷ ps)) few_more (product-degrees (p ∷ ps)))

    upper-value : (point : List ℤ) → length (shifted_variable v p (negsuc 0)).coefficients ≤ length point → form_value (shifted_variable v p (negsuc 0)) point ≡ at point p -ℤ pos 1
    upper-value point long =
        one (dot (variable v p).coefficients point) (get_or point p (pos 0)) (at point p) (form_value-variable v p point lesser)
        (get_or_default point p (pos 0) (pos 1) (omega (arith, long, length-set (replicate v (pos 0)) p (pos 1), length-replicate v (pos 0)))) where
          one : (d z a : ℤ) → d +ℤ pos 0 ≡ z → z ≡ a → d +ℤ negsuc 0 ≡ a -ℤ pos 1
          one d z a e g = omega (arith, ints)

    sizes-zero : (n : ℕ) → sizes (replicate n (pos 0)) ≡ 0
    sizes-zero zero = refl
    sizes-zero (suc n) = omega (arith, sizes-zero n)

    sizes-one : (n q : ℕ) → q < n → sizes (slice_set (replicate n (pos 0)) q (pos 1)) ≡ 1
    sizes-one zero q h = absurd (omega arith)
    sizes-one (suc n) zero h = omega (arith, sizes-zero n)
    sizes-one (suc n) (suc q) h = omega (arith, sizes-one n q (omega arith))

    at-upper : IsSubstituted v (shifted_variable v p (negsuc 0)) (whole (power_tree v tree)) (whole (lowered_tree p ps))
    at-upper = record {
      narrow = subst (λ (heavy : ℕ). put_size (whole (power_tree v tree)) v heavy < MEASURE) (sym (ap (λ (n : ℕ). max 1 (n + 1)) (sizes-one v p lesser))) (narrow 2 MEASURE (lit< tt));
      legal = lowered-legal;
      value = λ point long. times-one (value (lowered_tree p ps) (at point)) (value (power_tree v tree) (put (at point) v (form_value (shifted_variable v p (negsuc 0)) point)))
          (lowered-value p v ps below lesser (at point) ∙ ap (λ (z : ℤ). (at point p -ℤ pos 1) *ℤ z) (sym (product-value ps (at point)))
          ∙ ap (λ (z : ℤ). z *ℤ value tree (at point)) (sym (upper-value point long)) ∙ sym (put-power (at point) (form_value (shifted_variable v p (negsuc 0)) point)));
    }

    at-lower : IsSubstituted v (less_one (constant_form v (pos 0))) (whole (power_tree v tree)) (whole (scaled (negsuc 0) tree))
    at-lower = record {
      narrow = subst (λ (heavy : ℕ). put_size (whole (power_tree v tree)) v heavy < MEASURE) (sym (ap (λ (n : ℕ). max 1 (n + 1)) (sizes-zero v))) (narrow 1 MEASURE (lit< tt));
      legal = minus-legal;
      value = λ point long. times-one (value (scaled (negsuc 0) tree) (at point)) (value (power_tree v tree) (put (at point) v (form_value (less_one (constant_form v (pos 0))) point)))
          (value-scaled (negsuc 0) tree (at point) ∙ ap (λ (z : ℤ). z *ℤ value tree (at point)) (sym (form_value-constant v (negsuc 0) point))
          ∙ sym (put-power (at point) (form_value (less_one (constant_form v (pos 0))) point)));
    }

    pub between : IsBetween v (constant_form v (pos 0), shifted_variable v p (negsuc 0)) (whole (power_tree v tree)) (whole (product_tree (p ∷ ps)))
    between = record {
      upper = whole (lowered_tree p ps);
      lower = whole (scaled (negsuc 0) tree);
      at_upper = at-upper;
      at_lower = at-lower;
      less = record {
        narrow = subst (λ (n : ℕ). n * size (whole (scaled (negsuc 0) tree)) < SUM_MEASURE) (sym (ap (λ (w : ℕ). max 1 w * 1) (lowered-weight p v ps below lesser)))
            (subst (λ (n : ℕ). 2 * n < SUM_MEASURE) (sym minus-light) (lit< tt));
        legal = product-legal;
        value = λ point. one-less (value (product_tree (p ∷ ps)) (at point)) (value (lowered_tree p ps) (at point)) (value (scaled (negsuc 0) tree) (at point)) (apart (at point));
      };
    } where
      apart : (f : ℕ → ℤ) → value (lowered_tree p ps) f -ℤ value (scaled (negsuc 0) tree) f ≡ value (product_tree (p ∷ ps)) f
      apart f =
          total (value (lowered_tree p ps) f) (value (scaled (negsuc 0) tree) f) (value (product_tree (p ∷ ps)) f) (f p *ℤ product_of ps f) (pos 1 *ℤ product_of ps f) (product_of ps f)
          (lowered-value p v ps below lesser f ∙ sub-mul (f p) (pos 1) (product_of ps f)) (value-scaled (negsuc 0) tree f ∙ ap (λ (z : ℤ). negsuc 0 *ℤ z) (product-value ps f) ∙ minus (product_of ps f))
          (product-value (p ∷ ps) f) (one-mul (product_of ps f)) where
            minus : (a : ℤ) → negsuc 0 *ℤ a ≡ pos 0 -ℤ a
            minus a = mul_comm (negsuc 0) a ∙ back a where
              back : (b : ℤ) → b *ℤ negsuc 0 ≡ pos 0 -ℤ b
              back b = omega (arith, ints)

            total : (u l t m one a : ℤ) → u ≡ m -ℤ one → l ≡ pos 0 -ℤ a → t ≡ m → one ≡ a → u -ℤ l ≡ t
            total u l t m one a e g h k = omega (arith, ints)

-- ---- a nest

-- the polynomials of its variables, from one on
abbrev pub sums_below : ℕ → List ℕ → List Quotient
sums_below v [] = []
sums_below v (p ∷ ps) = whole (power_tree v (product_tree ps)) ∷ sums_below (suc v) ps

pub below-next : (v : ℕ) (ps : List ℕ) → AllByRecursion (λ (p : ℕ). p < v) ps → AllByRecursion (λ (p : ℕ). p < suc v) ps
below-next v ps below = All-weaken (λ (p : ℕ). p < v) (λ (p : ℕ). p < suc v) ps (λ p h. omega (arith, h)) below

-- are those of the summation
pub products-summed : (v : ℕ) (ps : List ℕ) → AllByRecursion (λ (p : ℕ). p < v) ps → v + length ps ≤ 24 → length ps ≤ 8
    → AreSummed v (nest_below v ps) (sums_below v ps) (whole (product_tree ps))
products-summed v [] below room few = (refl, record { form = record { whole = refl; same = λ point long. refl }; legal = whole-legal (number (pos 1)) tt tt })
products-summed v (p ∷ ps) below room few =
    let less : length ps ≤ 8 = omega (arith, few) in
    let inside : v < 24 = omega (arith, room) in (
      whole (product_tree ps),
      (products-summed (suc v) ps (below-next v ps below.1) (omega (arith, room)) less, powers v ps inside below.1 less, between v ps inside below.1 less p below.0 few),
    )

-- and the product of the parameters is their sum
pub products-sum : (v : ℕ) (ps : List ℕ) → AllByRecursion (λ (p : ℕ). p < v) ps → v + length ps ≤ 24 → length ps ≤ 8
    → IsSumFrom v (nest_below v ps) (sums_below v ps) (whole (product_tree ps))
products-sum v [] below room few = refl
products-sum v (p ∷ ps) below room few =
    let less : length ps ≤ 8 = omega (arith, few) in
    let inside : v < 24 = omega (arith, room) in (
      whole (product_tree ps),
      (
        products-sum (suc v) ps (below-next v ps below.1) (omega (arith, room)) less,
        record { legal = power-legal v ps inside below.1 less; antidifference = sums-up v ps inside below.1 less; between = between v ps inside below.1 less p below.0 few },
      ),
    )
