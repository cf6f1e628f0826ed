-- The factors of a joint term's numbers by the families that the code holds. A product over the numbers of groups is one over all
-- numbers below a limit, since a group without families has weight 0, and 0^0 is 1.
use Rattle.std.proofs.Common.{◌≡◌, refl, sym, ◌∙◌, ap, inl, inr, ℕ, zero, suc, ◌+◌, ◌*◌, ◌^◌, ◌<◌, ◌≤◌, Bool, true, false, cond, List, [], ◌∷◌, length, map, sum_by, arith}
use Rattle.std.specs.Prelude.{◌⊎◌, ◌==◌, filter, nat_eq, not}
use Rattle.std.specs.List.{AllByRecursion, IsDistinct, range_with_len}
use Rattle.std.proofs.lemmas.Bool.{cases_eq, eq-eqb, eqb-true, ne_eqb}
use Rattle.std.proofs.lemmas.List.{length-map}
use Rattle.std.proofs.lemmas.List.Sums.{sum_by-cons}
use Rattle.execution_laws.proofs.Members.{Member, Member-distinct}
use Rattle.iolb_model.specs.Graph.{distinct}
use Rattle.pebble_game.proofs.WellFormed.{All-distinct, IsDistinct-distinct}
use Rattle.k_partition.proofs.TermCovers.{summed}
use Rattle.uniform_cover.specs.Products.{product_by}
use Rattle.uniform_cover.proofs.ProductLemmas.{product_by-map}
use Rattle.joint_partition.specs.declared.term.Joint.{Joint}
use Rattle.joint_partition.specs.declared.term.JointFamily.{JointFamily as Family}
use Rattle.joint_partition.specs.JointLoads.{factor_over, weight_in, weight_of}
use Rattle.joint_partition.specs.JointNumbers.{FitsNumbers, group_weight}
use Rattle.joint_partition.specs.JointWords.{group_numbers}
use Rattle.joint_partition.specs.Term.{JointFamily}
use Rattle.joint_partition.specs.View.{family_of, joint_of, labeling_of}
use Rattle.joint_partition.proofs.Factors.{labelings_power, own_weight, weight_where, joint_weights}

-- ---- a product over some numbers below a limit, where the others give 1

-- 1 at x, and else what another function gives
abbrev without : ℕ → (ℕ → ℕ) → ℕ → ℕ
without x of g = cond (nat_eq x g) 1 (of g)

at-other : (x g : ℕ) (of : ℕ → ℕ) → nat_eq x g ≡ false → without x of g ≡ of g
at-other x g of e = ap (λ (b : Bool). cond b 1 (of g)) e

at-own : (x g : ℕ) (of : ℕ → ℕ) → nat_eq x g ≡ true → without x of g ≡ 1
at-own x g of e = ap (λ (b : Bool). cond b 1 (of g)) e

times : (a b c d : ℕ) → a ≡ b → c ≡ d → a * c ≡ b * d
times a b c d e f = ap (λ (n : ℕ). n * c) e ∙ ap (λ (n : ℕ). b * n) f

-- past a number nothing is taken out
beyond : (x a n : ℕ) (of : ℕ → ℕ) → x < a → product_by (without x of) (range_with_len a n) ≡ product_by of (range_with_len a n)
beyond x a zero of less = refl
beyond x a (suc n) of less =
    times (without x of a) (of a) (product_by (without x of) (range_with_len (a + 1) n)) (product_by of (range_with_len (a + 1) n))
    (at-other x a of (ne_eqb x a (λ e. omega (arith, e, less)))) (beyond x (a + 1) n of (omega (arith, less)))

taken-out : (x a n : ℕ) (of : ℕ → ℕ) → a ≤ x → x < a + n → product_by of (range_with_len a n) ≡ of x * product_by (without x of) (range_with_len a n)
taken-out x a zero of low high = absurd (omega (arith, low, high))
taken-out x a (suc n) of low high = by (cases_eq x a) (taken-out x (a + 1) n of) where
  rest : ℕ
  rest = product_by of (range_with_len (a + 1) n)

  left : ℕ
  left = product_by (without x of) (range_with_len (a + 1) n)

  here : (p q r s : ℕ) → p ≡ 1 → r ≡ s → q * s ≡ q * (p * r)
  here p q r s e f = ap (λ (m : ℕ). q * m) (sym f ∙ one-left r ∙ ap (λ (m : ℕ). m * r) (sym e)) where
    one-left : (m : ℕ) → m ≡ 1 * m
    one-left m = omega arith

  turned : (p q r s t : ℕ) → s ≡ q * t → r ≡ p → p * s ≡ q * (r * t)
  turned p q r s t e f = ap (λ (m : ℕ). p * m) e ∙ exchanged p q t ∙ ap (λ (m : ℕ). q * (m * t)) (sym f) where
    exchanged : (a b c : ℕ) → a * (b * c) ≡ b * (a * c)
    exchanged a b c = omega arith

  by : (x ≡ a) ⊎ (x ≡ a → ⊥) → (a + 1 ≤ x → x < a + 1 + n → rest ≡ of x * left) → of a * rest ≡ of x * (without x of a * left)
  by (inl e) later =
      ap (λ (g : ℕ). of g * rest) (sym e) ∙ here (without x of a) (of x) left rest (at-own x a of (eq-eqb x a e)) (beyond x (a + 1) n of (omega (arith, e)))
  by (inr apart) later =
      turned (of a) (of x) (without x of a) rest left (later (omega (arith, low, ne x a apart low)) (omega (arith, high))) (at-other x a of (ne_eqb x a apart)) where
        ne : (m n : ℕ) → (m ≡ n → ⊥) → n ≤ m → n < m
        ne m n differ le = grind arith

others-stay : (x : ℕ) (of : ℕ → ℕ) (numbers : List ℕ) → AllByRecursion (λ (y : ℕ). nat_eq x y ≡ false) numbers → product_by (without x of) numbers ≡ product_by of numbers
others-stay x of [] apart = refl
others-stay x of (y ∷ numbers) apart =
    times (without x of y) (of y) (product_by (without x of) numbers) (product_by of numbers) (at-other x y of apart.0) (others-stay x of numbers apart.1)

ones : (of : ℕ → ℕ) (a n : ℕ) → ((g : ℕ) → of g ≡ 1) → product_by of (range_with_len a n) ≡ 1
ones of a zero one = refl
ones of a (suc n) one = times (of a) 1 (product_by of (range_with_len (a + 1) n)) 1 (one a) (ones of (a + 1) n one)

over-range : (n : ℕ) (of : ℕ → ℕ) (numbers : List ℕ) → IsDistinct nat_eq numbers → AllByRecursion (λ (g : ℕ). g < n) numbers → ((g : ℕ) → (Member g numbers → ⊥) → of g ≡ 1)
    → product_by of (range_with_len 0 n) ≡ product_by of numbers
unfolding IsDistinct
over-range n of [] differ below one = ones of 0 n (λ g. one g (λ m. m))
over-range n of (x ∷ numbers) differ below one =
    taken-out x 0 n of (omega arith) (omega (arith, below.0))
    ∙ ap (λ (m : ℕ). of x * m) (over-range n (without x of) numbers differ.1 below.1 others ∙ others-stay x of numbers differ.0) where
      others : (g : ℕ) → (Member g numbers → ⊥) → without x of g ≡ 1
      others g none = by (cases_eq x g) where
        by : (x ≡ g) ⊎ (x ≡ g → ⊥) → without x of g ≡ 1
        by (inl e) = at-own x g of (eq-eqb x g e)
        by (inr apart) = at-other x g of (ne_eqb x g apart) ∙ one g here where
          here : Member g (x ∷ numbers) → ⊥
          here (inl e) = apart (sym e)
          here (inr m) = none m

-- ---- the numbers of groups

numbers-below : (families : List JointFamily) → AllByRecursion (λ (f : JointFamily). f.group < 6) families → AllByRecursion (λ (g : ℕ). g < 6) (map (λ (f : JointFamily). f.group) families)
numbers-below [] h = tt
numbers-below (family ∷ families) h = (h.0, numbers-below families h.1)

labels-few : (families : List Family) → AllByRecursion (λ (f : JointFamily). length f.labels ≤ 4) (map family_of families) → AllByRecursion (λ (f : Family). length f.labels.items ≤ 4) families
labels-few [] h = tt
labels-few (family ∷ families) h = (omega (arith, h.0, length-map family.labels.items labeling_of), labels-few families h.1)

-- a number that no family has has no weight
no-weight : (families : List Family) (g : ℕ) → (Member g (map (λ (f : JointFamily). f.group) (map family_of families)) → ⊥) → group_weight families g ≡ 0
no-weight [] g none = refl
no-weight (family ∷ families) g none =
    omega (
      arith,
      sum_by-cons (weight_where g) family families,
      ap (λ (b : Bool). cond b family.weight 0) (ne_eqb family.group g (λ e. none (inl (sym e)))),
      no-weight families g (λ m. none (inr m)),
    )

zero-left : (n : ℕ) → n ≡ 0 + n
zero-left n = omega arith

weight-in-code : (families : List Family) (g : ℕ)
    → sum_by (λ (f : JointFamily). f.weight) (filter (λ (f : JointFamily). f.group == g) (map family_of families)) ≡ group_weight families g
weight-in-code [] g = refl
weight-in-code (family ∷ families) g = by (family.group == g) (weight-in-code families g) ∙ sym (sum_by-cons (weight_where g) family families) where
  rest : List JointFamily
  rest = filter (λ (f : JointFamily). f.group == g) (map family_of families)

  by : (b : Bool) → sum_by (λ (f : JointFamily). f.weight) rest ≡ group_weight families g
      → sum_by (λ (f : JointFamily). f.weight) (cond b (family_of family ∷ rest) rest) ≡ cond b family.weight 0 + group_weight families g
  by true later = sum_by-cons (λ (f : JointFamily). f.weight) (family_of family) rest ∙ ap (λ (n : ℕ). family.weight + n) later
  by false later = later ∙ zero-left (group_weight families g)

-- ---- the factor of a term

module _ (joint : Joint) (fits : FitsNumbers (joint_of joint)) where
  abbrev families : List Family
  families = joint.families.items

  zero-power : (n : ℕ) → n ≡ 0 → n ^ n ≡ 1
  zero-power n e = ap (λ (m : ℕ). m ^ m) e

  same-weights : (numbers : List ℕ) → product_by (λ (number : ℕ). weight_in (joint_of joint) number ^ weight_in (joint_of joint) number) numbers ≡ product_by (own_weight families) numbers
  same-weights numbers = λ i. product_by (λ (number : ℕ). weight-in-code families number i ^ weight-in-code families number i) numbers

  weights-are : product_by (own_weight families) (range_with_len 0 6) ≡ product_by (λ (number : ℕ). weight_in (joint_of joint) number ^ weight_in (joint_of joint) number) (group_numbers (joint_of joint))
  weights-are =
      over-range 6 (own_weight families) (group_numbers (joint_of joint)) (IsDistinct-distinct numbers) (All-distinct (λ (g : ℕ). g < 6) numbers (numbers-below (joint_of joint).families fits.groups))
      (λ g none. zero-power (group_weight families g) (no-weight families g (λ m. none (Member-distinct nat_eq eqb-true g numbers m))))
      ∙ sym (same-weights (group_numbers (joint_of joint))) where
        numbers : List ℕ
        numbers = map (λ (f : JointFamily). f.group) (joint_of joint).families

  labelings-are : product_by labelings_power families ≡ product_by (λ (family : JointFamily). length family.labels ^ family.weight) (joint_of joint).families
  labelings-are = sym (product_by-map (λ (family : JointFamily). length family.labels ^ family.weight) family_of families ∙ same-labelings) where
    same-labelings : product_by (λ (family : Family). length (map labeling_of family.labels.items) ^ family.weight) families ≡ product_by labelings_power families
    same-labelings = λ i. product_by (λ (family : Family). length-map family.labels.items labeling_of i ^ family.weight) families

  pub over-is : product_by labelings_power families * product_by (own_weight families) (range_with_len 0 6) ≡ factor_over (joint_of joint)
  over-is =
      times (product_by labelings_power families) (product_by (λ (family : JointFamily). length family.labels ^ family.weight) (joint_of joint).families)
      (product_by (own_weight families) (range_with_len 0 6))
      (product_by (λ (number : ℕ). weight_in (joint_of joint) number ^ weight_in (joint_of joint) number) (group_numbers (joint_of joint)))
      labelings-are weights-are

  pub weight-is : joint_weights families ≡ weight_of (joint_of joint)
  weight-is = sym (summed (λ (f : JointFamily). f.weight) family_of families)

  pub is-light : joint_weights families ≤ 16
  is-light = omega (arith, weight-is, fits.light)

  pub are-few : AllByRecursion (λ (f : Family). length f.labels.items ≤ 4) families
  are-few = labels-few families fits.labelings
