-- Values of coefficients and of sums of powers at a point, and at the point with a variable's value less 1.
use Rattle.std.proofs.Common.{◌≡◌, ◌≢◌, refl, sym, ◌∙◌, ap, ℕ, zero, suc, ◌<◌, ◌≤◌, List, [], ◌∷◌, ◌++◌, length, get_or, replicate, arith, Bool, true, false, cond, inl, inr}
use Rattle.std.specs.Prelude.{◌==◌, slice_set, filter, map}
use Rattle.std.proofs.Math.IntN.{ℤ, pos, ◌+ℤ◌, ◌*ℤ◌}
use Rattle.std.proofs.lemmas.Int.{ints}
use Rattle.std.proofs.lemmas.Bool.{cases_order}
use Rattle.std.proofs.lemmas.Bool.Decides.{eqb_tells}
use Rattle.std.proofs.lemmas.List.{get_or-set_same, get_or-set_other}
use Rattle.base_laws.proofs.Ring.{add-mul, mul-add, mul-one, mul-zero, mul_assoc_ℤ, mul_comm, one-mul, zero-mul, mul-swap}
use Rattle.iolb_model.specs.Polynomial.{Term, int_power, monomial, terms_value}
use Rattle.poly_tree.specs.Expansion.{at, put}
use Rattle.power_sums.specs.Polynomial.{value as row_value}
use Rattle.domain_count.specs.Coefficients.{coefficient_terms, degree_of, exponent_of, power_terms, without}

-- a point with another value of a variable that it has
pub at-set : (p : List ℤ) (v : ℕ) (y : ℤ) → v < length p → at (slice_set p v y) ≡ put (at p) v y
unfolding put
at-set p v y below = λ i w. each w i where
  each : (w : ℕ) → at (slice_set p v y) w ≡ cond (w == v) y (at p w)
  each w = elim (eqb_tells w v) [
    | inl same ↦ ap (at (slice_set p v y)) same.1 ∙ get_or-set_same p v y (pos 1) below ∙ sym (ap (λ (b : Bool). cond b y (at p w)) same.0)
    | inr other ↦ get_or-set_other p v w y (pos 1) other.1 ∙ sym (ap (λ (b : Bool). cond b y (at p w)) other.0)
  ]

-- a product of powers without a variable doesn't depend on it
monomial-without : (es : List ℕ) (p : List ℤ) (v : ℕ) (z : ℤ) → monomial (slice_set es v 0) (slice_set p v z) ≡ monomial (slice_set es v 0) p
monomial-without [] p v z = refl
monomial-without (e ∷ es) [] zero z = refl
monomial-without (e ∷ es) [] (suc v) z = refl
monomial-without (e ∷ es) (x ∷ p) zero z = refl
monomial-without (e ∷ es) (x ∷ p) (suc v) z = ap (λ (m : ℤ). int_power x e *ℤ m) (monomial-without es p v z)

-- a variable's power, and the rest
monomial-split : (es : List ℕ) (p : List ℤ) (v : ℕ) → v < length p → monomial es p ≡ int_power (at p v) (get_or es v 0) *ℤ monomial (slice_set es v 0) p
monomial-split [] p v below = sym (one-mul (pos 1))
monomial-split (e ∷ es) [] v below = absurd (omega arith)
monomial-split (e ∷ es) (x ∷ p) zero below = ap (λ (z : ℤ). int_power x e *ℤ z) (sym (one-mul (monomial es p)))
monomial-split (e ∷ es) (x ∷ p) (suc v) below =
    ap (λ (z : ℤ). int_power x e *ℤ z) (monomial-split es p v (omega arith)) ∙ mul-swap (int_power x e) (int_power (at p v) (get_or es v 0)) (monomial (slice_set es v 0) p)

-- the coefficient of a variable's power at a point
abbrev pub coefficient_at : ℕ → ℕ → List Term → List ℤ → ℤ
coefficient_at v e terms p = terms_value (coefficient_terms v e terms) p

abbrev term_at : ℕ → Term → List ℤ → ℤ
term_at v t p = t.coefficient *ℤ monomial (slice_set t.exponents v 0) p

kept-value : (b : Bool) (v : ℕ) (t : Term) (ts : List Term) (p : List ℤ)
    → terms_value (map (without v) (cond b (t ∷ ts) ts)) p ≡ cond b (term_at v t p) (pos 0) +ℤ terms_value (map (without v) ts) p
kept-value true v t ts p = refl
kept-value false v t ts p = omega (arith, ints)

coefficient-cons : (v e : ℕ) (t : Term) (ts : List Term) (p : List ℤ)
    → coefficient_at v e (t ∷ ts) p ≡ cond (exponent_of v t == e) (term_at v t p) (pos 0) +ℤ coefficient_at v e ts p
coefficient-cons v e t ts p = kept-value (exponent_of v t == e) v t (filter (λ term. exponent_of v term == e) ts) p

-- it doesn't depend on the variable
pub coefficient-same : (v e : ℕ) (ts : List Term) (p : List ℤ) (z : ℤ) → coefficient_at v e ts (slice_set p v z) ≡ coefficient_at v e ts p
coefficient-same v e [] p z = refl
coefficient-same v e (t ∷ ts) p z =
    coefficient-cons v e t ts (slice_set p v z)
    ∙ ap (λ (m : ℤ). cond (exponent_of v t == e) (t.coefficient *ℤ m) (pos 0) +ℤ coefficient_at v e ts (slice_set p v z)) (monomial-without t.exponents p v z)
    ∙ ap (λ (c : ℤ). cond (exponent_of v t == e) (term_at v t p) (pos 0) +ℤ c) (coefficient-same v e ts p z)
    ∙ sym (coefficient-cons v e t ts p)

-- the coefficients, each times its power, up to a power
abbrev pub parts_sum : ℕ → List Term → List ℤ → ℕ → ℤ
parts_sum v terms p zero = pos 0
parts_sum v terms p (suc e) = parts_sum v terms p e +ℤ (coefficient_at v e terms p *ℤ int_power (at p v) e)

no-terms : (v : ℕ) (p : List ℤ) (n : ℕ) → parts_sum v [] p n ≡ pos 0
no-terms v p zero = refl
no-terms v p (suc e) =
    let before : parts_sum v [] p e ≡ pos 0 = no-terms v p e in
    let here : pos 0 *ℤ int_power (at p v) e ≡ pos 0 = zero-mul (int_power (at p v) e) in
    omega (arith, ints)

-- a term of another power doesn't count
other-power : (v e : ℕ) (t : Term) (ts : List Term) (p : List ℤ) → exponent_of v t ≢ e → coefficient_at v e (t ∷ ts) p ≡ coefficient_at v e ts p
other-power v e t ts p apart = elim (eqb_tells (exponent_of v t) e) [
  | inl same ↦ absurd (apart same.1)
  | inr other ↦
      let cons : coefficient_at v e (t ∷ ts) p ≡ pos 0 +ℤ coefficient_at v e ts p
      = coefficient-cons v e t ts p ∙ ap (λ (b : Bool). cond b (term_at v t p) (pos 0) +ℤ coefficient_at v e ts p) other.0 in
      omega (arith, ints)
]

-- one of this power counts
this-power : (v e : ℕ) (t : Term) (ts : List Term) (p : List ℤ) → exponent_of v t ≡ e → coefficient_at v e (t ∷ ts) p ≡ term_at v t p +ℤ coefficient_at v e ts p
this-power v e t ts p is = elim (eqb_tells (exponent_of v t) e) [
  | inl same ↦ coefficient-cons v e t ts p ∙ ap (λ (b : Bool). cond b (term_at v t p) (pos 0) +ℤ coefficient_at v e ts p) same.0
  | inr other ↦ absurd (other.1 is)
]

past-power : (v : ℕ) (t : Term) (ts : List Term) (p : List ℤ) (n : ℕ) → n ≤ exponent_of v t → parts_sum v (t ∷ ts) p n ≡ parts_sum v ts p n
past-power v t ts p zero le = refl
past-power v t ts p (suc e) le =
    ap (λ (z : ℤ). z +ℤ (coefficient_at v e (t ∷ ts) p *ℤ int_power (at p v) e)) (past-power v t ts p e (omega arith))
    ∙ ap (λ (z : ℤ). parts_sum v ts p e +ℤ (z *ℤ int_power (at p v) e)) (other-power v e t ts p (λ same. omega (arith, same)))

-- a term, by its coefficient's part
term-split : (v : ℕ) (t : Term) (p : List ℤ) → v < length p → term_at v t p *ℤ int_power (at p v) (exponent_of v t) ≡ t.coefficient *ℤ monomial t.exponents p
term-split v t p below =
    mul_assoc_ℤ t.coefficient (monomial (slice_set t.exponents v 0) p) (int_power (at p v) (exponent_of v t))
    ∙ ap (λ (z : ℤ). t.coefficient *ℤ z) (mul_comm (monomial (slice_set t.exponents v 0) p) (int_power (at p v) (exponent_of v t)) ∙ sym (monomial-split t.exponents p v below))

within-power : (v : ℕ) (t : Term) (ts : List Term) (p : List ℤ) (n : ℕ) → v < length p → exponent_of v t < n
    → parts_sum v (t ∷ ts) p n ≡ (t.coefficient *ℤ monomial t.exponents p) +ℤ parts_sum v ts p n
within-power v t ts p zero below less = absurd (omega arith)
within-power v t ts p (suc e) below less = elim (cases_order (exponent_of v t) e) [
  | inl same ↦
      let before : parts_sum v (t ∷ ts) p e ≡ parts_sum v ts p e = past-power v t ts p e (omega (arith, same)) in
      let here : coefficient_at v e (t ∷ ts) p *ℤ int_power (at p v) e ≡ (term_at v t p *ℤ int_power (at p v) e) +ℤ (coefficient_at v e ts p *ℤ int_power (at p v) e)
      = ap (λ (z : ℤ). z *ℤ int_power (at p v) e) (this-power v e t ts p same) ∙ add-mul (term_at v t p) (coefficient_at v e ts p) (int_power (at p v) e) in
      let whole : term_at v t p *ℤ int_power (at p v) e ≡ t.coefficient *ℤ monomial t.exponents p
      = ap (λ (n : ℕ). term_at v t p *ℤ int_power (at p v) n) (sym same) ∙ term-split v t p below in
      total (parts_sum v (t ∷ ts) p e) (parts_sum v ts p e) (coefficient_at v e (t ∷ ts) p *ℤ int_power (at p v) e) (term_at v t p *ℤ int_power (at p v) e)
      (coefficient_at v e ts p *ℤ int_power (at p v) e) (t.coefficient *ℤ monomial t.exponents p) before here whole
  | inr (inl lower) ↦
      let before : parts_sum v (t ∷ ts) p e ≡ (t.coefficient *ℤ monomial t.exponents p) +ℤ parts_sum v ts p e = within-power v t ts p e below lower in
      let here : coefficient_at v e (t ∷ ts) p *ℤ int_power (at p v) e ≡ coefficient_at v e ts p *ℤ int_power (at p v) e
      = ap (λ (z : ℤ). z *ℤ int_power (at p v) e) (other-power v e t ts p (λ is. omega (arith, is))) in
      added (parts_sum v (t ∷ ts) p e) (parts_sum v ts p e) (coefficient_at v e (t ∷ ts) p *ℤ int_power (at p v) e) (coefficient_at v e ts p *ℤ int_power (at p v) e)
      (t.coefficient *ℤ monomial t.exponents p) before here
  | inr (inr higher) ↦ absurd (omega arith)
] where
  total : (a b c d f g : ℤ) → a ≡ b → c ≡ d +ℤ f → d ≡ g → a +ℤ c ≡ g +ℤ (b +ℤ f)
  total a b c d f g h i j = omega (arith, ints)

  added : (a b c d g : ℤ) → a ≡ g +ℤ b → c ≡ d → a +ℤ c ≡ g +ℤ (b +ℤ d)
  added a b c d g h i = omega (arith, ints)

-- terms are their coefficients, each times its power
pub terms-total : (v : ℕ) (ts : List Term) (p : List ℤ) (n : ℕ) → v < length p → degree_of v ts < n → terms_value ts p ≡ parts_sum v ts p n
terms-total v [] p n below less = sym (no-terms v p n)
terms-total v (t ∷ ts) p n below less =
    ap (λ (z : ℤ). (t.coefficient *ℤ monomial t.exponents p) +ℤ z) (terms-total v ts p n below (omega (arith, less)))
    ∙ sym (within-power v t ts p n below (omega (arith, less)))

-- a power of a variable as a term
monomial-power : (v e : ℕ) (p : List ℤ) → v < length p → monomial (replicate v 0 ++ e ∷ []) p ≡ int_power (at p v) e
monomial-power v e [] below = absurd (omega arith)
monomial-power zero e (x ∷ p) below = mul-one (int_power x e)
monomial-power (suc v) e (x ∷ p) below = one-mul (monomial (replicate v 0 ++ e ∷ []) p) ∙ monomial-power v e p (omega arith)

row-from : (v e : ℕ) (cs : List ℤ) (p : List ℤ) → v < length p → terms_value (power_terms v e cs) p ≡ int_power (at p v) e *ℤ row_value cs (at p v)
row-from v e [] p below = sym (mul-zero (int_power (at p v) e))
row-from v e (c ∷ cs) p below =
    ap (λ (z : ℤ). (c *ℤ z) +ℤ terms_value (power_terms v (suc e) cs) p) (monomial-power v e p below)
    ∙ ap (λ (z : ℤ). (c *ℤ int_power (at p v) e) +ℤ z) (row-from v (suc e) cs p below)
    ∙ ap (λ (z : ℤ). z +ℤ ((at p v *ℤ int_power (at p v) e) *ℤ row_value cs (at p v))) (mul_comm c (int_power (at p v) e))
    ∙ ap (λ (z : ℤ). (int_power (at p v) e *ℤ c) +ℤ z) (ap (λ (z : ℤ). z *ℤ row_value cs (at p v)) (mul_comm (at p v) (int_power (at p v) e)) ∙ mul_assoc_ℤ (int_power (at p v) e) (at p v) (row_value cs (at p v)))
    ∙ sym (mul-add (int_power (at p v) e) c (at p v *ℤ row_value cs (at p v)))

-- a row at a point is its polynomial at the variable's value
pub row-at : (v : ℕ) (cs : List ℤ) (p : List ℤ) → v < length p → terms_value (power_terms v 0 cs) p ≡ row_value cs (at p v)
row-at v cs p below = row-from v 0 cs p below ∙ one-mul (row_value cs (at p v))
