-- Terms in the order in which they are printed have the tree's value.
use Rattle.std.proofs.Common.{◌≡◌, ℕ, zero, suc, ◌+◌, ◌-◌, ◌≤◌, ◌^◌, Bool, true, false, cond, not, if◌then◌else◌, List, [], ◌∷◌, ◌++◌, length, map, replicate, arith, sym, refl, ◌∙◌, ap}
use Rattle.std.proofs.Math.IntN.{ℤ, pos, negsuc, ◌+ℤ◌, ◌*ℤ◌}
use Rattle.std.specs.List.{AllByRecursion}
use Rattle.std.specs.Ordering.{int_eq}
use Rattle.std.proofs.lemmas.Bool.{false_from_ne_true}
use Rattle.std.proofs.lemmas.Bool.Decides.{Decides-int_eq}
use Rattle.iolb_model.specs.Printed.{nonzero}
use Rattle.std.proofs.lemmas.Int.{ints}
use Rattle.std.proofs.lemmas.List.{length-append, length-replicate}
use Rattle.base_laws.proofs.Ring.{mul-zero, one-mul, mul-one, mul_assoc_ℤ, mul_comm, mul-add}
use Rattle.iolb_model.specs.Polynomial.{Term, int_power, monomial, terms_value}
use Rattle.poly_tree.specs.Expansion.{Expansion, Parts, number, over, none, part, at, value, parts_value, powers_from, IsCanonical, AreCanonical}
use Rattle.poly_tree.specs.Printed.{with_exponent, with_power, named_term, AreNonzero, expansion_terms, parts_terms, is_printed_before, insert_term, in_print_order, TermsHaveTheValue}
use Rattle.poly_tree.proofs.TermLemmas.{powers-monomial, terms_value-append}

insert-value : (t : Term) (ts : List Term) (point : List ℤ) → terms_value (insert_term t ts) point ≡ (t.coefficient *ℤ monomial t.exponents point) +ℤ terms_value ts point
insert-value t [] point = refl
insert-value t (s ∷ ts) point = by (is_printed_before t s) (insert-value t ts point) where
  by : (b : Bool) → terms_value (insert_term t ts) point ≡ (t.coefficient *ℤ monomial t.exponents point) +ℤ terms_value ts point
      → terms_value (if b then t ∷ (s ∷ ts) else s ∷ insert_term t ts) point ≡ (t.coefficient *ℤ monomial t.exponents point) +ℤ ((s.coefficient *ℤ monomial s.exponents point) +ℤ terms_value ts point)
  by true h = refl
  by false h = ap (λ (z : ℤ). (s.coefficient *ℤ monomial s.exponents point) +ℤ z) h ∙ turn (s.coefficient *ℤ monomial s.exponents point) (t.coefficient *ℤ monomial t.exponents point) (terms_value ts point) where
    turn : (a b c : ℤ) → a +ℤ (b +ℤ c) ≡ b +ℤ (a +ℤ c)
    turn a b c = omega (arith, ints)

order-value : (ts : List Term) (point : List ℤ) → terms_value (in_print_order ts) point ≡ terms_value ts point
order-value [] point = refl
order-value (t ∷ ts) point = insert-value t (in_print_order ts) point ∙ ap (λ (z : ℤ). (t.coefficient *ℤ monomial t.exponents point) +ℤ z) (order-value ts point)

powers-append : (es fs : List ℕ) (v : ℕ) (p : ℕ → ℤ) → powers_from (es ++ fs) v p ≡ powers_from es v p *ℤ powers_from fs (v + length es) p
powers-append [] fs v p = ap (λ (n : ℕ). powers_from fs n p) (plus v) ∙ sym (one-mul (powers_from fs (v + 0) p)) where
  plus : (n : ℕ) → n ≡ n + 0
  plus n = omega arith
powers-append (e ∷ es) fs v p =
    ap (λ (z : ℤ). int_power (p v) e *ℤ z) (powers-append es fs (suc v) p ∙ ap (λ (n : ℕ). powers_from es (suc v) p *ℤ powers_from fs n p) (shift v (length es)))
    ∙ sym (mul_assoc_ℤ (int_power (p v) e) (powers_from es (suc v) p) (powers_from fs (v + suc (length es)) p)) where
      shift : (m n : ℕ) → suc m + n ≡ m + suc n
      shift m n = omega arith

powers-last : (k e v : ℕ) (p : ℕ → ℤ) → powers_from (replicate k 0 ++ e ∷ []) v p ≡ int_power (p (v + k)) e
powers-last zero e v p = mul-one (int_power (p v) e) ∙ ap (λ (n : ℕ). int_power (p n) e) (plus v) where
  plus : (n : ℕ) → n ≡ n + 0
  plus n = omega arith
powers-last (suc k) e v p = one-mul (powers_from (replicate k 0 ++ e ∷ []) (suc v) p) ∙ powers-last k e (suc v) p ∙ ap (λ (n : ℕ). int_power (p n) e) (shift v k) where
  shift : (m n : ℕ) → suc m + n ≡ m + suc n
  shift m n = omega arith

power-monomial : (v e : ℕ) (es : List ℕ) (point : List ℤ) → length es ≤ v → monomial (with_exponent v e es) point ≡ int_power (at point v) e *ℤ monomial es point
power-monomial v zero es point le = sym (one-mul (monomial es point))
power-monomial v (suc e) es point le =
    sym (powers-monomial (es ++ (replicate (v - length es) 0 ++ suc e ∷ [])) [] point 0 refl)
    ∙ powers-append es (replicate (v - length es) 0 ++ suc e ∷ []) 0 (at point)
    ∙ ap (λ (z : ℤ). powers_from es 0 (at point) *ℤ z) (powers-last (v - length es) (suc e) (0 + length es) (at point) ∙ ap (λ (n : ℕ). int_power (at point n) (suc e)) (place v (length es) le))
    ∙ mul_comm (powers_from es 0 (at point)) (int_power (at point v) (suc e))
    ∙ ap (λ (z : ℤ). int_power (at point v) (suc e) *ℤ z) (powers-monomial es [] point 0 refl) where
      place : (m n : ℕ) → n ≤ m → 0 + n + (m - n) ≡ m
      place m n p = omega arith

unfoldable pub Short : ℕ → List Term → Type 0
Short v ts = AllByRecursion (λ (t : Term). length t.exponents ≤ v) ts

mapped-value : (v e : ℕ) (ts : List Term) (point : List ℤ) → Short v ts → terms_value (map (with_power v e) ts) point ≡ int_power (at point v) e *ℤ terms_value ts point
unfolding Short
mapped-value v e [] point h = sym (mul-zero (int_power (at point v) e))
mapped-value v e (t ∷ ts) point h =
    let x = int_power (at point v) e in
    ap (λ (z : ℤ). (t.coefficient *ℤ z) +ℤ terms_value (map (with_power v e) ts) point) (power-monomial v e t.exponents point h.0)
    ∙ ap (λ (z : ℤ). z +ℤ terms_value (map (with_power v e) ts) point) (sym (mul_assoc_ℤ t.coefficient x (monomial t.exponents point)) ∙ ap (λ (z : ℤ). z *ℤ monomial t.exponents point) (mul_comm t.coefficient x) ∙ mul_assoc_ℤ x t.coefficient (monomial t.exponents point))
    ∙ ap (λ (z : ℤ). (x *ℤ (t.coefficient *ℤ monomial t.exponents point)) +ℤ z) (mapped-value v e ts point h.1)
    ∙ sym (mul-add x (t.coefficient *ℤ monomial t.exponents point) (terms_value ts point))

pub short-more : (v w : ℕ) (ts : List Term) → v ≤ w → Short v ts → Short w ts
unfolding Short
short-more v w [] le h = tt
short-more v w (t ∷ ts) le h = (omega (arith, h.0), short-more v w ts le h.1)

short-append : (v : ℕ) (ts us : List Term) → Short v ts → Short v us → Short v (ts ++ us)
unfolding Short
short-append v [] us h k = k
short-append v (t ∷ ts) us h k = (h.0, short-append v ts us h.1 k)

length-exponent : (v e : ℕ) (es : List ℕ) → length es ≤ v → length (with_exponent v e es) ≤ suc v
length-exponent v zero es le = omega arith
length-exponent v (suc e) es le = omega (arith, appended es (replicate (v - length es) 0 ++ suc e ∷ []), appended (replicate (v - length es) 0) (suc e ∷ []), length-replicate {A = ℕ} (v - length es) 0) where
  appended : (xs ys : List ℕ) → length (xs ++ ys) ≡ length xs + length ys
  appended xs ys = length-append xs ys

short-mapped : (v e : ℕ) (ts : List Term) → Short v ts → Short (suc v) (map (with_power v e) ts)
unfolding Short
short-mapped v e [] h = tt
short-mapped v e (t ∷ ts) h = (length-exponent v e t.exponents h.0, short-mapped v e ts h.1)

mutual
  unfolding Short

  pub short : (bound : ℕ) (t : Expansion) → IsCanonical bound t → Short bound (expansion_terms t)
  short bound (number (pos zero)) c = tt
  short bound (number (pos (suc n))) c = (omega arith, tt)
  short bound (number (negsuc n)) c = (omega arith, tt)
  short bound (over v ps) c = short-more (suc v) bound (parts_terms v 0 ps) (omega (arith, c.0)) (short-parts v 0 ps c.1)

  short-parts : (v e : ℕ) (ps : Parts) → AreCanonical v ps → Short (suc v) (parts_terms v e ps)
  short-parts v e none c = tt
  short-parts v e (part t ps) c = short-append (suc v) (map (with_power v e) (expansion_terms t)) (parts_terms v (suc e) ps) (short-mapped v e (expansion_terms t) (short v t c.0)) (short-parts v (suc e) ps c.1)

mutual
  terms-value : (bound : ℕ) (t : Expansion) (point : List ℤ) → IsCanonical bound t → terms_value (expansion_terms t) point ≡ value t (at point)
  terms-value bound (number n) point c = number-terms n where
    single : (m : ℤ) → (m *ℤ pos 1) +ℤ pos 0 ≡ m
    single m = plus (m *ℤ pos 1) ∙ mul-one m where
      plus : (y : ℤ) → y +ℤ pos 0 ≡ y
      plus y = omega (arith, ints)

    number-terms : (m : ℤ) → terms_value (expansion_terms (number m)) point ≡ m
    number-terms (pos zero) = refl
    number-terms (pos (suc k)) = single (pos (suc k))
    number-terms (negsuc k) = single (negsuc k)
  terms-value bound (over v ps) point c = parts-value v 0 ps point c.1 ∙ one-mul (parts_value ps (at point v) (at point))

  parts-value : (v e : ℕ) (ps : Parts) (point : List ℤ) → AreCanonical v ps → terms_value (parts_terms v e ps) point ≡ int_power (at point v) e *ℤ parts_value ps (at point v) (at point)
  parts-value v e none point c = sym (mul-zero (int_power (at point v) e))
  parts-value v e (part t ps) point c =
      let x = at point v in
      terms_value-append (map (with_power v e) (expansion_terms t)) (parts_terms v (suc e) ps) point
      ∙ ap (λ (z : ℤ). z +ℤ terms_value (parts_terms v (suc e) ps) point) (mapped-value v e (expansion_terms t) point (short v t c.0) ∙ ap (λ (z : ℤ). int_power x e *ℤ z) (terms-value v t point c.0))
      ∙ ap (λ (z : ℤ). (int_power x e *ℤ value t (at point)) +ℤ z) (parts-value v (suc e) ps point c.1 ∙ ap (λ (z : ℤ). z *ℤ parts_value ps x (at point)) (mul_comm x (int_power x e)) ∙ mul_assoc_ℤ (int_power x e) x (parts_value ps x (at point)))
      ∙ sym (mul-add (int_power x e) (value t (at point)) (x *ℤ parts_value ps x (at point)))

-- of a canonical tree
pub printed-value : (bound : ℕ) (t : Expansion) (point : List ℤ) → IsCanonical bound t → terms_value (in_print_order (expansion_terms t)) point ≡ value t (at point)
printed-value bound t point c = order-value (expansion_terms t) point ∙ terms-value bound t point c

-- the law
pub terms_have_the_value : TermsHaveTheValue
terms_have_the_value q legal point = printed-value (2 ^ 16) q.tree point legal.canonical

-- terms put into a row that is in order, the last first
abbrev pub insert_all : List Term → List Term → List Term
insert_all [] ordered = ordered
insert_all (t ∷ ts) ordered = insert_term t (insert_all ts ordered)

pub insert_all-none : (ts : List Term) → insert_all ts [] ≡ in_print_order ts
insert_all-none [] = refl
insert_all-none (t ∷ ts) = ap (insert_term t) (insert_all-none ts)

pub insert_all-last : (ts : List Term) (t : Term) (ordered : List Term) → insert_all (ts ++ t ∷ []) ordered ≡ insert_all ts (insert_term t ordered)
insert_all-last [] t ordered = refl
insert_all-last (s ∷ ts) t ordered = ap (insert_term s) (insert_all-last ts t ordered)

-- no coefficient of a tree's terms is 0
nonzero-append : (ts us : List Term) → AreNonzero ts → AreNonzero us → AreNonzero (ts ++ us)
nonzero-append [] us h k = k
nonzero-append (t ∷ ts) us h k = (h.0, nonzero-append ts us h.1 k)

nonzero-mapped : (v e : ℕ) (ts : List Term) → AreNonzero ts → AreNonzero (map (with_power v e) ts)
nonzero-mapped v e [] h = tt
nonzero-mapped v e (t ∷ ts) h = (h.0, nonzero-mapped v e ts h.1)

mutual
  nonzero-terms : (t : Expansion) → AreNonzero (expansion_terms t)
  nonzero-terms (number (pos zero)) = tt
  nonzero-terms (number (pos (suc n))) = (λ e. absurd (omega (arith, ints, e)), tt)
  nonzero-terms (number (negsuc n)) = (λ e. absurd (omega (arith, ints, e)), tt)
  nonzero-terms (over v ps) = nonzero-parts v 0 ps

  nonzero-parts : (v e : ℕ) (ps : Parts) → AreNonzero (parts_terms v e ps)
  nonzero-parts v e none = tt
  nonzero-parts v e (part t ps) = nonzero-append (map (with_power v e) (expansion_terms t)) (parts_terms v (suc e) ps) (nonzero-mapped v e (expansion_terms t) (nonzero-terms t)) (nonzero-parts v (suc e) ps)

nonzero-insert : (t : Term) (ts : List Term) → AreNonzero (t ∷ ts) → AreNonzero (insert_term t ts)
nonzero-insert t [] h = h
nonzero-insert t (s ∷ ts) h = by (is_printed_before t s) (nonzero-insert t ts (h.0, h.1.1)) where
  by : (b : Bool) → AreNonzero (insert_term t ts) → AreNonzero (if b then t ∷ (s ∷ ts) else s ∷ insert_term t ts)
  by true k = h
  by false k = (h.1.0, k)

pub nonzero-order : (ts : List Term) → AreNonzero ts → AreNonzero (in_print_order ts)
nonzero-order [] h = tt
nonzero-order (t ∷ ts) h = nonzero-insert t (in_print_order ts) (h.0, nonzero-order ts h.1)

pub nonzero-printed : (t : Expansion) → AreNonzero (in_print_order (expansion_terms t))
nonzero-printed t = nonzero-order (expansion_terms t) (nonzero-terms t)

-- terms without a coefficient 0 are printed whole
pub all-nonzero : (names : List (List ℕ)) (ts : List Term) → AreNonzero ts → nonzero (map (named_term names) ts) ≡ map (named_term names) ts
all-nonzero names [] h = refl
all-nonzero names (t ∷ ts) h = by (int_eq t.coefficient (pos 0)) (false_from_ne_true (int_eq t.coefficient (pos 0)) (λ e. h.0 ((Decides-int_eq t.coefficient (pos 0)).0 e))) (all-nonzero names ts h.1) where
  by : (b : Bool) → b ≡ false → nonzero (map (named_term names) ts) ≡ map (named_term names) ts
      → cond (not b) (named_term names t ∷ nonzero (map (named_term names) ts)) (nonzero (map (named_term names) ts)) ≡ named_term names t ∷ map (named_term names) ts
  by true k e = absurd cc
  by false k e = ap (λ (l : List (ℤ × List ℕ)). named_term names t ∷ l) e
