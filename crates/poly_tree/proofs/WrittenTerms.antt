-- What is known of a polynomial's terms in the order in which they are printed, with exponents for all its variables.
use Rattle.std.proofs.Common.{◌≡◌, ◌≢◌, ℕ, zero, suc, ◌+◌, ◌-◌, ◌*◌, ◌<◌, ◌≤◌, ◌^◌, max, Bool, true, false, if◌then◌else◌, List, [], ◌∷◌, ◌++◌, length, get_or, map, replicate, append_assoc, arith, sym, refl, ◌∙◌, ap, inl, inr, ◌⊎◌}
use Rattle.std.proofs.Math.IntN.{ℤ, pos, negsuc, ◌+ℤ◌, ◌*ℤ◌}
use Rattle.std.specs.Prelude.{unsigned_abs}
use Rattle.std.specs.List.{AllByRecursion}
use Rattle.std.proofs.lemmas.List.{length-append, length-replicate, get_or_append_left, get_or-append_right, get_or_past, get_or-replicate, get_or_at}
use Rattle.base_laws.proofs.Ring.{one-mul}
use Rattle.iolb_model.specs.Polynomial.{Term, int_power, monomial, terms_value}
use Rattle.affine_form.specs.Form.{IsSmall}
use Rattle.poly_tree.specs.Expansion.{Expansion, Parts, number, over, none, part, weight, parts_weight, coefficients, parts_coefficients, parts_count, IsCanonical, AreCanonical, DegreesAtMost, PartsDegreesAtMost}
use Rattle.poly_tree.specs.Terms.{terms_weight, terms_size, HasExponents, AreApart, IsNoGreater, IsTermsSum}
use Rattle.poly_tree.specs.Poly.{Quotient, IsLegal, numerator_at, size}
use Rattle.poly_tree.specs.Printed.{with_exponent, with_power, expansion_terms, parts_terms, is_printed_before, insert_term, in_print_order, polynomial_of, width, widened, widened_term, written_terms, AreWritten}
use Rattle.poly_tree.proofs.PrintedLemmas.{Short, short, short-more, nonzero-printed, printed-value}
use Rattle.poly_tree.proofs.TermLemmas.{terms_weight-append}
use Rattle.poly_tree.proofs.TermNumbers.{exponent, small-sum, Differ, Apart}
use Rattle.poly_tree.proofs.PrintOrder.{all-insert}

-- ---- what holds of all terms

all-joined : (P : Term → Type 0) (ts us : List Term) → AllByRecursion P ts → AllByRecursion P us → AllByRecursion P (ts ++ us)
all-joined P [] us h k = k
all-joined P (t ∷ ts) us h k = (h.0, all-joined P ts us h.1 k)

all-mapped : (P Q : Term → Type 0) (f : Term → Term) (ts : List Term) → ((t : Term) → P t → Q (f t)) → AllByRecursion P ts → AllByRecursion Q (map f ts)
all-mapped P Q f [] g h = tt
all-mapped P Q f (t ∷ ts) g h = (g t h.0, all-mapped P Q f ts g h.1)

all-ordered : (P : Term → Type 0) (ts : List Term) → AllByRecursion P ts → AllByRecursion P (in_print_order ts)
all-ordered P [] h = tt
all-ordered P (t ∷ ts) h = all-insert P t (in_print_order ts) h.0 (all-ordered P ts h.1)

-- ---- low exponents

LowList : ℕ → List ℕ → Type 0
LowList degree es = AllByRecursion (λ e. e ≤ degree) es

Low : ℕ → Term → Type 0
Low degree term = LowList degree term.exponents

low-append : (degree : ℕ) (es fs : List ℕ) → LowList degree es → LowList degree fs → LowList degree (es ++ fs)
unfolding LowList
low-append degree [] fs h k = k
low-append degree (e ∷ es) fs h k = (h.0, low-append degree es fs h.1 k)

low-zeros : (degree n : ℕ) → LowList degree (replicate n 0)
unfolding LowList
low-zeros degree zero = tt
low-zeros degree (suc n) = (omega arith, low-zeros degree n)

low-with : (degree v e : ℕ) (es : List ℕ) → e ≤ degree → LowList degree es → LowList degree (with_exponent v e es)
unfolding LowList
low-with degree v zero es le h = h
low-with degree v (suc e) es le h =
    low-append degree es (replicate (v - length es) 0 ++ suc e ∷ []) h (low-append degree (replicate (v - length es) 0) (suc e ∷ []) (low-zeros degree (v - length es)) (le, tt))

mutual
  unfolding Low LowList

  low-terms : (degree : ℕ) (t : Expansion) → DegreesAtMost degree t → AllByRecursion (Low degree) (expansion_terms t)
  low-terms degree (number (pos zero)) h = tt
  low-terms degree (number (pos (suc n))) h = (tt, tt)
  low-terms degree (number (negsuc n)) h = (tt, tt)
  low-terms degree (over v ps) h = low-parts degree v 0 ps (omega (arith, h.0)) h.1

  low-parts : (degree v e : ℕ) (ps : Parts) → e + parts_count ps ≤ degree + 1 → PartsDegreesAtMost degree ps → AllByRecursion (Low degree) (parts_terms v e ps)
  low-parts degree v e none le h = tt
  low-parts degree v e (part t ps) le h =
      all-joined (Low degree) (map (with_power v e) (expansion_terms t)) (parts_terms v (suc e) ps)
      (all-mapped (Low degree) (Low degree) (with_power v e) (expansion_terms t) (λ s k. low-with degree v e s.exponents (omega arith) k) (low-terms degree t h.0))
      (low-parts degree v (suc e) ps (omega arith) h.1)

-- ---- numbers

halves : (P : ℤ → Type 0) (xs ys : List ℤ) → AllByRecursion P (xs ++ ys) → AllByRecursion P xs × AllByRecursion P ys
halves P [] ys h = (tt, h)
halves P (x ∷ xs) ys h = let rest = halves P xs ys h.1 in ((h.0, rest.0), rest.1)

SmallTerm : ℕ → Term → Type 0
SmallTerm limit term = IsSmall limit term.coefficient

mutual
  unfolding SmallTerm

  small-terms : (limit : ℕ) (t : Expansion) → AllByRecursion (IsSmall limit) (coefficients t) → AllByRecursion (SmallTerm limit) (expansion_terms t)
  small-terms limit (number (pos zero)) h = tt
  small-terms limit (number (pos (suc n))) h = h
  small-terms limit (number (negsuc n)) h = h
  small-terms limit (over v ps) h = small-parts limit v 0 ps h

  small-parts : (limit v e : ℕ) (ps : Parts) → AllByRecursion (IsSmall limit) (parts_coefficients ps) → AllByRecursion (SmallTerm limit) (parts_terms v e ps)
  small-parts limit v e none h = tt
  small-parts limit v e (part t ps) h =
      let both = halves (IsSmall limit) (coefficients t) (parts_coefficients ps) h in
      all-joined (SmallTerm limit) (map (with_power v e) (expansion_terms t)) (parts_terms v (suc e) ps)
      (all-mapped (SmallTerm limit) (SmallTerm limit) (with_power v e) (expansion_terms t) (λ s k. k) (small-terms limit t both.0)) (small-parts limit v (suc e) ps both.1)

weight-powers : (v e : ℕ) (ts : List Term) → terms_weight (map (with_power v e) ts) ≡ terms_weight ts
weight-powers v e [] = refl
weight-powers v e (t ∷ ts) = ap (λ (n : ℕ). unsigned_abs t.coefficient + n) (weight-powers v e ts)

mutual
  weight-terms : (t : Expansion) → terms_weight (expansion_terms t) ≡ weight t
  weight-terms (number (pos zero)) = refl
  weight-terms (number (pos (suc n))) = omega arith
  weight-terms (number (negsuc n)) = omega arith
  weight-terms (over v ps) = weight-parts v 0 ps

  weight-parts : (v e : ℕ) (ps : Parts) → terms_weight (parts_terms v e ps) ≡ parts_weight ps
  weight-parts v e none = refl
  weight-parts v e (part t ps) =
      omega (arith, terms_weight-append (map (with_power v e) (expansion_terms t)) (parts_terms v (suc e) ps), weight-powers v e (expansion_terms t), weight-terms t, weight-parts v (suc e) ps)

weight-insert : (t : Term) (ts : List Term) → terms_weight (insert_term t ts) ≡ unsigned_abs t.coefficient + terms_weight ts
weight-insert t [] = refl
weight-insert t (s ∷ ts) = by (is_printed_before t s) (weight-insert t ts) where
  by : (b : Bool) → terms_weight (insert_term t ts) ≡ unsigned_abs t.coefficient + terms_weight ts
      → terms_weight (if b then t ∷ (s ∷ ts) else s ∷ insert_term t ts) ≡ unsigned_abs t.coefficient + (unsigned_abs s.coefficient + terms_weight ts)
  by true e = refl
  by false e = omega (arith, e)

weight-ordered : (ts : List Term) → terms_weight (in_print_order ts) ≡ terms_weight ts
weight-ordered [] = refl
weight-ordered (t ∷ ts) = weight-insert t (in_print_order ts) ∙ ap (λ (n : ℕ). unsigned_abs t.coefficient + n) (weight-ordered ts)

weight-widened : (n : ℕ) (ts : List Term) → terms_weight (map (widened_term n) ts) ≡ terms_weight ts
weight-widened n [] = refl
weight-widened n (t ∷ ts) = ap (λ (m : ℕ). unsigned_abs t.coefficient + m) (weight-widened n ts)

-- ---- no two terms are alike

differ-more : (w v : ℕ) (s t : Term) → w ≤ v → Differ w s t → Differ v s t
unfolding Differ
differ-more w v s t le h = λ same. h (λ u r. same u (omega (arith, r)))

all-differ : (w v : ℕ) (s : Term) (ts : List Term) → w ≤ v → AllByRecursion (Differ w s) ts → AllByRecursion (Differ v s) ts
all-differ w v s [] le h = tt
all-differ w v s (t ∷ ts) le h = (differ-more w v s t le h.0, all-differ w v s ts le h.1)

apart-more : (w v : ℕ) (ts : List Term) → w ≤ v → Apart w ts → Apart v ts
unfolding Apart
apart-more w v [] le h = tt
apart-more w v (t ∷ ts) le h = (all-differ w v t ts le h.0, apart-more w v ts le h.1)

-- a zero below, the exponent itself at its place
at-zeros : (n u : ℕ) (fs : List ℕ) → u < n → get_or (replicate n 0 ++ fs) u 0 ≡ 0
at-zeros n u fs r = get_or_append_left (replicate n 0) fs 0 u (omega (arith, length-replicate {A = ℕ} n 0, r)) ∙ get_or-replicate n u 0 0 r

below-or-past : (u n : ℕ) → (u < n) ⊎ (n ≤ u)
below-or-past u n = grind arith

exponent-below : (v e u : ℕ) (es : List ℕ) → length es ≤ v → u < v → get_or (with_exponent v e es) u 0 ≡ get_or es u 0
exponent-below v zero u es le r = refl
exponent-below v (suc e) u es le r = by (below-or-past u (length es)) where
  by : (u < length es) ⊎ (length es ≤ u) → get_or (es ++ (replicate (v - length es) 0 ++ suc e ∷ [])) u 0 ≡ get_or es u 0
  by (inl less) = get_or_append_left es (replicate (v - length es) 0 ++ suc e ∷ []) 0 u less
  by (inr past) =
      get_or-append_right es (replicate (v - length es) 0 ++ suc e ∷ []) (length es) u 0 refl past
      ∙ at-zeros (v - length es) (u - length es) (suc e ∷ []) (omega (arith, r, past)) ∙ sym (get_or_past es u 0 past)

exponent-at : (v e : ℕ) (es : List ℕ) → length es ≤ v → get_or (with_exponent v e es) v 0 ≡ e
exponent-at v zero es le = get_or_past es v 0 le
exponent-at v (suc e) es le =
    ap (λ (fs : List ℕ). get_or fs v 0) (sym (append_assoc es (replicate (v - length es) 0) (suc e ∷ [])))
    ∙ get_or_at (es ++ replicate (v - length es) 0) (suc e) [] 0 v (omega (arith, le, length-append es (replicate (v - length es) 0), length-replicate {A = ℕ} (v - length es) 0))

differ-powers : (v e : ℕ) (s t : Term) → length s.exponents ≤ v → length t.exponents ≤ v → Differ v s t → Differ (suc v) (with_power v e s) (with_power v e t)
unfolding Differ exponent
differ-powers v e s t p q h = λ same. h (λ u r. sym (exponent-below v e u s.exponents p r) ∙ same u (omega (arith, r)) ∙ exponent-below v e u t.exponents q r)

all-differ_powers : (v e : ℕ) (s : Term) (ts : List Term) → length s.exponents ≤ v → Short v ts → AllByRecursion (Differ v s) ts → AllByRecursion (Differ (suc v) (with_power v e s)) (map (with_power v e) ts)
unfolding Short
all-differ_powers v e s [] p q h = tt
all-differ_powers v e s (t ∷ ts) p q h = (differ-powers v e s t p q.0 h.0, all-differ_powers v e s ts p q.1 h.1)

apart-powers : (v e : ℕ) (ts : List Term) → Short v ts → Apart v ts → Apart (suc v) (map (with_power v e) ts)
unfolding Apart Short
apart-powers v e [] p h = tt
apart-powers v e (t ∷ ts) p h = (all-differ_powers v e t ts p.0 p.1 h.0, apart-powers v e ts p.1 h.1)

Exactly : ℕ → ℕ → Term → Type 0
Exactly v e term = exponent v term ≡ e

Past : ℕ → ℕ → Term → Type 0
Past v e term = e ≤ exponent v term

exactly-powers : (v e : ℕ) (ts : List Term) → Short v ts → AllByRecursion (Exactly v e) (map (with_power v e) ts)
unfolding Exactly exponent Short
exactly-powers v e [] p = tt
exactly-powers v e (t ∷ ts) p = (exponent-at v e t.exponents p.0, exactly-powers v e ts p.1)

past-powers : (v d e : ℕ) (ts : List Term) → d ≤ e → Short v ts → AllByRecursion (Past v d) (map (with_power v e) ts)
unfolding Past exponent Short
past-powers v d e [] le p = tt
past-powers v d e (t ∷ ts) le p = (omega (arith, le, exponent-at v e t.exponents p.0), past-powers v d e ts le p.1)

past-parts : (v d e : ℕ) (ps : Parts) → d ≤ e → AreCanonical v ps → AllByRecursion (Past v d) (parts_terms v e ps)
past-parts v d e none le c = tt
past-parts v d e (part t ps) le c =
    all-joined (Past v d) (map (with_power v e) (expansion_terms t)) (parts_terms v (suc e) ps)
    (past-powers v d e (expansion_terms t) le (short v t c.0)) (past-parts v d (suc e) ps (omega (arith, le)) c.1)

differ-past : (v e : ℕ) (s t : Term) → Exactly v e s → Past v (suc e) t → Differ (suc v) s t
unfolding Exactly Past Differ
differ-past v e s t p q = λ same. absurd (omega (arith, p, q, same v (omega arith)))

all-past : (v e : ℕ) (s : Term) (ts : List Term) → Exactly v e s → AllByRecursion (Past v (suc e)) ts → AllByRecursion (Differ (suc v) s) ts
all-past v e s [] p h = tt
all-past v e s (t ∷ ts) p h = (differ-past v e s t p h.0, all-past v e s ts p h.1)

differ-joined : (w : ℕ) (s : Term) (ts us : List Term) → AllByRecursion (Differ w s) ts → AllByRecursion (Differ w s) us → AllByRecursion (Differ w s) (ts ++ us)
differ-joined w s ts us h k = all-joined (Differ w s) ts us h k

apart-joined : (v e : ℕ) (ts us : List Term) → AllByRecursion (Exactly v e) ts → AllByRecursion (Past v (suc e)) us → Apart (suc v) ts → Apart (suc v) us → Apart (suc v) (ts ++ us)
unfolding Apart
apart-joined v e [] us p q h k = k
apart-joined v e (t ∷ ts) us p q h k = (differ-joined (suc v) t ts us h.0 (all-past v e t us p.0 q), apart-joined v e ts us p.1 q h.1 k)

mutual
  unfolding Apart

  apart-terms : (bound : ℕ) (t : Expansion) → IsCanonical bound t → Apart bound (expansion_terms t)
  apart-terms bound (number (pos zero)) c = tt
  apart-terms bound (number (pos (suc n))) c = (tt, tt)
  apart-terms bound (number (negsuc n)) c = (tt, tt)
  apart-terms bound (over v ps) c = apart-more (suc v) bound (parts_terms v 0 ps) (omega (arith, c.0)) (apart-parts v 0 ps c.1)

  apart-parts : (v e : ℕ) (ps : Parts) → AreCanonical v ps → Apart (suc v) (parts_terms v e ps)
  apart-parts v e none c = tt
  apart-parts v e (part t ps) c =
      let few = short v t c.0 in
      apart-joined v e (map (with_power v e) (expansion_terms t)) (parts_terms v (suc e) ps)
      (exactly-powers v e (expansion_terms t) few) (past-parts v (suc e) (suc e) ps (omega arith) c.1)
      (apart-powers v e (expansion_terms t) few (apart-terms v t c.0)) (apart-parts v (suc e) ps c.1)

differ-turned : (w : ℕ) (s t : Term) → Differ w s t → Differ w t s
unfolding Differ
differ-turned w s t h = λ same. h (λ u r. sym (same u r))

apart-insert : (w : ℕ) (t : Term) (ts : List Term) → AllByRecursion (Differ w t) ts → Apart w ts → Apart w (insert_term t ts)
unfolding Apart
apart-insert w t [] h k = (tt, tt)
apart-insert w t (s ∷ ts) h k = by (is_printed_before t s) (apart-insert w t ts h.1 k.1) where
  by : (b : Bool) → Apart w (insert_term t ts) → Apart w (if b then t ∷ (s ∷ ts) else s ∷ insert_term t ts)
  by true rest = (h, k)
  by false rest = (all-insert (Differ w s) t ts (differ-turned w t s h.0) k.0, rest)

apart-ordered : (w : ℕ) (ts : List Term) → Apart w ts → Apart w (in_print_order ts)
unfolding Apart
apart-ordered w [] h = tt
apart-ordered w (t ∷ ts) h = apart-insert w t (in_print_order ts) (all-ordered (Differ w t) ts h.0) (apart-ordered w ts h.1)

-- ---- exponents for all variables

-- no list is longer than the longest
short-width : (ts : List Term) → Short (width ts) ts
unfolding Short
short-width [] = tt
short-width (t ∷ ts) = (omega arith, short-more (width ts) (max (length t.exponents) (width ts)) ts (omega arith) (short-width ts))

width-short : (n : ℕ) (ts : List Term) → Short n ts → width ts ≤ n
unfolding Short
width-short n [] h = omega arith
width-short n (t ∷ ts) h = omega (arith, h.0, width-short n ts h.1)

length-widened : (n : ℕ) (es : List ℕ) → length es ≤ n → length (widened n es) ≡ n
length-widened n es le = omega (arith, le, length-append es (replicate (n - length es) 0), length-replicate {A = ℕ} (n - length es) 0)

widened-at : (n u : ℕ) (es : List ℕ) → get_or (widened n es) u 0 ≡ get_or es u 0
widened-at n u es = by (below-or-past u (length es)) (below-or-past (u - length es) (n - length es)) where
  by : (u < length es) ⊎ (length es ≤ u) → (u - length es < n - length es) ⊎ (n - length es ≤ u - length es) → get_or (es ++ replicate (n - length es) 0) u 0 ≡ get_or es u 0
  by (inl less) k = get_or_append_left es (replicate (n - length es) 0) 0 u less
  by (inr past) (inl less) =
      get_or-append_right es (replicate (n - length es) 0) (length es) u 0 refl past ∙ get_or-replicate (n - length es) (u - length es) 0 0 less ∙ sym (get_or_past es u 0 past)
  by (inr past) (inr far) =
      get_or-append_right es (replicate (n - length es) 0) (length es) u 0 refl past
      ∙ get_or_past (replicate (n - length es) 0) (u - length es) 0 (omega (arith, far, length-replicate {A = ℕ} (n - length es) 0)) ∙ sym (get_or_past es u 0 past)

-- different exponents make different lists
IsOther : Term → Term → Type 0
IsOther term later = (length later.exponents ≡ length term.exponents) × (later.exponents ≢ term.exponents)

all-other : (w n : ℕ) (s : Term) (ts : List Term) → length s.exponents ≤ n → Short n ts → AllByRecursion (Differ w s) ts → AllByRecursion (IsOther (widened_term n s)) (map (widened_term n) ts)
unfolding Differ exponent Short IsOther
all-other w n s [] p q h = tt
all-other w n s (t ∷ ts) p q h = (
  (
    length-widened n t.exponents q.0 ∙ sym (length-widened n s.exponents p),
    λ same. h.0 (λ u r. sym (widened-at n u s.exponents) ∙ ap (λ (es : List ℕ). get_or es u 0) (sym same) ∙ widened-at n u t.exponents),
  ),
  all-other w n s ts p q.1 h.1,
)

apart-widened : (w n : ℕ) (ts : List Term) → Short n ts → Apart w ts → AreApart (map (widened_term n) ts)
unfolding Apart Short IsOther
apart-widened w n [] p h = tt
apart-widened w n (t ∷ ts) p h = (all-other w n t ts p.0 p.1 h.0, apart-widened w n ts p.1 h.1)

fit-widened : (n : ℕ) (ts : List Term) → n ≤ 24 → Short n ts → AllByRecursion (Low 8) ts → AllByRecursion HasExponents (map (widened_term n) ts)
unfolding Short Low LowList
fit-widened n [] le p h = tt
fit-widened n (t ∷ ts) le p h =
    ((omega (arith, le, length-widened n t.exponents p.0), low-append 8 t.exponents (replicate (n - length t.exponents) 0) h.0 (low-zeros 8 (n - length t.exponents))), fit-widened n ts le p.1 h.1)

power-zero : (k : ℕ) (point : List ℤ) → monomial (replicate k 0) point ≡ pos 1
power-zero zero point = refl
power-zero (suc k) [] = refl
power-zero (suc k) (x ∷ point) = one-mul (monomial (replicate k 0) point) ∙ power-zero k point

widened-monomial : (es : List ℕ) (k : ℕ) (point : List ℤ) → monomial (es ++ replicate k 0) point ≡ monomial es point
widened-monomial [] k point = power-zero k point
widened-monomial (e ∷ es) k [] = refl
widened-monomial (e ∷ es) k (x ∷ point) = ap (λ (z : ℤ). int_power x e *ℤ z) (widened-monomial es k point)

widened-value : (n : ℕ) (ts : List Term) (point : List ℤ) → terms_value (map (widened_term n) ts) point ≡ terms_value ts point
widened-value n [] point = refl
widened-value n (t ∷ ts) point =
    ap (λ (z : ℤ). (t.coefficient *ℤ z) +ℤ terms_value (map (widened_term n) ts) point) (widened-monomial t.exponents (n - length t.exponents) point)
    ∙ ap (λ (z : ℤ). (t.coefficient *ℤ monomial t.exponents point) +ℤ z) (widened-value n ts point)

-- ---- all of it

short-ordered : (m : ℕ) (ts : List Term) → Short m ts → Short m (in_print_order ts)
unfolding Short
short-ordered m ts h = all-ordered (λ (t : Term). length t.exponents ≤ m) ts h

-- the exponents of the terms that are printed are at most 8
pub low-printed : (q : Quotient) → IsLegal q → AllByRecursion (λ (term : Term). AllByRecursion (λ e. e ≤ 8) term.exponents) (polynomial_of q).terms
unfolding Low LowList
low-printed q legal = all-ordered (Low 8) (expansion_terms q.tree) (low-terms 8 q.tree legal.degrees)

-- they have the polynomial's value
pub written-value : (bound : ℕ) (q : Quotient) (point : List ℤ) → IsCanonical bound q.tree → terms_value (written_terms q) point ≡ numerator_at q point
written-value bound q point c = widened-value (width (polynomial_of q).terms) (polynomial_of q).terms point ∙ printed-value bound q.tree point c

-- the polynomial's numbers are no greater than theirs
written-within : (q : Quotient) → IsLegal q → IsCanonical 24 q.tree → AllByRecursion HasExponents (written_terms q) → AreApart (written_terms q) → terms_weight (written_terms q) ≡ weight q.tree
    → IsNoGreater (written_terms q) q.denominator q
written-within q legal few fit apart heavy =
    let sum : IsTermsSum (written_terms q) 24 q.tree
    = record { sum = λ point. sym (written-value 24 q point few); light = omega (arith, heavy); canonical = few; degrees = legal.degrees } in
    record {
      numbers = λ limit some small. small-sum limit q.tree (written_terms q) some fit apart small sum;
      over = omega arith;
      light = at_most (size q) (terms_size (written_terms q) q.denominator) (ap (λ (m : ℕ). max 1 m * q.denominator) heavy);
      variables = few;
    } where
      at_most : (m n : ℕ) → n ≡ m → m ≤ n
      at_most m n e = omega arith

pub are-written : (q : Quotient) → IsLegal q → AreWritten q
unfolding Low LowList SmallTerm
are-written q legal =
    let tree = q.tree in
    let terms = in_print_order (expansion_terms tree) in
    let n = width terms in
    let fit : IsCanonical 24 tree → AllByRecursion HasExponents (written_terms q)
    = λ few. fit-widened n terms (width-short 24 terms (short-ordered 24 (expansion_terms tree) (short 24 tree few))) (short-width terms) (low-printed q legal) in
    let apart : AreApart (written_terms q) = apart-widened (2 ^ 16) n terms (short-width terms) (apart-ordered (2 ^ 16) (expansion_terms tree) (apart-terms (2 ^ 16) tree legal.canonical)) in
    let heavy : terms_weight (written_terms q) ≡ weight tree = weight-widened n terms ∙ weight-ordered (expansion_terms tree) ∙ weight-terms tree in
    record {
      fit = fit;
      apart = apart;
      nonzero = all-mapped (λ (term : Term). term.coefficient ≢ pos 0) (λ (term : Term). term.coefficient ≢ pos 0) (widened_term n) terms (λ t h. h) (nonzero-printed tree);
      small = λ limit h. all-mapped (SmallTerm limit) (SmallTerm limit) (widened_term n) terms (λ t k. k) (all-ordered (SmallTerm limit) (expansion_terms tree) (small-terms limit tree h));
      within = λ few. written-within q legal few (fit few) apart heavy;
      light = ap (λ (m : ℕ). max 1 m * q.denominator) heavy;
      value = λ point. written-value (2 ^ 16) q point legal.canonical;
    }
