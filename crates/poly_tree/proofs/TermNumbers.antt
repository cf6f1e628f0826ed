-- How great the numbers of a polynomial made of terms are: each is a term's coefficient or 0, since the terms are apart.
use Rattle.std.proofs.Common.{◌≡◌, ℕ, zero, suc, ◌+◌, ◌*◌, ◌<◌, ◌≤◌, max, List, [], ◌∷◌, ◌++◌, length, get_or, take, arith, subst, sym, refl, ◌∙◌, ap, inl, inr, ◌⊎◌, mul-le-mul}
use Rattle.std.proofs.Math.IntN.{ℤ, pos, ◌+ℤ◌, ◌-ℤ◌, ◌*ℤ◌}
use Rattle.std.specs.Prelude.{unsigned_abs}
use Rattle.std.specs.List.{AllByRecursion}
use Rattle.std.proofs.lemmas.Int.{ints, unsigned_abs-mul}
use Rattle.std.proofs.lemmas.List.{take_more, take_all, length-take-le, get_or_past}
use Rattle.base_laws.proofs.Ring.{mul-zero, one-mul, mul-one, mul-add, mul_assoc_ℤ, mul_comm}
use Rattle.base_laws.proofs.Lists.{All-append}
use Rattle.iolb_model.specs.Polynomial.{Term, int_power, monomial, terms_value}
use Rattle.affine_form.specs.Form.{IsSmall}
use Rattle.poly_tree.specs.Expansion.{Expansion, Parts, number, over, none, part, at, value, parts_value, weight, coefficients, parts_coefficients, powers_from, put, scaled, parts_scaled, IsCanonical, AreCanonical}
use Rattle.poly_tree.specs.Terms.{terms_weight, HasExponents, AreApart, IsNoGreater, IsTermsSum}
use Rattle.poly_tree.specs.Poly.{Quotient, IsReduced}
use Rattle.poly_tree.proofs.TermLemmas.{powers-push, powers-monomial}
use Rattle.poly_tree.proofs.Products.{weight-scaled}
use Rattle.poly_tree.proofs.Reduced.{unscaled}
use Rattle.poly_tree.proofs.SameLemmas.{listed, at-listed}
use Rattle.poly_tree.proofs.Unique.{agree, roots, tails, at-put, put-same, put-below}

-- the product of the powers of the variables below a bound
below : ℕ → Term → (ℕ → ℤ) → ℤ
below w term point = powers_from (take w term.exponents) 0 point

unfoldable pub exponent : ℕ → Term → ℕ
exponent w term = get_or term.exponents w 0

-- the sum of the terms with the variables below a bound alone
sum_below : ℕ → List Term → (ℕ → ℤ) → ℤ
sum_below w [] point = pos 0
sum_below w (t ∷ ts) point = (t.coefficient *ℤ below w t point) +ℤ sum_below w ts point

-- a number times a power past the power k; below k nothing
past : ℕ → ℕ → ℤ → ℤ → ℤ
past zero e x y = int_power x e *ℤ y
past (suc k) zero x y = pos 0
past (suc k) (suc e) x y = past k e x y

sum_past : ℕ → ℕ → List Term → ℤ → (ℕ → ℤ) → ℤ
sum_past w k [] x point = pos 0
sum_past w k (t ∷ ts) x point = past k (exponent w t) x (t.coefficient *ℤ below w t point) +ℤ sum_past w k ts x point

-- a term, if its exponent is k
kept : ℕ → ℕ → Term → List Term → List Term
kept zero zero t ts = t ∷ ts
kept zero (suc e) t ts = ts
kept (suc k) zero t ts = ts
kept (suc k) (suc e) t ts = kept k e t ts

-- the terms with an exponent
chosen : ℕ → ℕ → List Term → List Term
chosen w k [] = []
chosen w k (t ∷ ts) = kept k (exponent w t) t (chosen w k ts)

-- what holds with the term, if its exponent is k, and without it
kept-by : (P : List Term → Type 0) (k e : ℕ) (t : Term) (ts : List Term) → (k ≡ e → P (t ∷ ts)) → P ts → P (kept k e t ts)
unfolding kept
kept-by P zero zero t ts f p = f refl
kept-by P zero (suc e) t ts f p = p
kept-by P (suc k) zero t ts f p = p
kept-by P (suc k) (suc e) t ts f p = kept-by P k e t ts (λ is. f (ap suc is)) p

plus : (y : ℤ) → y +ℤ pos 0 ≡ y
plus y = omega (arith, ints)

-- one term, by whether its exponent is k
split-term : (w k e : ℕ) (t : Term) (us : List Term) (x r : ℤ) (point : ℕ → ℤ)
    → past k e x (t.coefficient *ℤ below w t point) +ℤ (sum_below w us point +ℤ (x *ℤ r))
    ≡ sum_below w (kept k e t us) point +ℤ (x *ℤ (past (suc k) e x (t.coefficient *ℤ below w t point) +ℤ r))
unfolding past kept sum_below
split-term w zero zero t us x r point =
    ap (λ (z : ℤ). z +ℤ (sum_below w us point +ℤ (x *ℤ r))) (one-mul (t.coefficient *ℤ below w t point))
    ∙ group (t.coefficient *ℤ below w t point) (sum_below w us point) (x *ℤ r)
    ∙ ap (λ (z : ℤ). ((t.coefficient *ℤ below w t point) +ℤ sum_below w us point) +ℤ (x *ℤ z)) (nothing r) where
      group : (a b c : ℤ) → a +ℤ (b +ℤ c) ≡ (a +ℤ b) +ℤ c
      group a b c = omega (arith, ints)

      nothing : (a : ℤ) → a ≡ pos 0 +ℤ a
      nothing a = omega (arith, ints)
split-term w zero (suc e) t us x r point =
    let y = t.coefficient *ℤ below w t point in
    turn (sum_below w us point) (x *ℤ r) ((x *ℤ int_power x e) *ℤ y)
    ∙ ap (λ (z : ℤ). sum_below w us point +ℤ z) (ap (λ (z : ℤ). z +ℤ (x *ℤ r)) (mul_assoc_ℤ x (int_power x e) y) ∙ sym (mul-add x (int_power x e *ℤ y) r)) where
      turn : (b c a : ℤ) → a +ℤ (b +ℤ c) ≡ b +ℤ (a +ℤ c)
      turn b c a = omega (arith, ints)
split-term w (suc k) zero t us x r point = first (sum_below w us point +ℤ (x *ℤ r)) ∙ ap (λ (z : ℤ). sum_below w us point +ℤ (x *ℤ z)) (nothing r) where
  first : (a : ℤ) → pos 0 +ℤ a ≡ a
  first a = omega (arith, ints)

  nothing : (a : ℤ) → a ≡ pos 0 +ℤ a
  nothing a = omega (arith, ints)
split-term w (suc k) (suc e) t us x r point = split-term w k e t us x r point

-- the terms from a power on are those with it and those past it
split : (w k : ℕ) (ts : List Term) (x : ℤ) (point : ℕ → ℤ) → sum_past w k ts x point ≡ sum_below w (chosen w k ts) point +ℤ (x *ℤ sum_past w (suc k) ts x point)
unfolding sum_past chosen sum_below
split w k [] x point = sym (ap (λ (z : ℤ). pos 0 +ℤ z) (mul-zero x))
split w k (t ∷ ts) x point =
    ap (λ (z : ℤ). past k (exponent w t) x (t.coefficient *ℤ below w t point) +ℤ z) (split w k ts x point)
    ∙ split-term w k (exponent w t) t (chosen w k ts) x (sum_past w (suc k) ts x point) point

-- one variable more
below-more : (w : ℕ) (t : Term) (point : ℕ → ℤ) → below (suc w) t point ≡ int_power (point w) (exponent w t) *ℤ below w t point
unfolding below exponent
below-more w t point = by (compare w (length t.exponents)) where
  compare : (m n : ℕ) → (m < n) ⊎ (n ≤ m)
  compare m n = grind arith

  more : (n : ℕ) → suc n ≡ n + 1
  more n = omega arith

  first : (n : ℕ) → 0 + n ≡ n
  first n = omega arith

  by : (w < length t.exponents) ⊎ (length t.exponents ≤ w) → powers_from (take (suc w) t.exponents) 0 point ≡ int_power (point w) (get_or t.exponents w 0) *ℤ powers_from (take w t.exponents) 0 point
  by (inl less) =
      ap (λ (es : List ℕ). powers_from es 0 point) (ap (λ (n : ℕ). take n t.exponents) (more w) ∙ take_more t.exponents w 0 less)
      ∙ powers-push (take w t.exponents) (get_or t.exponents w 0) 0 point
      ∙ ap (λ (n : ℕ). powers_from (take w t.exponents) 0 point *ℤ int_power (point n) (get_or t.exponents w 0)) (first (length (take w t.exponents)) ∙ length-take-le w t.exponents (omega arith))
      ∙ mul_comm (powers_from (take w t.exponents) 0 point) (int_power (point w) (get_or t.exponents w 0))
  by (inr le) =
      ap (λ (es : List ℕ). powers_from es 0 point) (take_all (suc w) t.exponents (omega arith) ∙ sym (take_all w t.exponents le))
      ∙ sym (ap (λ (e : ℕ). int_power (point w) e *ℤ powers_from (take w t.exponents) 0 point) (get_or_past t.exponents w 0 le) ∙ one-mul (powers_from (take w t.exponents) 0 point))

sum-more : (w : ℕ) (ts : List Term) (point : ℕ → ℤ) → sum_below (suc w) ts point ≡ sum_past w 0 ts (point w) point
unfolding sum_below sum_past past
sum-more w [] point = refl
sum-more w (t ∷ ts) point =
    let x = int_power (point w) (exponent w t) in
    ap (λ (z : ℤ). (t.coefficient *ℤ z) +ℤ sum_below (suc w) ts point) (below-more w t point)
    ∙ ap (λ (z : ℤ). z +ℤ sum_below (suc w) ts point) (sym (mul_assoc_ℤ t.coefficient x (below w t point)) ∙ ap (λ (z : ℤ). z *ℤ below w t point) (mul_comm t.coefficient x) ∙ mul_assoc_ℤ x t.coefficient (below w t point))
    ∙ ap (λ (z : ℤ). (x *ℤ (t.coefficient *ℤ below w t point)) +ℤ z) (sum-more w ts point)

-- only the variables below the bound count
powers-agree : (es : List ℕ) (v : ℕ) (p q : ℕ → ℤ) → ((u : ℕ) → u < v + length es → p u ≡ q u) → powers_from es v p ≡ powers_from es v q
powers-agree [] v p q h = refl
powers-agree (e ∷ es) v p q h =
    ap (λ (z : ℤ). int_power z e *ℤ powers_from es (suc v) p) (h v (omega arith))
    ∙ ap (λ (z : ℤ). int_power (q v) e *ℤ z) (powers-agree es (suc v) p q (λ u r. h u (omega arith)))

below-agree : (w : ℕ) (t : Term) (p q : ℕ → ℤ) → ((u : ℕ) → u < w → p u ≡ q u) → below w t p ≡ below w t q
unfolding below
below-agree w t p q h = powers-agree (take w t.exponents) 0 p q (λ u r. h u (omega (arith, few w t.exponents))) where
  few : (n : ℕ) (es : List ℕ) → length (take n es) ≤ n
  few zero es = omega arith
  few (suc n) [] = omega arith
  few (suc n) (e ∷ es) = omega (arith, few n es)

sum-agree : (w : ℕ) (ts : List Term) (p q : ℕ → ℤ) → ((u : ℕ) → u < w → p u ≡ q u) → sum_below w ts p ≡ sum_below w ts q
unfolding sum_below
sum-agree w [] p q h = refl
sum-agree w (t ∷ ts) p q h =
    ap (λ (z : ℤ). (t.coefficient *ℤ z) +ℤ sum_below w ts p) (below-agree w t p q h) ∙ ap (λ (z : ℤ). (t.coefficient *ℤ below w t q) +ℤ z) (sum-agree w ts p q h)

past-agree : (w k : ℕ) (ts : List Term) (x : ℤ) (p q : ℕ → ℤ) → ((u : ℕ) → u < w → p u ≡ q u) → sum_past w k ts x p ≡ sum_past w k ts x q
unfolding sum_past
past-agree w k [] x p q h = refl
past-agree w k (t ∷ ts) x p q h =
    ap (λ (z : ℤ). past k (exponent w t) x (t.coefficient *ℤ z) +ℤ sum_past w k ts x p) (below-agree w t p q h)
    ∙ ap (λ (z : ℤ). past k (exponent w t) x (t.coefficient *ℤ below w t q) +ℤ z) (past-agree w k ts x p q h)

-- the exponents of the variables below a bound aren't all the same
unfoldable pub Differ : ℕ → Term → Term → Type 0
Differ w s t = ((v : ℕ) → v < w → exponent v s ≡ exponent v t) → ⊥

unfoldable pub Apart : ℕ → List Term → Type 0
Apart w [] = Unit {0}
Apart w (t ∷ ts) = AllByRecursion (Differ w t) ts × Apart w ts

all-chosen : (P : Term → Type 0) (w k : ℕ) (ts : List Term) → AllByRecursion P ts → AllByRecursion P (chosen w k ts)
unfolding chosen
all-chosen P w k [] h = tt
all-chosen P w k (t ∷ ts) h =
    let rest = all-chosen P w k ts h.1 in
    kept-by (AllByRecursion P) k (exponent w t) t (chosen w k ts) (λ is. (h.0, rest)) rest

-- those with the same exponent differ below
differ-chosen : (w k : ℕ) (s : Term) (ts : List Term) → k ≡ exponent w s → AllByRecursion (Differ (suc w) s) ts → AllByRecursion (Differ w s) (chosen w k ts)
unfolding chosen Differ
differ-chosen w k s [] same h = tt
differ-chosen w k s (t ∷ ts) same h =
    let rest = differ-chosen w k s ts same h.1 in
    kept-by (AllByRecursion (Differ w s)) k (exponent w t) t (chosen w k ts)
    (λ is. (λ all. h.0 (λ v r. at is v all (compare v w r)), rest)) rest where
      compare : (u v : ℕ) → u < suc v → (u ≡ v) ⊎ (u < v)
      compare u v r = grind arith

      at : k ≡ exponent w t → (v : ℕ) → ((u : ℕ) → u < w → exponent u s ≡ exponent u t) → (v ≡ w) ⊎ (v < w) → exponent v s ≡ exponent v t
      at e v all (inl is) = ap (λ (u : ℕ). exponent u s) is ∙ sym same ∙ e ∙ ap (λ (u : ℕ). exponent u t) (sym is)
      at e v all (inr less) = all v less

apart-chosen : (w k : ℕ) (ts : List Term) → Apart (suc w) ts → Apart w (chosen w k ts)
unfolding chosen Apart
apart-chosen w k [] h = tt
apart-chosen w k (t ∷ ts) h =
    let rest = apart-chosen w k ts h.1 in
    kept-by (Apart w) k (exponent w t) t (chosen w k ts) (λ is. (differ-chosen w k t ts is h.0, rest)) rest

IsSmallTerm : ℕ → Term → Type 0
IsSmallTerm limit term = IsSmall limit term.coefficient

-- terms that are apart and add up to a polynomial in the variables below a bound have numbers as great as its
Covers : ℕ → ℕ → Type 0
Covers limit w = (t : Expansion) (ts : List Term) → IsCanonical w t → Apart w ts → AllByRecursion (IsSmallTerm limit) ts
    → ((point : ℕ → ℤ) → value t point ≡ sum_below w ts point) → AllByRecursion (IsSmall limit) (coefficients t)

covers-none : (limit : ℕ) → 1 ≤ limit → Covers limit 0
unfolding Covers Apart Differ IsSmallTerm sum_below below
covers-none limit some (over v ps) ts c a h e = absurd (omega (arith, c.0))
covers-none limit some (number n) [] c a h e = (omega (arith, some, ap unsigned_abs (e (λ (u : ℕ). pos 0))), tt)
covers-none limit some (number n) (t ∷ []) c a h e =
    (subst (IsSmall limit) (sym (e (λ (u : ℕ). pos 0) ∙ plus (t.coefficient *ℤ pos 1) ∙ mul-one t.coefficient)) h.0, tt)
covers-none limit some (number n) (t ∷ u ∷ ts) c a h e = absurd (a.0.0 (λ v r. absurd (omega (arith, r))))

covers-parts : (limit w k : ℕ) (ps : Parts) (ts : List Term) → Covers limit w → AreCanonical w ps → Apart (suc w) ts → AllByRecursion (IsSmallTerm limit) ts
    → ((x : ℕ) (point : ℕ → ℤ) → parts_value ps (pos (suc x)) point ≡ sum_past w k ts (pos (suc x)) point) → AllByRecursion (IsSmall limit) (parts_coefficients ps)
unfolding Covers
covers-parts limit w k none ts lower c a h e = tt
covers-parts limit w k (part t ps) ts lower c a h e =
    let these = chosen w k ts in
    let at_all : (x : ℕ) (point : ℕ → ℤ) → value t point +ℤ (pos (suc x) *ℤ parts_value ps (pos (suc x)) point) ≡ sum_below w these point +ℤ (pos (suc x) *ℤ sum_past w (suc k) ts (pos (suc x)) point)
    = λ x point. e x point ∙ split w k ts (pos (suc x)) point in
    let same : (point : ℕ → ℤ) → value t point ≡ sum_below w these point
    = λ point. let n = unsigned_abs (value t point -ℤ sum_below w these point) in roots (value t point) (sum_below w these point) (parts_value ps (pos (suc n)) point) (sum_past w (suc k) ts (pos (suc n)) point) (at_all n point) in
    All-append (IsSmall limit) (coefficients t) (parts_coefficients ps)
    (lower t these c.0 (apart-chosen w k ts a) (all-chosen (IsSmallTerm limit) w k ts h) same)
    (covers-parts limit w (suc k) ps ts lower c.1 a h
    (λ x point. tails x (value t point) (sum_below w these point) (parts_value ps (pos (suc x)) point) (sum_past w (suc k) ts (pos (suc x)) point) (same point) (at_all x point)))

-- the terms at a point that may have any value of the variable
past-put : (w : ℕ) (ts : List Term) (x : ℤ) (point : ℕ → ℤ) → sum_below (suc w) ts (put point w x) ≡ sum_past w 0 ts x point
past-put w ts x point =
    sum-more w ts (put point w x) ∙ ap (λ (z : ℤ). sum_past w 0 ts z (put point w x)) (put-same point w x) ∙ past-agree w 0 ts x (put point w x) point (put-below point w x)

covers-more : (limit w : ℕ) → Covers limit w → Covers limit (suc w)
unfolding Covers
covers-more limit w lower t ts c a h e = by t c e where
  compare : (v : ℕ) → v < suc w → (v ≡ w) ⊎ (v < w)
  compare v r = grind arith

  front : (xs : List ℤ) → AllByRecursion (IsSmall limit) (xs ++ []) → AllByRecursion (IsSmall limit) xs
  front [] k = tt
  front (x ∷ xs) k = (k.0, front xs k.1)

  in_lower : (u : Expansion) → IsCanonical w u → ((point : ℕ → ℤ) → value u point ≡ sum_below (suc w) ts point) → AllByRecursion (IsSmall limit) (coefficients u)
  in_lower u d f = front (coefficients u) (covers-parts limit w 0 (part u none) ts lower (d, tt) a h
      (λ x point. ap (λ (z : ℤ). value u point +ℤ z) (mul-zero (pos (suc x))) ∙ plus (value u point)
      ∙ sym (agree w u (put point w (pos (suc x))) point d (put-below point w (pos (suc x)))) ∙ f (put point w (pos (suc x))) ∙ past-put w ts (pos (suc x)) point))

  at_top : (ps : Parts) → AreCanonical w ps → ((point : ℕ → ℤ) → value (over w ps) point ≡ sum_below (suc w) ts point) → AllByRecursion (IsSmall limit) (parts_coefficients ps)
  at_top ps d f = covers-parts limit w 0 ps ts lower d a h (λ x point. sym (at-put w ps point (pos (suc x)) d) ∙ f (put point w (pos (suc x))) ∙ past-put w ts (pos (suc x)) point)

  by : (u : Expansion) → IsCanonical (suc w) u → ((point : ℕ → ℤ) → value u point ≡ sum_below (suc w) ts point) → AllByRecursion (IsSmall limit) (coefficients u)
  by (number n) d f = in_lower (number n) tt f
  by (over v ps) d f = cases (compare v d.0) where
    cases : (v ≡ w) ⊎ (v < w) → AllByRecursion (IsSmall limit) (parts_coefficients ps)
    cases (inl is) = at_top ps (subst (λ (n : ℕ). AreCanonical n ps) is d.1) (λ point. ap (λ (n : ℕ). value (over n ps) point) (sym is) ∙ f point)
    cases (inr less) = in_lower (over v ps) (less, d.1, d.2) f

covers : (limit w : ℕ) → 1 ≤ limit → Covers limit w
covers limit zero some = covers-none limit some
covers limit (suc w) some = covers-more limit w (covers limit w some)

-- what differs in lists of one length differs in their members
pub same-lists : (es fs : List ℕ) → length es ≡ length fs → ((v : ℕ) → v < length es → get_or es v 0 ≡ get_or fs v 0) → es ≡ fs
same-lists [] [] e h = refl
same-lists [] (f ∷ fs) e h = absurd (omega (arith, e))
same-lists (x ∷ es) [] e h = absurd (omega (arith, e))
same-lists (x ∷ es) (f ∷ fs) e h =
    ap (λ (y : ℕ). y ∷ es) (h 0 (omega arith)) ∙ ap (λ (ys : List ℕ). f ∷ ys) (same-lists es fs (omega (arith, e)) (λ v r. h (suc v) (omega arith)))

apart : (ts : List Term) → AllByRecursion HasExponents ts → AreApart ts → Apart 24 ts
unfolding Apart Differ exponent
apart [] low h = tt
apart (t ∷ ts) low h = (each ts h.0, apart ts low.1 h.1) where
  each : (us : List Term) → AllByRecursion (λ (later : Term). (length later.exponents ≡ length t.exponents) × (later.exponents ≡ t.exponents → ⊥)) us → AllByRecursion (Differ 24 t) us
  each [] k = tt
  each (u ∷ us) k = (λ same. k.0.1 (sym (same-lists t.exponents u.exponents (sym k.0.0) (λ v r. same v (omega (arith, low.0.0))))), each us k.1)

-- the terms at a list of values
sum-terms : (ts : List Term) (point : List ℤ) → AllByRecursion HasExponents ts → sum_below 24 ts (at point) ≡ terms_value ts point
unfolding sum_below below
sum-terms [] point low = refl
sum-terms (t ∷ ts) point low =
    ap (λ (z : ℤ). (t.coefficient *ℤ z) +ℤ sum_below 24 ts (at point)) (ap (λ (es : List ℕ). powers_from es 0 (at point)) (take_all 24 t.exponents low.0.0) ∙ powers-monomial t.exponents [] point 0 refl)
    ∙ ap (λ (z : ℤ). (t.coefficient *ℤ monomial t.exponents point) +ℤ z) (sum-terms ts point low.1)

pub small-sum : (limit : ℕ) (t : Expansion) (ts : List Term) → 1 ≤ limit → AllByRecursion HasExponents ts → AreApart ts → AllByRecursion (λ (term : Term). IsSmall limit term.coefficient) ts → IsTermsSum ts 24 t → AllByRecursion (IsSmall limit) (coefficients t)
unfolding Covers IsSmallTerm
small-sum limit t ts some low h small is =
    covers limit 24 some t ts is.canonical (apart ts low h) small
    (λ point. sym (agree 24 t (at (listed point 24)) point is.canonical (at-listed point 24)) ∙ is.sum (listed point 24)
    ∙ sym (sum-terms ts (listed point 24) low) ∙ sum-agree 24 ts (at (listed point 24)) point (at-listed point 24))

-- what is multiplied is no greater
mutual
  small-part : (limit k : ℕ) (t : Expansion) → 1 ≤ k → AllByRecursion (IsSmall limit) (coefficients (scaled (pos k) t)) → AllByRecursion (IsSmall limit) (coefficients t)
  small-part limit k (number n) some h = (less (unsigned_abs n) (unsigned_abs (pos k *ℤ n)) (unsigned_abs-mul (pos k) n) h.0, tt) where
    less : (m r : ℕ) → r ≡ k * m → r < limit → m < limit
    less m r e l = let q : 1 * m ≤ k * m = mul-le-mul some (omega arith) in omega arith
  small-part limit k (over v ps) some h = small-parts limit k ps some h

  small-parts : (limit k : ℕ) (ps : Parts) → 1 ≤ k → AllByRecursion (IsSmall limit) (parts_coefficients (parts_scaled (pos k) ps)) → AllByRecursion (IsSmall limit) (parts_coefficients ps)
  small-parts limit k none some h = tt
  small-parts limit k (part t ps) some h =
      let both = halves (coefficients (scaled (pos k) t)) (parts_coefficients (parts_scaled (pos k) ps)) h in
      All-append (IsSmall limit) (coefficients t) (parts_coefficients ps) (small-part limit k t some both.0) (small-parts limit k ps some both.1) where
        halves : (xs ys : List ℤ) → AllByRecursion (IsSmall limit) (xs ++ ys) → AllByRecursion (IsSmall limit) xs × AllByRecursion (IsSmall limit) ys
        halves [] ys a = (tt, a)
        halves (x ∷ xs) ys a = let rest = halves xs ys a.1 in ((a.0, rest.0), rest.1)

-- terms over a denominator, without common factors
pub no-greater : (ts : List Term) (t : Expansion) (d : ℕ) (r : Quotient) → AllByRecursion HasExponents ts → AreApart ts → IsTermsSum ts 24 t → IsReduced t d r → IsNoGreater ts d r
no-greater ts t d r low h is reduced = record {
  numbers = λ limit some small. small-part limit reduced.factor r.tree reduced.some
      (subst (λ (u : Expansion). AllByRecursion (IsSmall limit) (coefficients u)) (sym reduced.tree) (small-sum limit t ts some low h small is));
  over = smaller reduced.factor r.denominator d reduced.some reduced.over;
  light = lighter (weight r.tree) (weight t) reduced.factor r.denominator d reduced.some (sym (weight-scaled (pos reduced.factor) r.tree) ∙ ap weight reduced.tree) is.light reduced.over;
  variables = unscaled 24 (pos reduced.factor) r.tree (subst (IsCanonical 24) (sym reduced.tree) is.canonical);
} where
  smaller : (f q n : ℕ) → 1 ≤ f → f * q ≡ n → q ≤ n
  smaller f q n some e = let k : 1 * q ≤ f * q = mul-le-mul some (omega arith) in omega arith

  lighter : (u w f q n : ℕ) → 1 ≤ f → f * u ≡ w → w ≤ terms_weight ts → f * q ≡ n → max 1 u * q ≤ max 1 (terms_weight ts) * n
  lighter u w f q n some e le whole =
      let one : 1 * u ≤ f * u = mul-le-mul some (omega arith) in
      mul-le-mul (omega arith) (smaller f q n some whole)
