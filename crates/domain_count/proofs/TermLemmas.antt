-- The terms of coefficients and of rows of power sums are such as polynomials are made of.
use Rattle.std.proofs.Common.{◌≡◌, ◌≢◌, refl, sym, subst, ◌∙◌, ℕ, zero, suc, ◌+◌, ◌<◌, ◌≤◌, List, [], ◌∷◌, ◌++◌, length, get_or, replicate, arith, Bool, true, false, cond, inl, inr}
use Rattle.std.specs.Prelude.{◌==◌, slice_set, filter, map}
use Rattle.std.specs.List.{AllByRecursion}
use Rattle.std.proofs.Math.IntN.{ℤ}
use Rattle.std.proofs.lemmas.List.{length-append, length-replicate, length-set}
use Rattle.std.proofs.lemmas.Bool.Decides.{eqb_tells}
use Rattle.base_laws.proofs.Lists.{All-append, All-replicate}
use Rattle.iolb_model.specs.Polynomial.{Term}
use Rattle.poly_tree.specs.Terms.{AreApart, HasExponents}
use Rattle.domain_count.specs.Coefficients.{coefficient_terms, exponent_of, power_terms, without}

-- exponents with one that is 0 are as low
low-set : (es : List ℕ) (v : ℕ) → AllByRecursion (λ e. e ≤ 8) es → AllByRecursion (λ e. e ≤ 8) (slice_set es v 0)
low-set [] v h = tt
low-set (e ∷ es) zero h = (omega arith, h.1)
low-set (e ∷ es) (suc v) h = (h.0, low-set es v h.1)

-- lists with the same number at a place that are the same without it are the same
same-set : (es fs : List ℕ) (v : ℕ) → length es ≡ length fs → get_or es v 0 ≡ get_or fs v 0 → slice_set es v 0 ≡ slice_set fs v 0 → es ≡ fs
same-set [] [] v l g s = refl
same-set [] (f ∷ fs) v l g s = absurd (omega arith)
same-set (e ∷ es) [] v l g s = absurd (omega arith)
same-set (e ∷ es) (f ∷ fs) zero l g s = let rest : es ≡ fs = cc in cc
same-set (e ∷ es) (f ∷ fs) (suc v) l g s =
    let first : e ≡ f = cc in
    let others : slice_set es v 0 ≡ slice_set fs v 0 = cc in
    let rest : es ≡ fs = same-set es fs v (omega (arith, l)) g others in cc

-- what holds of the members that are kept, each changed
kept : {X : Type 0} (P : X → Type 0) (f : X → X) (b : Bool) (x : X) (xs : List X) → (b ≡ true → P (f x)) → AllByRecursion P (map f xs) → AllByRecursion P (map f (cond b (x ∷ xs) xs))
kept P f true x xs h g = (h refl, g)
kept P f false x xs h g = g

-- a test of a power that says yes
said : (a b : ℕ) → (a == b) ≡ true → a ≡ b
said a b holds = elim (eqb_tells a b) [ inl both ↦ both.1 | inr neither ↦ let no : (a == b) ≡ false = neither.0 in absurd cc ]

-- the terms of a coefficient have exponents as terms have
pub coefficient-exponents : (v e : ℕ) (ts : List Term) → AllByRecursion HasExponents ts → AllByRecursion HasExponents (coefficient_terms v e ts)
coefficient-exponents v e [] h = tt
coefficient-exponents v e (t ∷ ts) h =
    kept HasExponents (without v) (exponent_of v t == e) t (filter (λ term. exponent_of v term == e) ts)
    (λ holds. (subst (λ (n : ℕ). n ≤ 24) (sym (length-set t.exponents v 0)) h.0.0, low-set t.exponents v h.0.1))
    (coefficient-exponents v e ts h.1)

-- and they are apart
coefficient-differ : (v e : ℕ) (t : Term) (ts : List Term) → exponent_of v t ≡ e
    → AllByRecursion (λ (later : Term). (length later.exponents ≡ length t.exponents) × (later.exponents ≢ t.exponents)) ts
    → AllByRecursion (λ (later : Term). (length later.exponents ≡ length (without v t).exponents) × (later.exponents ≢ (without v t).exponents)) (coefficient_terms v e ts)
coefficient-differ v e t [] is h = tt
coefficient-differ v e t (u ∷ ts) is h =
    kept (λ (later : Term). (length later.exponents ≡ length (without v t).exponents) × (later.exponents ≢ (without v t).exponents)) (without v)
    (exponent_of v u == e) u (filter (λ term. exponent_of v term == e) ts)
    (λ holds. (
      length-set u.exponents v 0 ∙ h.0.0 ∙ sym (length-set t.exponents v 0),
      λ same. h.0.1 (same-set u.exponents t.exponents v h.0.0 (said (exponent_of v u) e holds ∙ sym is) same),
    ))
    (coefficient-differ v e t ts is h.1)

-- one more that is kept, where it is
one-more : (b : Bool) (f : Term → Term) (t : Term) (ts : List Term)
    → (b ≡ true → AllByRecursion (λ (later : Term). (length later.exponents ≡ length (f t).exponents) × (later.exponents ≢ (f t).exponents)) (map f ts))
    → AreApart (map f ts) → AreApart (map f (cond b (t ∷ ts) ts))
one-more true f t ts h g = (h refl, g)
one-more false f t ts h g = g

pub coefficient-apart : (v e : ℕ) (ts : List Term) → AreApart ts → AreApart (coefficient_terms v e ts)
coefficient-apart v e [] h = tt
coefficient-apart v e (t ∷ ts) h =
    one-more (exponent_of v t == e) (without v) t (filter (λ term. exponent_of v term == e) ts)
    (λ holds. coefficient-differ v e t ts (said (exponent_of v t) e holds) h.0)
    (coefficient-apart v e ts h.1)

-- the exponents of a power of a variable
last-same : (v e f : ℕ) → (replicate v 0 ++ e ∷ []) ≡ (replicate v 0 ++ f ∷ []) → e ≡ f
last-same zero e f s = cc
last-same (suc v) e f s = let rest : (replicate v 0 ++ e ∷ []) ≡ (replicate v 0 ++ f ∷ []) = cc in last-same v e f rest

length-power : (v e : ℕ) → length (replicate v 0 ++ e ∷ []) ≡ v + 1
length-power v e = omega (arith, length-append (replicate v 0) (e ∷ []), length-replicate {A = ℕ} v 0)

pub power-exponents : (v e : ℕ) (cs : List ℤ) → v < 24 → e + length cs ≤ 9 → AllByRecursion HasExponents (power_terms v e cs)
power-exponents v e [] few low = tt
power-exponents v e (c ∷ cs) few low = (
  (omega (arith, length-power v e), All-append (λ (f : ℕ). f ≤ 8) (replicate v 0) (e ∷ []) (All-replicate (λ (f : ℕ). f ≤ 8) v 0 (omega arith)) (omega arith, tt)),
  power-exponents v (suc e) cs few (omega arith),
)

power-differ : (v e f : ℕ) (cs : List ℤ) → e < f
    → AllByRecursion (λ (later : Term). (length later.exponents ≡ length (replicate v 0 ++ e ∷ [])) × (later.exponents ≢ (replicate v 0 ++ e ∷ []))) (power_terms v f cs)
power-differ v e f [] less = tt
power-differ v e f (c ∷ cs) less =
    ((length-power v f ∙ sym (length-power v e), λ same. let is : f ≡ e = last-same v f e same in omega arith), power-differ v e (suc f) cs (omega arith))

pub power-apart : (v e : ℕ) (cs : List ℤ) → AreApart (power_terms v e cs)
power-apart v e [] = tt
power-apart v e (c ∷ cs) = (power-differ v e (suc e) cs (omega arith), power-apart v (suc e) cs)
