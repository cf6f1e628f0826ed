-- Expansions by lists of their parts.
use Rattle.std.proofs.Common.{◌≡◌, ◌≢◌, ℕ, zero, suc, ◌+◌, ◌<◌, ◌≤◌, List, [], ◌∷◌, ◌++◌, length, get_or, map, arith, subst, sym, refl, ◌∙◌, ap}
use Rattle.std.proofs.Math.IntN.{ℤ, pos, ◌+ℤ◌, ◌*ℤ◌}
use Rattle.std.proofs.lemmas.Int.{ints}
use Rattle.base_laws.proofs.Ring.{mul-zero}
use Rattle.poly_tree.specs.Expansion.{Expansion, number, over, part, zero_expansion, parts_from, value, parts_value, weight, parts_weight, scaled, parts_scaled, LastNonzero, EndsNonzero, HasTop, IsCanonical, AreCanonical, IsTrimmed, IsJoined, parts_count, PartsDegreesAtMost}

-- a zero at the end has no value
parts_value-zero : (ts : List Expansion) (x : ℤ) (point : ℕ → ℤ) → parts_value (parts_from (ts ++ zero_expansion ∷ [])) x point ≡ parts_value (parts_from ts) x point
parts_value-zero [] x point = ap (λ (y : ℤ). pos 0 +ℤ y) (mul-zero x)
parts_value-zero (t ∷ ts) x point = ap (λ (y : ℤ). value t point +ℤ (x *ℤ y)) (parts_value-zero ts x point)

-- and no weight
parts_weight-zero : (ts : List Expansion) → parts_weight (parts_from (ts ++ zero_expansion ∷ [])) ≡ parts_weight (parts_from ts)
parts_weight-zero [] = refl
parts_weight-zero (t ∷ ts) = ap (λ (n : ℕ). weight t + n) (parts_weight-zero ts)

-- what is canonical is so without its end
AreCanonical-front : (bound : ℕ) (ts : List Expansion) (u : Expansion) → AreCanonical bound (parts_from (ts ++ u ∷ [])) → AreCanonical bound (parts_from ts)
AreCanonical-front bound [] u h = tt
AreCanonical-front bound (t ∷ ts) u h = (h.0, AreCanonical-front bound ts u h.1)

-- how many parts there are
pub parts_count-length : (ts : List Expansion) → parts_count (parts_from ts) ≡ length ts
parts_count-length [] = refl
parts_count-length (t ∷ ts) = ap suc (parts_count-length ts)

parts_count-push : (ts : List Expansion) (u : Expansion) → parts_count (parts_from (ts ++ u ∷ [])) ≡ parts_count (parts_from ts) + 1
parts_count-push [] u = refl
parts_count-push (t ∷ ts) u = omega (arith, parts_count-push ts u)

-- what has low degrees has them without its end
degrees-front : (d : ℕ) (ts : List Expansion) (u : Expansion) → PartsDegreesAtMost d (parts_from (ts ++ u ∷ [])) → PartsDegreesAtMost d (parts_from ts)
degrees-front d [] u h = tt
degrees-front d (t ∷ ts) u h = (h.0, degrees-front d ts u h.1)

-- one zero more is taken off
pub IsTrimmed-more : (old ts front : List Expansion) → ts ≡ front ++ zero_expansion ∷ [] → IsTrimmed old ts → IsTrimmed old front
IsTrimmed-more old ts front e h = record {
  same = λ x point. h.same x point ∙ ap (λ (us : List Expansion). parts_value (parts_from us) x point) e ∙ parts_value-zero front x point;
  light = omega (arith, h.light, ap (λ (us : List Expansion). parts_weight (parts_from us)) e, parts_weight-zero front);
  canonical = λ bound c. AreCanonical-front bound front zero_expansion (subst (λ (us : List Expansion). AreCanonical bound (parts_from us)) e (h.canonical bound c));
  count = omega (arith, h.count, ap (λ (us : List Expansion). parts_count (parts_from us)) e, parts_count-push front zero_expansion);
  degrees = λ d c. degrees-front d front zero_expansion (subst (λ (us : List Expansion). PartsDegreesAtMost d (parts_from us)) e (h.degrees d c));
}

-- the last of parts that end in one that isn't zero
LastNonzero-end : (t : Expansion) (ts : List Expansion) (u : Expansion) → u ≢ zero_expansion → LastNonzero t (parts_from (ts ++ u ∷ []))
LastNonzero-end t [] u h = h
LastNonzero-end t (s ∷ ts) u h = LastNonzero-end s ts u h

pub EndsNonzero-end : (ts front : List Expansion) (u : Expansion) → ts ≡ front ++ u ∷ [] → u ≢ zero_expansion → EndsNonzero ts
EndsNonzero-end ts front u e h = subst EndsNonzero (sym e) (at front) where
  at : (us : List Expansion) → EndsNonzero (us ++ u ∷ [])
  at [] = h
  at (s ∷ us) = LastNonzero-end s us u h

-- two or more parts that don't end in zero have a top
HasTop-from : (ts : List Expansion) → 2 ≤ length ts → EndsNonzero ts → HasTop (parts_from ts)
HasTop-from [] p h = absurd (omega arith)
HasTop-from (t ∷ []) p h = absurd (omega arith)
HasTop-from (t ∷ u ∷ ts) p h = h

-- a canonical polynomial is so below a greater bound
pub IsCanonical-more : (bound more : ℕ) (t : Expansion) → bound ≤ more → IsCanonical bound t → IsCanonical more t
IsCanonical-more bound more (number n) le h = tt
IsCanonical-more bound more (over v ps) le h = (omega (arith, h.0), h.1, h.2)

-- two or more trimmed parts joined
pub IsJoined-over : (v : ℕ) (old ts : List Expansion) → IsTrimmed old ts → EndsNonzero ts → 2 ≤ length ts → IsJoined v (parts_from old) (over v (parts_from ts))
IsJoined-over v old ts h ends many = record {
  same = λ point. sym (h.same (point v) point);
  light = h.light;
  canonical = λ bound below c. (below, h.canonical v c, HasTop-from ts many ends);
  degrees = λ d few c. (omega (arith, h.count), h.degrees d c);
}

-- a part is no heavier than all
pub weight-part : (ts : List Expansion) (k : ℕ) (d : Expansion) → k < length ts → weight (get_or ts k d) ≤ parts_weight (parts_from ts)
weight-part [] k d p = absurd (omega arith)
weight-part (t ∷ ts) zero d p = omega arith
weight-part (t ∷ ts) (suc k) d p = omega (arith, weight-part ts k d (omega arith))

-- multiples of the parts
pub parts_from-scaled : (k : ℤ) (ts : List Expansion) → parts_from (map (scaled k) ts) ≡ parts_scaled k (parts_from ts)
parts_from-scaled k [] = refl
parts_from-scaled k (t ∷ ts) = ap (part (scaled k t)) (parts_from-scaled k ts)
