-- Values at boundaries, one after the other.
use Rattle.std.proofs.Common.{◌≡◌, refl, sym, ◌∙◌, ap, subst, inl, inr, ℕ, zero, suc, ◌+◌, ◌<◌, ◌≤◌, ℤ, List, [], ◌∷◌, ◌++◌, length, map, get_or, arith}
use Rattle.std.specs.Prelude.{◌⊎◌}
use Rattle.std.specs.List.{range_with_len}
use Rattle.std.proofs.lemmas.Bool.{cases_eq}
use Rattle.std.proofs.lemmas.List.Sums.{sum_by_more}
use Rattle.base_laws.proofs.Ranges.{range-more}
use Rattle.iolb_model.specs.Tower.{capacity_up_to}
use Rattle.iolb_check.specs.Bounds.{HasWideBranch}
use Rattle.iolb_check.specs.declared.bound.Value.{Value}
use Rattle.memory_levels.specs.Climbs.{boundaries}
use Rattle.memory_levels.specs.Values.{IsWideAtLevels}

-- the levels up to one more
pub sum-more : (capacities : List ℕ) (i held : ℕ) → i < length capacities → held ≡ capacity_up_to capacities i → held + get_or capacities i 0 ≡ capacity_up_to capacities (i + 1)
sum-more capacities i held below e = omega (arith, e, sum_by_more (λ (n : ℕ). n) capacities i 0 below)

map-more : (f : ℕ → ℕ) (xs : List ℕ) (y : ℕ) → map f (xs ++ y ∷ []) ≡ map f xs ++ f y ∷ []
map-more f [] y = refl
map-more f (x ∷ xs) y = ap (λ (l : List ℕ). f x ∷ l) (map-more f xs y)

-- one value more
pub next-values : (f : ℕ → ℕ) (i v : ℕ) (so_far next : List ℕ) → so_far ≡ map f (boundaries i) → v ≡ f (i + 1) → next ≡ so_far ++ v ∷ [] → next ≡ map f (boundaries (i + 1))
next-values f i v so_far next p q e =
    e ∙ ap (λ (l : List ℕ). l ++ v ∷ []) p ∙ ap (λ (x : ℕ). map f (boundaries i) ++ x ∷ []) (q ∙ ap f (swap i))
    ∙ sym (map-more f (boundaries i) (1 + i)) ∙ ap (map f) (sym (range-more 1 i)) where
      swap : (n : ℕ) → n + 1 ≡ 1 + n
      swap n = omega arith

-- one boundary more where nothing is wide
pub narrow-more : (sizes : List ℤ) (capacities : List ℕ) (branches : List (List Value)) (i : ℕ)
    → ((boundary : ℕ) → 1 ≤ boundary → boundary ≤ i → HasWideBranch sizes (capacity_up_to capacities boundary) branches → ⊥)
    → ¬ HasWideBranch sizes (capacity_up_to capacities (i + 1)) branches
    → (boundary : ℕ) → 1 ≤ boundary → boundary ≤ i + 1 → HasWideBranch sizes (capacity_up_to capacities boundary) branches → ⊥
narrow-more sizes capacities branches i before here boundary some within wide = by (cases_eq boundary (i + 1)) where
  by : (boundary ≡ i + 1) ⊎ (boundary ≡ i + 1 → ⊥) → ⊥
  by (inl e) = here (subst (λ (b : ℕ). HasWideBranch sizes (capacity_up_to capacities b) branches) e wide)
  by (inr apart) = before boundary some (omega (arith, within, apart)) wide

pub narrow-all : (sizes : List ℤ) (capacities : List ℕ) (branches : List (List Value)) (i : ℕ) → length capacities ≤ i
    → ((boundary : ℕ) → 1 ≤ boundary → boundary ≤ i → HasWideBranch sizes (capacity_up_to capacities boundary) branches → ⊥)
    → ¬ IsWideAtLevels sizes capacities branches
narrow-all sizes capacities branches i all narrow wide = narrow wide.boundary wide.fast.0 (omega (arith, wide.fast.1, all)) wide.wide

pub wide-here : (sizes : List ℤ) (capacities : List ℕ) (branches : List (List Value)) (i held : ℕ) → i < length capacities
    → held ≡ capacity_up_to capacities (i + 1) → HasWideBranch sizes held branches → IsWideAtLevels sizes capacities branches
wide-here sizes capacities branches i held below e wide = record {
  boundary = i + 1;
  fast = (omega arith, omega (arith, below));
  wide = subst (λ (s : ℕ). HasWideBranch sizes s branches) e wide;
}
