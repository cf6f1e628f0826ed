-- The values of terms whose words were computed, one term more.
use Rattle.std.proofs.Common.{◌≡◌, refl, sym, ◌∙◌, ap, ℕ, zero, suc, ◌+◌, ◌≤◌, Bool, true, false, min, List, [], ◌∷◌, length, drop, map, arith}
use Rattle.std.specs.Prelude.{ℤ, if◌then◌else◌}
use Rattle.std.proofs.lemmas.List.Sums.{sum-map, sum_by-cons}
use Rattle.iolb_check.specs.Bounds.{term_of, terms_of}
use Rattle.iolb_check.specs.Claims.{TermClaim, claim_of_term}
use Rattle.iolb_check.specs.declared.term.Term.{Term}
use Rattle.iolb_check.specs.declared.bound.Value.{Value}
use Rattle.iolb_model.specs.Bound.{BoundTerm, branch_value, term_value}
use Rattle.store_bound.specs.Counted.{computed_values, is_computed}
use Rattle.store_bound.specs.Values.{word_value}

branch-more : (t : BoundTerm) (ts : List BoundTerm) (sizes : List ℤ) (s : ℕ) → branch_value (t ∷ ts) sizes s ≡ term_value t sizes s + branch_value ts sizes s
branch-more t ts sizes s =
    sum-map (λ (u : BoundTerm). term_value u sizes s) (t ∷ ts) ∙ sum_by-cons (λ (u : BoundTerm). term_value u sizes s) t ts
    ∙ ap (λ (n : ℕ). term_value t sizes s + n) (sym (sum-map (λ (u : BoundTerm). term_value u sizes s) ts))

pub one-more : (term : TermClaim) (value : Value) (terms : List TermClaim) (values : List Value) (sizes : List ℤ) (s : ℕ)
    → branch_value (terms_of (computed_values (term ∷ terms) (value ∷ values))) sizes s ≡ word_value term value sizes s + branch_value (terms_of (computed_values terms values)) sizes s
one-more term value terms values sizes s = by (is_computed term) where
  by : (b : Bool) → branch_value (terms_of (if b then value ∷ computed_values terms values else computed_values terms values)) sizes s
      ≡ (if b then term_value (term_of value) sizes s else 0) + branch_value (terms_of (computed_values terms values)) sizes s
  by true = branch-more (term_of value) (terms_of (computed_values terms values)) sizes s
  by false = omega arith

-- none is left where one of both lists ends
pub none-left : (terms : List Term) (values : List Value) (i : ℕ) → min (length terms) (length values) ≤ i → computed_values (map claim_of_term (drop i terms)) (drop i values) ≡ []
none-left [] values zero h = refl
none-left [] values (suc i) h = refl
none-left (t ∷ terms) [] zero h = refl
none-left (t ∷ terms) [] (suc i) h = no-values (drop i terms) where
  no-values : (ts : List Term) → computed_values (map claim_of_term ts) [] ≡ []
  no-values [] = refl
  no-values (u ∷ ts) = refl
none-left (t ∷ terms) (v ∷ values) zero h = absurd (omega (arith, h))
none-left (t ∷ terms) (v ∷ values) (suc i) h = none-left terms values i (omega (arith, h))
