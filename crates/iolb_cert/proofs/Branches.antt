-- The branches of a bound, printed one after another.
use Rattle.std.proofs.Common.{◌≡◌, sym, ◌∙◌, ap, ℕ, zero, suc, ◌+◌, List, [], ◌∷◌, ◌++◌, drop, map, append_assoc, arith}
use Rattle.std.specs.Prelude.{Some, slice_get, flat_map, codes, decimal}
use Rattle.iolb_model.specs.Bound.{BoundTerm}
use Rattle.iolb_check.specs.declared.bound.Value.{Value}
use Rattle.iolb_check.specs.Bounds.{terms_of}
use Rattle.iolb_model.specs.Printed.{branches_text, bound_term_text}

pub drop_get : {A : Type 0} (xs : List A) (i : ℕ) (x : A) → slice_get xs i ≡ Some x → drop i xs ≡ x ∷ drop (suc i) xs
drop_get [] zero x e = absurd cc
drop_get [] (suc i) x e = absurd cc
drop_get (y ∷ xs) zero x e = ap (λ z. z ∷ xs) cc
drop_get (y ∷ xs) (suc i) x e = drop_get xs i x e

pub branches_step : (names : List (List ℕ)) (i : ℕ) (bs : List (List BoundTerm)) (terms : List BoundTerm) → slice_get bs i ≡ Some terms
    → branches_text names i (drop i bs) ≡ codes "branch " ++ decimal i ++ codes "\n" ++ flat_map (bound_term_text names) terms ++ branches_text names (i + 1) (drop (i + 1) bs)
branches_step names i bs terms e =
    let next : suc i ≡ i + 1 = omega arith in
    ap (branches_text names i) (drop_get bs i terms e)
    ∙ ap (λ (j : ℕ). codes "branch " ++ decimal i ++ codes "\n" ++ flat_map (bound_term_text names) terms ++ branches_text names (i + 1) (drop j bs)) next

pub joined : (new old mid ext lines word num end tail rest whole : List ℕ) → new ≡ mid ++ ext → ext ≡ lines → mid ≡ old ++ word ++ num ++ end
    → rest ≡ word ++ num ++ end ++ lines ++ tail → old ++ rest ≡ whole → new ++ tail ≡ whole
joined new old mid ext lines word num end tail rest whole a b c d e = rw (a, b, c) (simp append_assoc (simp append_assoc at (sym (ap (λ r. old ++ r) d)) ∙ e))

-- the terms of a branch that is there
pub terms-at : (branches : List (List Value)) (i : ℕ) (terms : List Value) → slice_get branches i ≡ Some terms → slice_get (map terms_of branches) i ≡ Some (terms_of terms)
terms-at [] i terms e = absurd cc
terms-at (b ∷ branches) zero terms e = ap (λ t. Some (terms_of t)) (same b terms e) where
  same : (a b : List Value) → Some a ≡ Some b → a ≡ b
  same a b p = cc
terms-at (b ∷ branches) (suc i) terms e = terms-at branches i terms e
