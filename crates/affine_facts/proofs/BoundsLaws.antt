-- Bounds of one more variable.
use Rattle.std.proofs.Common.{◌≡◌, subst, ℕ, suc, ◌+◌, List, [], ◌∷◌, ◌++◌, length, arith}
use Rattle.iolb_model.specs.Form.{AffineForm}
use Rattle.affine_form.specs.Rows.{BoundsFit, IsSmallOver}

pub BoundsFit-push : (vars : ℕ) (nest : List (AffineForm × AffineForm)) (bounds : AffineForm × AffineForm) → BoundsFit vars nest
    → IsSmallOver (vars + length nest) bounds.0 × IsSmallOver (vars + length nest) bounds.1 → BoundsFit vars (nest ++ bounds ∷ [])
BoundsFit-push vars [] bounds h small = (subst (λ (n : ℕ). IsSmallOver n bounds.0 × IsSmallOver n bounds.1) none small, tt) where
  none : vars + 0 ≡ vars
  none = omega arith
BoundsFit-push vars (first ∷ nest) bounds h small =
    (h.0, BoundsFit-push (suc vars) nest bounds h.1 (subst (λ (n : ℕ). IsSmallOver n bounds.0 × IsSmallOver n bounds.1) moved small)) where
      moved : vars + suc (length nest) ≡ suc vars + length nest
      moved = omega arith
