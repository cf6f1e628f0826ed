-- Bounds of nests, place by place.
use Rattle.std.proofs.Common.{◌≡◌, ℕ, zero, suc, ◌+◌, ◌<◌, List, [], ◌∷◌, length, take, get_or, subst, sym, arith}
use Rattle.std.proofs.lemmas.List.{length-take-le}
use Rattle.std.proofs.Math.Nat.{add-zero}
use Rattle.iolb_model.specs.Form.{AffineForm}
use Rattle.affine_form.specs.Rows.{BoundsFit, IsSmallOver}
use Rattle.claims.proofs.Members.{suc-moved}

-- the bounds at a place are over the variables before it
pub BoundsFit-at : (vars k : ℕ) (nest : List (AffineForm × AffineForm)) (d : AffineForm × AffineForm) → BoundsFit vars nest → k < length nest
    → IsSmallOver (vars + k) (get_or nest k d).0 × IsSmallOver (vars + k) (get_or nest k d).1
BoundsFit-at vars k [] d h below = absurd (omega arith)
BoundsFit-at vars zero (b ∷ nest) d h below =
    subst (λ (n : ℕ). IsSmallOver n b.0 × IsSmallOver n b.1) (sym (add-zero vars)) h.0
BoundsFit-at vars (suc k) (b ∷ nest) d h below =
    subst (λ (n : ℕ). IsSmallOver n (get_or nest k d).0 × IsSmallOver n (get_or nest k d).1) (suc-moved vars k) (BoundsFit-at (suc vars) k nest d h.1 (omega arith))

-- the bounds that are read at a place are over the variables before it
pub BoundsFit-read : (vars k : ℕ) (nest : List (AffineForm × AffineForm)) (b : AffineForm × AffineForm) → BoundsFit vars nest → k < length nest → b ≡ get_or nest k b
    → IsSmallOver (vars + length (take k nest)) b.0 × IsSmallOver (vars + length (take k nest)) b.1
BoundsFit-read vars k nest b h below e =
    subst (λ (n : ℕ). IsSmallOver (vars + n) b.0 × IsSmallOver (vars + n) b.1) (sym (length-take-le k nest (omega arith)))
    (subst (λ (x : AffineForm × AffineForm). IsSmallOver (vars + k) x.0 × IsSmallOver (vars + k) x.1) (sym e) (BoundsFit-at vars k nest b h below))
