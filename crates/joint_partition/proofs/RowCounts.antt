-- How many rows there are.
use Rattle.std.proofs.Common.{◌≡◌, ap, ℕ, ◌*◌, ◌≤◌, List, [], ◌∷◌, length, arith}
use Rattle.std.proofs.lemmas.List.{length-map}
use Rattle.iolb_model.specs.Form.{AffineForm}
use Rattle.affine_form.specs.Rows.{equality_rows, put_in}
use Rattle.affine_form.specs.Substitution.{substitution}

equalities : (vars : ℕ) (fs gs : List AffineForm) → length (equality_rows vars fs gs) ≤ 2 * length fs
equalities vars [] gs = omega arith
equalities vars (f ∷ fs) [] = omega arith
equalities vars (f ∷ fs) (g ∷ gs) = omega (arith, equalities vars fs gs)

-- rows which say that forms at a point are equal to others
pub equalities-few : (vars : ℕ) (point forms gs rows : List AffineForm) → rows ≡ equality_rows vars (put_in point forms) gs → length rows ≤ 2 * length forms
equalities-few vars point forms gs rows is =
    omega (arith, ap length is, equalities vars (put_in point forms) gs, length-map forms (λ (form : AffineForm). substitution form point))
