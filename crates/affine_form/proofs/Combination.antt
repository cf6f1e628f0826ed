-- Sums of forms: their coefficients, constants and values.
use Rattle.std.proofs.Common.{◌≡◌, ℕ, zero, suc, List, [], ◌∷◌, length, get_or, map, replicate, arith, sym, refl, ◌∙◌, ap}
use Rattle.std.proofs.Math.IntN.{ℤ, pos, ◌+ℤ◌, ◌*ℤ◌}
use Rattle.std.proofs.lemmas.Int.{ints}
use Rattle.base_laws.proofs.Ring.{mul-add, mul-zero, zero-mul, add-mul, mul_assoc_ℤ, add_pairs}
use Rattle.iolb_model.specs.Form.{AffineForm, dot, form_value}
use Rattle.affine_form.specs.Combination.{add_lists, add_forms, scale_form, constant_form, combination, coefficient_of}

-- a place in a sum of lists
pub get_or-add_lists : (xs ys : List ℤ) (k : ℕ) → get_or (add_lists xs ys) k (pos 0) ≡ get_or xs k (pos 0) +ℤ get_or ys k (pos 0)
get_or-add_lists [] ys k = omega (arith, ints)
get_or-add_lists (x ∷ xs) [] k = omega (arith, ints)
get_or-add_lists (x ∷ xs) (y ∷ ys) zero = refl
get_or-add_lists (x ∷ xs) (y ∷ ys) (suc k) = get_or-add_lists xs ys k

-- a place in a list times a number
pub get_or-scale : (a : ℤ) (xs : List ℤ) (k : ℕ) → get_or (map (λ (x : ℤ). a *ℤ x) xs) k (pos 0) ≡ a *ℤ get_or xs k (pos 0)
get_or-scale a [] k = sym (mul-zero a)
get_or-scale a (x ∷ xs) zero = refl
get_or-scale a (x ∷ xs) (suc k) = get_or-scale a xs k

-- the coefficients of a combination, the first of its forms taken apart
pub coefficient_of-combination : (v : ℕ) (a : ℤ) (f : AffineForm) (terms : List (ℤ × AffineForm)) (start : AffineForm)
    → coefficient_of v (combination ((a, f) ∷ terms) start) ≡ (a *ℤ coefficient_of v f) +ℤ coefficient_of v (combination terms start)
coefficient_of-combination v a f terms start =
    get_or-add_lists (map (λ (x : ℤ). a *ℤ x) f.coefficients) (combination terms start).coefficients v
    ∙ ap (λ (z : ℤ). z +ℤ coefficient_of v (combination terms start)) (get_or-scale a f.coefficients v)

-- the number of variables of a sum of lists as long as each other
pub length-add_lists : (n : ℕ) (xs ys : List ℤ) → length xs ≡ n → length ys ≡ n → length (add_lists xs ys) ≡ n
length-add_lists n [] ys p q = q
length-add_lists n (x ∷ xs) [] p q = p
length-add_lists zero (x ∷ xs) (y ∷ ys) p q = absurd (omega arith)
length-add_lists (suc n) (x ∷ xs) (y ∷ ys) p q = ap suc (length-add_lists n xs ys (omega arith) (omega arith))

-- the sum of products of a sum of lists
pub dot-add_lists : (xs ys ps : List ℤ) → dot (add_lists xs ys) ps ≡ dot xs ps +ℤ dot ys ps
dot-add_lists [] ys ps = omega (arith, ints)
dot-add_lists (x ∷ xs) [] ps = omega (arith, ints)
dot-add_lists (x ∷ xs) (y ∷ ys) [] = refl
dot-add_lists (x ∷ xs) (y ∷ ys) (p ∷ ps) =
    ap (λ (z : ℤ). z +ℤ dot (add_lists xs ys) ps) (add-mul x y p)
    ∙ ap (λ (z : ℤ). ((x *ℤ p) +ℤ (y *ℤ p)) +ℤ z) (dot-add_lists xs ys ps)
    ∙ add_pairs (x *ℤ p) (y *ℤ p) (dot xs ps) (dot ys ps)

-- the sum of products of a list times a number
pub dot-scale : (a : ℤ) (xs ps : List ℤ) → dot (map (λ (x : ℤ). a *ℤ x) xs) ps ≡ a *ℤ dot xs ps
dot-scale a [] ps = sym (mul-zero a)
dot-scale a (x ∷ xs) [] = sym (mul-zero a)
dot-scale a (x ∷ xs) (p ∷ ps) =
    ap (λ (z : ℤ). z +ℤ dot (map (λ (x : ℤ). a *ℤ x) xs) ps) (mul_assoc_ℤ a x p)
    ∙ ap (λ (z : ℤ). (a *ℤ (x *ℤ p)) +ℤ z) (dot-scale a xs ps)
    ∙ sym (mul-add a (x *ℤ p) (dot xs ps))

-- the value of a form times a number
pub form_value-scale : (a : ℤ) (f : AffineForm) (ps : List ℤ) → form_value (scale_form a f) ps ≡ a *ℤ form_value f ps
form_value-scale a f ps =
    ap (λ (z : ℤ). z +ℤ (a *ℤ f.constant)) (dot-scale a f.coefficients ps) ∙ sym (mul-add a (dot f.coefficients ps) f.constant)

-- the value of a sum
pub form_value-add : (f g : AffineForm) (ps : List ℤ) → form_value (add_forms f g) ps ≡ form_value f ps +ℤ form_value g ps
form_value-add f g ps =
    ap (λ (z : ℤ). z +ℤ (f.constant +ℤ g.constant)) (dot-add_lists f.coefficients g.coefficients ps)
    ∙ add_pairs (dot f.coefficients ps) (dot g.coefficients ps) f.constant g.constant

-- zeros add nothing
pub dot-zeros : (n : ℕ) (ps : List ℤ) → dot (replicate n (pos 0)) ps ≡ pos 0
dot-zeros zero ps = refl
dot-zeros (suc n) [] = refl
dot-zeros (suc n) (p ∷ ps) = ap (λ (z : ℤ). z +ℤ dot (replicate n (pos 0)) ps) (zero-mul p) ∙ ap (λ (z : ℤ). pos 0 +ℤ z) (dot-zeros n ps)

-- a constant form's value
pub form_value-constant : (n : ℕ) (a : ℤ) (ps : List ℤ) → form_value (constant_form n a) ps ≡ a
form_value-constant n a ps =
    let none : dot (replicate n (pos 0)) ps ≡ pos 0 = dot-zeros n ps in omega (arith, ints)

-- no coefficient of a constant form is other than 0
pub coefficient_of-constant : (v n : ℕ) → get_or (replicate n (pos 0)) v (pos 0) ≡ pos 0
coefficient_of-constant v zero = refl
coefficient_of-constant zero (suc n) = refl
coefficient_of-constant (suc v) (suc n) = coefficient_of-constant v n
