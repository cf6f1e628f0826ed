-- Forms put in for variables.
use Rattle.std.proofs.Common.{◌≡◌, ℕ, suc, ◌+◌, ◌<◌, List, [], ◌∷◌, length, get_or, drop, map, arith, sym, refl, ◌∙◌, ap}
use Rattle.std.specs.Prelude.{zip}
use Rattle.std.proofs.Math.IntN.{ℤ, pos, ◌+ℤ◌, ◌*ℤ◌}
use Rattle.std.proofs.lemmas.Int.{ints}
use Rattle.std.proofs.lemmas.List.{drop_more, length-map}
use Rattle.iolb_model.specs.Form.{AffineForm, dot, form_value}
use Rattle.affine_form.specs.Combination.{add_lists, scale_form, constant_form, combination, coefficient_of}
use Rattle.affine_form.specs.Form.{variables}
use Rattle.affine_form.specs.Substitution.{substitution, values_at, width}
use Rattle.affine_form.specs.System.{AllOver}
use Rattle.affine_form.proofs.Combination.{coefficient_of-combination, length-add_lists, form_value-scale, form_value-add, form_value-constant}

-- the value of a combination of forms put in
value-combination : (xs : List ℤ) (forms : List AffineForm) (constant : ℤ) (point : List ℤ)
    → form_value (combination (zip xs forms) (constant_form 0 constant)) point ≡ dot xs (values_at forms point) +ℤ constant
value-combination [] forms constant point = form_value-constant 0 constant point ∙ sym (none constant) where
  none : (y : ℤ) → pos 0 +ℤ y ≡ y
  none y = omega (arith, ints)
value-combination (x ∷ xs) [] constant point = form_value-constant 0 constant point ∙ sym (none constant) where
  none : (y : ℤ) → pos 0 +ℤ y ≡ y
  none y = omega (arith, ints)
value-combination (x ∷ xs) (f ∷ fs) constant point =
    form_value-add (scale_form x f) (combination (zip xs fs) (constant_form 0 constant)) point
    ∙ ap (λ (z : ℤ). z +ℤ form_value (combination (zip xs fs) (constant_form 0 constant)) point) (form_value-scale x f point)
    ∙ ap (λ (z : ℤ). (x *ℤ form_value f point) +ℤ z) (value-combination xs fs constant point)
    ∙ regroup (x *ℤ form_value f point) (dot xs (values_at fs point)) constant where
      regroup : (a b d : ℤ) → a +ℤ (b +ℤ d) ≡ (a +ℤ b) +ℤ d
      regroup a b d = omega (arith, ints)

-- the value of a form with forms put in is its value at their values
pub form_value-substitution : (form : AffineForm) (forms : List AffineForm) (point : List ℤ)
    → form_value (substitution form forms) point ≡ form_value form (values_at forms point)
form_value-substitution form forms point = value-combination form.coefficients forms form.constant point

-- a sum of lists of which the second is empty
length-add_none : (n : ℕ) (xs : List ℤ) → length xs ≡ n → length (add_lists xs []) ≡ n
length-add_none n [] p = p
length-add_none n (x ∷ xs) p = p

-- how many variables the combination has
length-combination : (n : ℕ) (xs : List ℤ) (f : AffineForm) (fs : List AffineForm) (constant : ℤ) → length xs ≡ suc (length fs)
    → AllOver n (f ∷ fs) → length (combination (zip xs (f ∷ fs)) (constant_form 0 constant)).coefficients ≡ n
length-combination n [] f fs constant same over = absurd (omega arith)
length-combination n (x ∷ []) f [] constant same over =
    length-add_none n (map (λ (y : ℤ). x *ℤ y) f.coefficients) (length-map f.coefficients (λ (y : ℤ). x *ℤ y) ∙ over.0)
length-combination n (x ∷ y ∷ xs) f [] constant same over = absurd (omega arith)
length-combination n (x ∷ xs) f (g ∷ gs) constant same over =
    length-add_lists n (map (λ (y : ℤ). x *ℤ y) f.coefficients) (combination (zip xs (g ∷ gs)) (constant_form 0 constant)).coefficients
    (length-map f.coefficients (λ (y : ℤ). x *ℤ y) ∙ over.0) (length-combination n xs g gs constant (omega arith) over.1)

-- a form with forms put in has the variables of those
pub length-substitution : (form : AffineForm) (forms : List AffineForm) → length forms ≡ length form.coefficients → AllOver (width forms) forms
    → length (substitution form forms).coefficients ≡ width forms
length-substitution form [] same over = none form.coefficients where
  none : (xs : List ℤ) → length (combination (zip xs []) (constant_form 0 form.constant)).coefficients ≡ 0
  none [] = refl
  none (x ∷ xs) = refl
length-substitution form (f ∷ fs) same over = length-combination (variables f) form.coefficients f fs form.constant (sym same) over

-- one form more in a running sum of coefficients
pub composed-step : (xs : List ℤ) (forms : List AffineForm) (start : AffineForm) (v k : ℕ) (a d x z sum total : ℤ) (f e : AffineForm)
    → k < length xs → k < length forms → a ≡ get_or xs k d → f ≡ get_or forms k e → x ≡ coefficient_of v f → z ≡ sum +ℤ (a *ℤ x)
    → (sum +ℤ coefficient_of v (combination (zip (drop k xs) (drop k forms)) start)) ≡ total
    → (z +ℤ coefficient_of v (combination (zip (drop (k + 1) xs) (drop (k + 1) forms)) start)) ≡ total
composed-step xs forms start v k a d x z sum total f e p q read_a read_f is step h =
    let ts = zip (drop (k + 1) xs) (drop (k + 1) forms) in
    let first : coefficient_of v (combination (zip (drop k xs) (drop k forms)) start) ≡ (a *ℤ x) +ℤ coefficient_of v (combination ts start)
    = ap (λ (us : List ℤ). coefficient_of v (combination (zip us (drop k forms)) start)) (drop_more xs k d p ∙ ap (λ (y : ℤ). y ∷ drop (k + 1) xs) (sym read_a))
    ∙ ap (λ (gs : List AffineForm). coefficient_of v (combination (zip (a ∷ drop (k + 1) xs) gs) start)) (drop_more forms k e q ∙ ap (λ (g : AffineForm). g ∷ drop (k + 1) forms) (sym read_f))
    ∙ coefficient_of-combination v a f ts start
    ∙ ap (λ (y : ℤ). (a *ℤ y) +ℤ coefficient_of v (combination ts start)) (sym is)
    in omega (arith, ints)

-- one form more in a running sum of constants
pub composed-constant-step : (xs : List ℤ) (forms : List AffineForm) (start : AffineForm) (k : ℕ) (a d x z sum total : ℤ) (f e : AffineForm)
    → k < length xs → k < length forms → a ≡ get_or xs k d → f ≡ get_or forms k e → x ≡ f.constant → z ≡ sum +ℤ (a *ℤ x)
    → (sum +ℤ (combination (zip (drop k xs) (drop k forms)) start).constant) ≡ total
    → (z +ℤ (combination (zip (drop (k + 1) xs) (drop (k + 1) forms)) start).constant) ≡ total
composed-constant-step xs forms start k a d x z sum total f e p q read_a read_f is step h =
    let ts = zip (drop (k + 1) xs) (drop (k + 1) forms) in
    let first : (combination (zip (drop k xs) (drop k forms)) start).constant ≡ (a *ℤ x) +ℤ (combination ts start).constant
    = ap (λ (us : List ℤ). (combination (zip us (drop k forms)) start).constant) (drop_more xs k d p ∙ ap (λ (y : ℤ). y ∷ drop (k + 1) xs) (sym read_a))
    ∙ ap (λ (gs : List AffineForm). (combination (zip (a ∷ drop (k + 1) xs) gs) start).constant) (drop_more forms k e q ∙ ap (λ (g : AffineForm). g ∷ drop (k + 1) forms) (sym read_f))
    ∙ ap (λ (y : ℤ). (a *ℤ y) +ℤ (combination ts start).constant) (sym is)
    in omega (arith, ints)
