-- Values and constants of sums of rows.
use Rattle.std.proofs.Common.{◌≡◌, refl, sym, subst, ◌∙◌, ap, ℕ, ◌*◌, ◌<◌, ◌≤◌, List, [], ◌∷◌, ◌++◌, map, replicate, length, take, get_or, arith, lit≤, lit<, mul-le-mul}
use Rattle.std.specs.Prelude.{unsigned_abs}
use Rattle.std.specs.List.{AllByRecursion}
use Rattle.std.proofs.Math.IntN.{ℤ, pos, ◌+ℤ◌, ◌*ℤ◌}
use Rattle.std.proofs.lemmas.Int.{ints, unsigned_abs-mul}
use Rattle.std.proofs.lemmas.List.{map-append}
use Rattle.iolb_model.specs.Form.{AffineForm, dot}
use Rattle.affine_form.specs.Combination.{constant_form, combination}
use Rattle.affine_form.specs.Form.{IsSmall}
use Rattle.affine_form.specs.Shown.{row_at, weighted_rows}
use Rattle.affine_form.proofs.Combination.{dot-add_lists, dot-scale, dot-zeros}
use Rattle.affine_form.proofs.Sizes.{size-add}
use Rattle.int_sets.specs.ShortList.{IsOnceOrTwice}
use Rattle.int_sets.specs.Fingerprint.{value_at_point, VALUE_LIMIT}
use Rattle.int_sets.specs.Halves.{IsHalf, sum_of, weights_of}
use Rattle.int_sets.specs.declared.half.Half.{Half}
use Rattle.int_sets.specs.declared.fingerprint.TheConstants.{POINT}
use Rattle.iolb_model.specs.declared.limits.TheConstants.{COEFFICIENT_SIZE, VALUE_SIZE}

-- the value of a combination, the first of its forms taken apart
value-cons : (a : ℤ) (f : AffineForm) (terms : List (ℤ × AffineForm)) (start : AffineForm)
    → value_at_point (combination ((a, f) ∷ terms) start) ≡ (a *ℤ value_at_point f) +ℤ value_at_point (combination terms start)
value-cons a f terms start =
    dot-add_lists (map (λ (x : ℤ). a *ℤ x) f.coefficients) (combination terms start).coefficients POINT
    ∙ ap (λ (z : ℤ). z +ℤ value_at_point (combination terms start)) (dot-scale a f.coefficients POINT)

-- what a combination starts with counts once
value-start : (terms : List (ℤ × AffineForm)) (start : AffineForm)
    → value_at_point (combination terms start) ≡ value_at_point (combination terms (constant_form 0 (pos 0))) +ℤ value_at_point start
value-start [] start = omega (arith, ints)
value-start (term ∷ terms) start =
    let here : value_at_point (combination (term ∷ terms) start) ≡ (term.0 *ℤ value_at_point term.1) +ℤ value_at_point (combination terms start) = value-cons term.0 term.1 terms start in
    let there : value_at_point (combination (term ∷ terms) (constant_form 0 (pos 0))) ≡ (term.0 *ℤ value_at_point term.1) +ℤ value_at_point (combination terms (constant_form 0 (pos 0)))
    = value-cons term.0 term.1 terms (constant_form 0 (pos 0)) in
    let rest : value_at_point (combination terms start) ≡ value_at_point (combination terms (constant_form 0 (pos 0))) +ℤ value_at_point start = value-start terms start in
    omega (arith, ints)

constant-start : (terms : List (ℤ × AffineForm)) (start : AffineForm)
    → (combination terms start).constant ≡ (combination terms (constant_form 0 (pos 0))).constant +ℤ start.constant
constant-start [] start = omega (arith, ints)
constant-start (term ∷ terms) start =
    let rest : (combination terms start).constant ≡ (combination terms (constant_form 0 (pos 0))).constant +ℤ start.constant = constant-start terms start in
    omega (arith, ints)

-- one list of terms behind another
combination-append : (xs ys : List (ℤ × AffineForm)) (start : AffineForm) → combination (xs ++ ys) start ≡ combination xs (combination ys start)
combination-append [] ys start = refl
combination-append (x ∷ xs) ys start = ap (λ (f : AffineForm). combination (x ∷ []) f) (combination-append xs ys start)

pub weighted-append : (rows : List AffineForm) (ws vs : List (ℕ × ℕ)) (start : AffineForm)
    → combination (weighted_rows rows (ws ++ vs)) start ≡ combination (weighted_rows rows ws) (combination (weighted_rows rows vs) start)
weighted-append rows ws vs start =
    ap (λ (ts : List (ℤ × AffineForm)). combination ts start) (map-append (λ (weight : ℕ × ℕ). (pos weight.1, row_at rows weight.0)) ws vs)
    ∙ combination-append (weighted_rows rows ws) (weighted_rows rows vs) start

-- the value and the constant of the sum of two lists of rows
pub value-append : (rows : List AffineForm) (ws vs : List (ℕ × ℕ))
    → value_at_point (sum_of rows (ws ++ vs)) ≡ value_at_point (sum_of rows ws) +ℤ value_at_point (sum_of rows vs)
value-append rows ws vs = ap value_at_point (weighted-append rows ws vs (constant_form 0 (pos 0))) ∙ value-start (weighted_rows rows ws) (sum_of rows vs)

pub constant-append : (rows : List AffineForm) (ws vs : List (ℕ × ℕ))
    → (sum_of rows (ws ++ vs)).constant ≡ (sum_of rows ws).constant +ℤ (sum_of rows vs).constant
constant-append rows ws vs = ap (λ (f : AffineForm). f.constant) (weighted-append rows ws vs (constant_form 0 (pos 0))) ∙ constant-start (weighted_rows rows ws) (sum_of rows vs)

-- a number beside the rows has no value without its constant
pub value-rest : (rows : List AffineForm) (ws : List (ℕ × ℕ)) (vars : ℕ) (rest : ℤ)
    → value_at_point (combination (weighted_rows rows ws) (constant_form vars rest)) ≡ value_at_point (sum_of rows ws)
value-rest rows ws vars rest =
    let whole : value_at_point (combination (weighted_rows rows ws) (constant_form vars rest)) ≡ value_at_point (sum_of rows ws) +ℤ dot (replicate vars (pos 0)) POINT
    = value-start (weighted_rows rows ws) (constant_form vars rest) in
    let none : dot (replicate vars (pos 0)) POINT ≡ pos 0 = dot-zeros vars POINT in
    omega (arith, ints)

pub constant-rest : (rows : List AffineForm) (ws : List (ℕ × ℕ)) (vars : ℕ) (rest : ℤ)
    → (combination (weighted_rows rows ws) (constant_form vars rest)).constant ≡ (sum_of rows ws).constant +ℤ rest
constant-rest rows ws vars rest = constant-start (weighted_rows rows ws) (constant_form vars rest)

-- the size of a number taken at most twice
pub size-multiple : (times : ℕ) (x : ℤ) (limit : ℕ) → times ≤ 2 → unsigned_abs x ≤ limit → unsigned_abs (pos times *ℤ x) ≤ 1 * (2 * limit)
size-multiple times x limit few small =
    let product : times * unsigned_abs x ≤ 2 * limit = mul-le-mul few small in
    omega (arith, unsigned_abs-mul (pos times) x)

-- a row is a half
pub one-half : (rows : List AffineForm) (number times : ℕ) (row : AffineForm) (value scaled constant : ℤ) → row_at rows number ≡ row → value ≡ value_at_point row
    → unsigned_abs value ≤ VALUE_LIMIT → unsigned_abs row.constant < COEFFICIENT_SIZE → IsOnceOrTwice (number, times)
    → scaled ≡ pos times *ℤ value → constant ≡ pos times *ℤ row.constant
    → IsHalf rows (record { rows = (number, times) ∷ (0, 0) ∷ []; count = 1; value = scaled; constant = constant })
one-half rows number times row value scaled constant at is small small_constant taken scaled_is constant_is =
    let whole : value_at_point (combination ((pos times, row_at rows number) ∷ []) (constant_form 0 (pos 0))) ≡ (pos times *ℤ value_at_point (row_at rows number)) +ℤ pos 0
    = value-cons (pos times) (row_at rows number) [] (constant_form 0 (pos 0)) in
    let same : scaled ≡ pos times *ℤ value_at_point (row_at rows number) = scaled_is ∙ ap (λ (z : ℤ). pos times *ℤ z) (is ∙ ap value_at_point (sym at)) in
    let alike : constant ≡ pos times *ℤ (row_at rows number).constant = constant_is ∙ ap (λ (f : AffineForm). pos times *ℤ f.constant) (sym at) in
    let sized : unsigned_abs (pos times *ℤ value) ≤ 1 * (2 * VALUE_LIMIT) = size-multiple times value VALUE_LIMIT taken.1 small in
    let sized_constant : unsigned_abs (pos times *ℤ row.constant) ≤ 1 * (2 * COEFFICIENT_SIZE) = size-multiple times row.constant COEFFICIENT_SIZE taken.1 (omega arith) in
    record {
      two = refl;
      few = lit≤ tt;
      taken = (taken, tt);
      value = omega (arith, ints);
      constant = omega (arith, ints);
      small_value = rw scaled_is sized;
      small_constant = rw constant_is sized_constant;
    }

-- two rows are a half
pub two-half : (rows : List AffineForm) (first second : Half) (value constant : ℤ) → IsHalf rows first → IsHalf rows second → first.count ≡ 1 → second.count ≡ 1
    → (v w : ℕ × ℕ) → weights_of first ≡ v ∷ [] → weights_of second ≡ w ∷ []
    → value ≡ first.value +ℤ second.value → constant ≡ first.constant +ℤ second.constant
    → IsHalf rows (record { rows = v ∷ w ∷ []; count = 2; value = value; constant = constant })
two-half rows first second value constant f s one other v w vs ws value_is constant_is =
    let total : value_at_point (sum_of rows ((v ∷ []) ++ (w ∷ []))) ≡ value_at_point (sum_of rows (v ∷ [])) +ℤ value_at_point (sum_of rows (w ∷ [])) = value-append rows (v ∷ []) (w ∷ []) in
    let constants : (sum_of rows ((v ∷ []) ++ (w ∷ []))).constant ≡ (sum_of rows (v ∷ [])).constant +ℤ (sum_of rows (w ∷ [])).constant = constant-append rows (v ∷ []) (w ∷ []) in
    let left : first.value ≡ value_at_point (sum_of rows (v ∷ [])) = f.value ∙ ap (λ (us : List (ℕ × ℕ)). value_at_point (sum_of rows us)) vs in
    let right : second.value ≡ value_at_point (sum_of rows (w ∷ [])) = s.value ∙ ap (λ (us : List (ℕ × ℕ)). value_at_point (sum_of rows us)) ws in
    let left_constant : first.constant ≡ (sum_of rows (v ∷ [])).constant = f.constant ∙ ap (λ (us : List (ℕ × ℕ)). (sum_of rows us).constant) vs in
    let right_constant : second.constant ≡ (sum_of rows (w ∷ [])).constant = s.constant ∙ ap (λ (us : List (ℕ × ℕ)). (sum_of rows us).constant) ws in
    let taken_v : AllByRecursion IsOnceOrTwice (v ∷ []) = subst (AllByRecursion IsOnceOrTwice) vs f.taken in
    let taken_w : AllByRecursion IsOnceOrTwice (w ∷ []) = subst (AllByRecursion IsOnceOrTwice) ws s.taken in
    let size = size-add first.value second.value in
    let size_constant = size-add first.constant second.constant in
    record {
      two = refl;
      few = lit≤ tt;
      taken = (taken_v.0, (taken_w.0, tt));
      value = value_is ∙ ap (λ (z : ℤ). z +ℤ second.value) left ∙ ap (λ (z : ℤ). value_at_point (sum_of rows (v ∷ [])) +ℤ z) right ∙ sym total;
      constant = constant_is ∙ ap (λ (z : ℤ). z +ℤ second.constant) left_constant ∙ ap (λ (z : ℤ). (sum_of rows (v ∷ [])).constant +ℤ z) right_constant ∙ sym constants;
      small_value = rw value_is (omega (arith, f.small_value, s.small_value));
      small_constant = rw constant_is (omega (arith, f.small_constant, s.small_constant));
    }

-- the row of a half of one
pub one-taken : (half : Half) → length half.rows ≡ 2 → half.count ≡ 1 → weights_of half ≡ get_or half.rows 0 (0, 0) ∷ []
one-taken half two one = rw one (first half.rows two) where
  first : (xs : List (ℕ × ℕ)) → length xs ≡ 2 → take 1 xs ≡ get_or xs 0 (0, 0) ∷ []
  first [] e = absurd (omega arith)
  first (x ∷ xs) e = refl

-- the fixed point's numbers are small
pub point-small : AllByRecursion (IsSmall VALUE_SIZE) POINT
point-small = (lit< tt, (lit< tt, (lit< tt, (lit< tt, (lit< tt, (lit< tt, (lit< tt, (lit< tt, (lit< tt, (lit< tt, (lit< tt, (lit< tt, (lit< tt, (lit< tt, (lit< tt, (lit< tt, (lit< tt, (lit< tt, (lit< tt, (lit< tt, (lit< tt, (lit< tt, (lit< tt, (lit< tt, tt))))))))))))))))))))))))
