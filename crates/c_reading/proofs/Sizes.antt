-- Sizes of products, and numbers that are added to a list.
use Rattle.std.proofs.Common.{◌≡◌, ◌*◌, ◌≤◌, ◌^◌, List, [], ◌∷◌, ◌++◌, refl, ap, sym, ◌∙◌, arith, ℤ, pos, append_assoc}
use Rattle.std.specs.Prelude.{◌*ℤ◌, unsigned_abs, Option, Some, None}
use Rattle.std.proofs.lemmas.Int.{unsigned_abs-mul}
use Rattle.std.proofs.Math.Nat.{mul-le-mul}
use Rattle.c_reading.specs.Numbers.{number_before, numbers_behind, small_number, plus_times}

pub abs_product : (k y : ℤ) → unsigned_abs k ≤ 2 ^ 31 → unsigned_abs y ≤ 2 ^ 31 → unsigned_abs (k *ℤ y) ≤ 2 ^ 62
abs_product k y hk hy = let size : unsigned_abs k * unsigned_abs y ≤ 2 ^ 31 * 2 ^ 31 = mul-le-mul hk hy in omega (arith, unsigned_abs-mul k y)

-- a number that is taken from the front of the rest is added to those before
pub number_pushed : (numbers : List ℤ) (n : ℤ) (found : Option ℤ) (rest : Option (List ℤ)) → found ≡ Some n → numbers_behind numbers (number_before found rest) ≡ numbers_behind (numbers ++ n ∷ []) rest
number_pushed numbers n None rest is = cc
number_pushed numbers n (Some m) None is = refl
number_pushed numbers n (Some m) (Some zs) is = let same : m ≡ n = cc in ap (λ k. Some (numbers ++ k ∷ zs)) same ∙ ap Some (sym (append_assoc numbers (n ∷ []) zs))

-- one number more is taken
pub numbers_next : (k x y n : ℤ) (numbers after xs ys bx by : List ℤ) (whole : Option (List ℤ)) → xs ≡ x ∷ bx → ys ≡ y ∷ by → small_number k (pos 0) x y ≡ Some n → after ≡ numbers ++ n ∷ [] → numbers_behind numbers (plus_times k xs ys) ≡ whole → numbers_behind after (plus_times k bx by) ≡ whole
numbers_next k x y n numbers after xs ys bx by whole xs_is ys_is is grown same =
    ap (λ ns. numbers_behind ns (plus_times k bx by)) grown
    ∙ sym (number_pushed numbers n (small_number k (pos 0) x y) (plus_times k bx by) is)
    ∙ sym (ap (λ l. numbers_behind numbers (plus_times k l ys)) xs_is ∙ ap (λ l. numbers_behind numbers (plus_times k (x ∷ bx) l)) ys_is)
    ∙ same
