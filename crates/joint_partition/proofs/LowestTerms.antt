-- Fractions in lowest terms: a numerator and a denominator divided by their greatest common divisor. A fraction has one such form.
use Rattle.std.proofs.Common.{◌≡◌, refl, sym, ◌∙◌, ap, subst, ℕ, zero, suc, ◌*◌, ◌/◌, ◌<◌, ◌≤◌, arith}
use Rattle.std.specs.Int.{IsGcd}
use Rattle.std.specs.Prelude.{◌%◌}
use Rattle.std.proofs.Math.Nat.{div-mul_cancel, eq_of_mul-eq-mul_right, mod-lt}
use Rattle.std.proofs.lemmas.Nat.Gcd.{IsGcd-from_mod, IsGcd-from_zero, same_from_IsGcd}
use Rattle.uniform_cover.proofs.Powers.{self_pow_pos}
use Rattle.iolb_model.specs.Bound.{StretchNumbers}
use Rattle.joint_partition.specs.JointLoads.{HasJointNumbers, IsLowest, factor_over, factor_under, weight_of}
use Rattle.joint_partition.specs.JointNumbers.{JointNumbersAreOne, JointNumbersArePositive}
use Rattle.joint_partition.specs.Term.{JointTerm}

-- factors of a positive product are positive
right-some : (q g under : ℕ) → q * g ≡ under → 1 ≤ under → 1 ≤ g
right-some q zero under e some = absurd (omega (arith, e, some))
right-some q (suc g) under e some = omega arith

left-some : (q g under : ℕ) → q * g ≡ under → 1 ≤ under → 1 ≤ q
left-some zero g under e some = absurd (omega (arith, e, some))
left-some (suc q) g under e some = omega arith

pub divisor-some : (over under g : ℕ) → IsGcd over under g → 1 ≤ under → 1 ≤ g
divisor-some over under g is some = right-some (under / g) g under (div-mul_cancel g is.1) some

pub lowest-is : (over under g : ℕ) → IsGcd over under g → IsLowest over under (over / g) (under / g)
lowest-is over under g is = record { common = g; greatest = is; above = div-mul_cancel g is.0; below = div-mul_cancel g is.1 }

pub lowest-same : (x y over under num den : ℕ) → x ≡ over → y ≡ under → IsLowest x y num den → IsLowest over under num den
lowest-same x y over under num den e f h = subst (λ (n : ℕ). IsLowest n under num den) e (subst (λ (n : ℕ). IsLowest x n num den) f h)

module _ (over under num den other another : ℕ) (some : 1 ≤ under) (h : IsLowest over under num den) (g : IsLowest over under other another) where
  same : h.common ≡ g.common
  same = same_from_IsGcd over under h.common g.common h.greatest g.greatest

  common-some : 1 ≤ h.common
  common-some = divisor-some over under h.common h.greatest some

  one-over : num ≡ other
  one-over = eq_of_mul-eq-mul_right h.common common-some num other (h.above ∙ sym g.above ∙ ap (λ (n : ℕ). other * n) (sym same))

  one-under : den ≡ another
  one-under = eq_of_mul-eq-mul_right h.common common-some den another (h.below ∙ sym g.below ∙ ap (λ (n : ℕ). another * n) (sym same))

-- ---- of a term

pub joint-numbers-are-one : JointNumbersAreOne
joint-numbers-are-one term numbers others h g = λ i. record {
  a = (h.a ∙ sym g.a) i;
  b = (h.b ∙ sym g.b) i;
  q = (h.q ∙ sym g.q) i;
  m = (h.m ∙ sym g.m) i;
  num = one-over (factor_over term) (factor_under term) numbers.num numbers.den others.num others.den (self_pow_pos (weight_of term)) h.factor g.factor i;
  den = one-under (factor_over term) (factor_under term) numbers.num numbers.den others.num others.den (self_pow_pos (weight_of term)) h.factor g.factor i;
}

pub joint-numbers-are-positive : JointNumbersArePositive
joint-numbers-are-positive term numbers has = left-some numbers.den has.factor.common (factor_under term) has.factor.below (self_pow_pos (weight_of term))

-- ---- a term has such numbers

-- two numbers have a greatest common divisor, found by so many remainders at most
common-there : (n a b : ℕ) → b ≤ n → (g : ℕ) × IsGcd a b g
common-there n a zero h = (a, IsGcd-from_zero a zero refl)
common-there zero a (suc b) h = absurd (omega (arith, h))
common-there (suc n) a (suc b) h =
    let less : a % suc b < suc b = mod-lt a (omega arith) in
    let found = common-there n (suc b) (a % suc b) (omega (arith, h, less)) in
    (found.0, IsGcd-from_mod a (suc b) found.0 found.1)

pub joint-numbers-there : (term : JointTerm) → (numbers : StretchNumbers) × HasJointNumbers term numbers
joint-numbers-there term =
    let over : ℕ = factor_over term in
    let under : ℕ = factor_under term in
    let found = common-there under over under (omega arith) in (
      record { a = term.a; b = term.b; q = term.q; m = weight_of term; num = over / found.0; den = under / found.0 },
      record {
        a = refl;
        b = refl;
        q = refl;
        m = refl;
        factor = lowest-is over under found.0 found.1;
      },
    )
