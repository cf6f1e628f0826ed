use Rattle.std.proofs.Common.{◌≡◌, ◌*◌, ◌-◌, ◌+◌, ◌^◌, ℕ, min, ap, sym, ◌∙◌, arith}
use native.Mathlib.Numerals.{unary_clauses}
use Rattle.std.proofs.Math.Nat.{mul-one}
use Rattle.poly_tree.proofs.LinearLemmas.{power-step}
use Rattle.poly_tree.proofs.size.capped_power.Goals as goal
use Rattle.iolb_model.specs.declared.limits.TheConstants.{MEASURE}

pub loop-preserved : goal.loop-preserved
loop-preserved c =
    let left = c.args.exponent - c.loop.counter in
    ap (λ (n : ℕ). min (n * c.args.base ^ (c.args.exponent - (c.loop.counter + 1))) MEASURE) c.capped_product-product.ensures
    ∙ ap (λ (n : ℕ). min (min (c.loop.product * c.args.base) MEASURE * c.args.base ^ n) MEASURE) (less c.args.exponent c.loop.counter)
    ∙ power-step c.loop.product c.args.base left c.args.number MEASURE (min (c.args.number * c.args.base ^ c.args.exponent) MEASURE) c.requires (omega (arith, c.loop-test.true)) c.loop.invariant where
      less : (m n : ℕ) → m - (n + 1) ≡ m - n - 1
      less m n = omega arith

once : (p b : ℕ) → p * b ^ 0 ≡ p
once p b = simp unary_clauses (mul-one p)

pub loop-init : goal.loop-init
loop-init c = ap (λ (n : ℕ). min (c.args.number * c.args.base ^ n) MEASURE) (whole c.args.exponent) where
  whole : (n : ℕ) → n - 0 ≡ n
  whole n = omega arith

pub returns : goal.returns
returns c =
    let none : c.args.exponent - c.loop.counter ≡ 0 = omega (arith, c.loop-test.false) in
    ap (λ (n : ℕ). min n MEASURE) (sym (once c.loop.product c.args.base)) ∙ ap (λ (k : ℕ). min (c.loop.product * c.args.base ^ k) MEASURE) (sym none) ∙ c.loop.invariant
