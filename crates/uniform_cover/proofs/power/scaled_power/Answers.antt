use Rattle.std.proofs.Common.{arith, ◌≡◌, ◌*◌, ◌^◌, ◌<◌, ◌≤◌, ◌+◌, ℕ, ap, ◌∙◌, sym, subst}
use Rattle.std.proofs.Math.Nat.{pow-suc}
use Rattle.std.proofs.Math.Numerals.{add-one}
use Rattle.std.proofs.lemmas.Grind.{common_steps}
use Rattle.uniform_cover.proofs.Powers.{scaled-pow_mono}
use Rattle.uniform_cover.proofs.power.scaled_power.Goals as goal

step : (f b i : ℕ) → f * b ^ (i + 1) ≡ f * b ^ i * b
step f b i = rw (add-one, pow-suc) (omega arith)

pub returns-in_err-product : goal.returns-in_err-product
returns-in_err-product c =
    let more : c.args.factor * c.args.base ^ (c.loop.counter + 1) ≤ c.args.factor * c.args.base ^ c.args.exponent =
    scaled-pow_mono c.args.factor c.args.base (c.loop.counter + 1) c.args.exponent c.requires (omega arith) in
    let is : c.args.factor * c.args.base ^ (c.loop.counter + 1) ≡ c.args.factor * c.args.base ^ c.loop.counter * c.args.base =
    step c.args.factor c.args.base c.loop.counter in
    grind (arith, common_steps)

pub loop-preserved : goal.loop-preserved
loop-preserved c =
    let is : c.args.factor * c.args.base ^ (c.loop.counter + 1) ≡ c.args.factor * c.args.base ^ c.loop.counter * c.args.base =
    step c.args.factor c.args.base c.loop.counter in
    record {
      is = c.in_ok-product.ensures.1 ∙ ap (λ x. x * c.args.base) c.loop.invariant.is ∙ sym is;
      fits = subst (λ x. x < 2 ^ 128) (sym c.in_ok-product.ensures.1) c.in_ok-product.ensures.0;
    }

pub returns : goal.returns
returns c =
    let ended : c.loop.counter ≡ c.args.exponent = omega arith in
    let is : c.loop.product ≡ c.args.factor * c.args.base ^ c.args.exponent =
    c.loop.invariant.is ∙ ap (λ i. c.args.factor * c.args.base ^ i) ended in
    (subst (λ x. x < 2 ^ 128) is c.loop.invariant.fits, is)
