use Rattle.std.proofs.Common.{ℕ, Vec, Global, map, arith}
use Rattle.affine_form.specs.Multipliers.{IsWeight}
use Rattle.base_laws.proofs.Lists.{All-push}
use Rattle.json_values.specs.View.{json_data}
use Rattle.certificate_parts.specs.Multipliers.{reads_weights}
use Rattle.json_parts.proofs.Failing.{hands_on}
use Rattle.certificate_parts.proofs.Weights.{goes_on, is_done}
use Rattle.certificate_parts.proofs.Weights.{ends_first, ends_second}
use Rattle.certificate_parts.proofs.multipliers.weights.Goals as goal

pub returns-in_err-row-clause-read : goal.returns-in_err-row-clause-read
returns-in_err-row-clause-read c =
    hands_on (λ (weights : Vec (ℕ × ℕ) Global). weights.items) c.from_residual.result c.in_err-row.field-0.0 (reads_weights 2 (map json_data c.args.values.now)) c.from_residual.ensures
    (ends_first c.loop-i.weights.items c.args.values.now c.loop-i.i c.index-values-i.result c.in_err-row.field-0.0 (reads_weights 2 (map json_data c.args.values.now))
    c.loop-i-test.true c.index-values-i.is c.in_err-row.ensures.read c.loop-i.invariant.read)

pub returns-in_err-multiplier-clause-read : goal.returns-in_err-multiplier-clause-read
returns-in_err-multiplier-clause-read c =
    hands_on (λ (weights : Vec (ℕ × ℕ) Global). weights.items) c.from_residual-in_err-multiplier.result c.in_err-multiplier.field-0.0 (reads_weights 2 (map json_data c.args.values.now))
    c.from_residual-in_err-multiplier.ensures
    (ends_second c.loop-i.weights.items c.args.values.now c.loop-i.i c.index-values-i.result c.index-values-i-in-loop-i.result c.in_ok-row.row c.in_err-multiplier.field-0.0 (reads_weights 2 (map json_data c.args.values.now))
    c.loop-i-test.true c.index-values-i.is c.index-values-i-in-loop-i.is c.in_ok-row.ensures.read c.in_err-multiplier.ensures.read c.loop-i.invariant.read)

pub loop-i-preserved : goal.loop-i-preserved
loop-i-preserved c = record {
  read = rw c.in_ok-push.ensures.items (goes_on c.loop-i.weights.items c.args.values.now c.loop-i.i c.index-values-i.result c.index-values-i-in-loop-i.result c.in_ok-row.row c.in_ok-multiplier.multiplier (reads_weights 2 (map json_data c.args.values.now))
      c.loop-i-test.true c.index-values-i.is c.index-values-i-in-loop-i.is c.in_ok-row.ensures.read c.in_ok-multiplier.ensures.read c.loop-i.invariant.read);
  small = rw c.in_ok-push.ensures.items (All-push IsWeight c.loop-i.weights.items (c.in_ok-row.row, c.in_ok-multiplier.multiplier) c.loop-i.invariant.small (c.in_ok-multiplier.ensures.least, omega (arith, c.in_ok-multiplier.ensures.most)));
  even = omega (arith, c.loop-i.invariant.even);
  within = omega arith;
}

pub returns-clause-read : goal.returns-clause-read
returns-clause-read c =
    is_done c.loop-i.weights.items c.args.values.now c.loop-i.i (reads_weights 2 (map json_data c.args.values.now))
    (omega (arith, c.loop-i.invariant.even, c.requires, c.loop-i.invariant.within, c.loop-i-test.false)) c.loop-i.invariant.read
