use Rattle.std.proofs.Common.{◌+◌, ◌≤◌, ℕ, map, ◌∷◌, [], ap, ◌∙◌}
use Rattle.std.proofs.lemmas.List.{length-append}
use Rattle.base_laws.proofs.Lists.{All-push}
use Rattle.json_values.specs.View.{json_data}
use Rattle.json_parts.specs.Json.{each, reads_natural}
use Rattle.json_parts.proofs.Loop.{goes_on, ends, is_done}
use Rattle.certificate_parts.proofs.polynomials.exponents.Goals as goal

pub returns-in-Err-clause-read : goal.returns-in-Err-clause-read
returns-in-Err-clause-read c =
    ends (reads_natural 0 8) c.loop-i.exponents.items c.args.values.now c.loop-i.i (c.loop-i.i + 1) c.index-values-i.result c.in-Err.error c.under.result (each (reads_natural 0 8) 1 (map json_data c.args.values.now))
    c.loop-i-test.true c.index-values-i.is c.in-Err.ensures.read c.under.ensures c.loop-i.invariant.read

pub loop-i-preserved : goal.loop-i-preserved
loop-i-preserved c = record {
  read = rw c.in_ok-push-in-Ok.ensures.items (goes_on (reads_natural 0 8) c.loop-i.exponents.items c.args.values.now c.loop-i.i (c.loop-i.i + 1) c.index-values-i.result c.in-Ok.exponent (each (reads_natural 0 8) 1 (map json_data c.args.values.now))
      c.loop-i-test.true c.index-values-i.is c.in-Ok.ensures.read c.loop-i.invariant.read);
  low = rw c.in_ok-push-in-Ok.ensures.items (All-push (λ (e : ℕ). e ≤ 8) c.loop-i.exponents.items c.in-Ok.exponent c.loop-i.invariant.low c.in-Ok.ensures.most);
  all = rw c.in_ok-push-in-Ok.ensures.items (length-append c.loop-i.exponents.items (c.in-Ok.exponent ∷ []) ∙ ap (λ k. k + 1) c.loop-i.invariant.all);
}

pub returns-clause-read : goal.returns-clause-read
returns-clause-read c =
    is_done (reads_natural 0 8) c.loop-i.exponents.items c.args.values.now c.loop-i.i (c.loop-i.i + 1) (each (reads_natural 0 8) 1 (map json_data c.args.values.now)) c.loop-i-test.false c.loop-i.invariant.read
