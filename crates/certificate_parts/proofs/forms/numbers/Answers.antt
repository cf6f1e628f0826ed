use Rattle.std.proofs.Common.{◌≡◌, ◌+◌, map, ◌∷◌, [], ◌++◌, ap, ◌∙◌, arith, to_z, of_z}
use Rattle.std.specs.Prelude.{ℤ}
use mir.Syntax.{w128}
use Rattle.std.proofs.lemmas.Int.{to_z-of_z, fits_signed_from_abs}
use Rattle.std.proofs.lemmas.List.{length-append}
use Rattle.affine_form.specs.Form.{IsSmall}
use Rattle.base_laws.proofs.Lists.{All-push}
use Rattle.json_values.specs.View.{json_data}
use Rattle.json_parts.specs.Json.{each, reads_integer}
use Rattle.json_parts.proofs.Loop.{goes_on, ends, is_done}
use Rattle.certificate_parts.proofs.forms.numbers.Goals as goal
use Rattle.iolb_model.specs.declared.limits.TheConstants.{NUMBER_SIZE}

pub returns-in-Err-clause-read : goal.returns-in-Err-clause-read
returns-in-Err-clause-read c =
    ends (reads_integer NUMBER_SIZE) c.loop-i.numbers.items c.args.values.now c.loop-i.i c.loop-i.i c.index-values-i.result c.in-Err.error c.under.result (each (reads_integer NUMBER_SIZE) 0 (map json_data c.args.values.now))
    c.loop-i-test.true c.index-values-i.is c.in-Err.ensures.read c.under.ensures c.loop-i.invariant.read

pub loop-i-preserved : goal.loop-i-preserved
loop-i-preserved c =
    let n : ℤ = c.in-Ok.number in
    let bits : to_z w128 (of_z w128 n) ≡ n = to_z-of_z w128 n (fits_signed_from_abs w128 n (omega (arith, c.in-Ok.ensures.small))) in
    let items : c.push.new.self.items ≡ c.loop-i.numbers.items ++ n ∷ [] = c.in_ok-push-in-Ok.ensures.items ∙ ap (λ (z : ℤ). c.loop-i.numbers.items ++ z ∷ []) bits in
    record {
      read = rw items (goes_on (reads_integer NUMBER_SIZE) c.loop-i.numbers.items c.args.values.now c.loop-i.i c.loop-i.i c.index-values-i.result n (each (reads_integer NUMBER_SIZE) 0 (map json_data c.args.values.now))
          c.loop-i-test.true c.index-values-i.is c.in-Ok.ensures.read c.loop-i.invariant.read);
      small = rw items (All-push (IsSmall NUMBER_SIZE) c.loop-i.numbers.items n c.loop-i.invariant.small c.in-Ok.ensures.small);
      all = rw items (length-append c.loop-i.numbers.items (n ∷ []) ∙ ap (λ k. k + 1) c.loop-i.invariant.all);
    }

pub returns-clause-read : goal.returns-clause-read
returns-clause-read c =
    is_done (reads_integer NUMBER_SIZE) c.loop-i.numbers.items c.args.values.now c.loop-i.i c.loop-i.i (each (reads_integer NUMBER_SIZE) 0 (map json_data c.args.values.now)) c.loop-i-test.false c.loop-i.invariant.read
