use Rattle.std.proofs.Common.{refl}
use Rattle.json_values.specs.View.{json_data}
use Rattle.json_parts.specs.Fields.{reads_object}
use Rattle.json_parts.proofs.Failing.{made_fails}
use Rattle.iolb_cert.specs.ColdTexts.{cold_fields, cold_made, cold_shape}
use Rattle.iolb_cert.proofs.cold.OfColdPart.read.Goals as goal

pub returns-in_err-inside : goal.returns-in_err-inside
unfolding cold_shape
returns-in_err-inside c = made_fails _ c.from_residual.result c.in_err-inside.field-0.0 (reads_object cold_fields (json_data c.args.value.now)) cold_made c.from_residual.ensures c.in_err-inside.ensures

pub returns : goal.returns
unfolding cold_shape
returns c =
    let said = c.in_ok-inside.ensures in
    let are = said.2 in (
      cold_made said.0,
      rw said.1 refl,
      record { claims = rw (c.new.ensures, are.0, are.1.0, are.1.1.0, are.1.1.1.0, are.1.1.1.1.0, are.1.1.1.1.1.0, are.1.1.1.1.1.1.0, are.1.1.1.1.1.1.1.0) refl; sums = rw c.new.ensures are.1.1.1.1.1.1.1.1.0 },
    )
