use Rattle.std.proofs.Common.{refl}
use Rattle.json_values.specs.View.{json_data}
use Rattle.json_parts.specs.Fields.{reads_object}
use Rattle.json_parts.proofs.Failing.{made_fails}
use Rattle.iolb_cert.specs.FrontTexts.{front_fields, front_made, front_shape}
use Rattle.iolb_cert.proofs.front.OfFrontPart.read.Goals as goal

pub returns-in_err-back : goal.returns-in_err-back
unfolding front_shape
returns-in_err-back c = made_fails _ c.from_residual.result c.in_err-back.field-0.0 (reads_object front_fields (json_data c.args.value.now)) front_made c.from_residual.ensures c.in_err-back.ensures

pub returns : goal.returns
unfolding front_shape
returns c =
    let said = c.in_ok-back.ensures in
    let are = said.2 in (
      front_made said.0,
      rw said.1 refl,
      record { claims = rw (c.new.ensures, are.0, are.1.0, are.1.1.0, are.1.1.1.0, are.1.1.1.1.0, are.1.1.1.1.1.0, are.1.1.1.1.1.1.1.0, are.1.1.1.1.1.1.1.1.0, are.1.1.1.1.1.1.1.1.1.0, are.1.1.1.1.1.1.1.1.1.1.0, are.1.1.1.1.1.1.1.1.1.1.1.1.0, are.1.1.1.1.1.1.1.1.1.1.1.1.1.0) refl; sums = rw c.new.ensures are.1.1.1.1.1.1.1.1.1.1.1.0; outer_sums = are.1.1.1.1.1.1.0 },
    )
