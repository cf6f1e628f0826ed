use Rattle.std.proofs.Common.{refl}
use Rattle.json_values.specs.View.{json_data}
use Rattle.json_parts.specs.Fields.{reads_object}
use Rattle.json_parts.proofs.Failing.{made_fails}
use Rattle.certificate_parts.specs.Inverses.{inverse_fields, inverse_made, inverse_shape}
use Rattle.certificate_parts.proofs.inverses.OfInversePart.read.Goals as goal

pub returns-in_err-matrix : goal.returns-in_err-matrix
unfolding inverse_shape
returns-in_err-matrix c = made_fails _ c.from_residual.result c.in_err-matrix.field-0.0 (reads_object inverse_fields (json_data c.args.value.now)) inverse_made c.from_residual.ensures c.in_err-matrix.ensures

pub returns : goal.returns
unfolding inverse_shape
returns c =
    let said = c.in_ok-matrix.ensures in
    let are = said.2 in (
      inverse_made said.0,
      rw said.1 refl,
      rw (are.0, are.1.0) refl,
    )
