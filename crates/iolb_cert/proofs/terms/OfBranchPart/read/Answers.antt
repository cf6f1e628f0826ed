use Rattle.std.proofs.Common.{refl}
use Rattle.json_values.specs.View.{json_data}
use Rattle.json_parts.specs.Fields.{reads_object}
use Rattle.json_parts.proofs.Failing.{made_fails}
use Rattle.iolb_cert.specs.Terms.{branch_fields, branch_made, branch_shape}
use Rattle.iolb_check.specs.Claims.{claim_of_term}
use Rattle.iolb_cert.specs.Read.{IsTerm}
use Rattle.json_parts.proofs.Related.{all-mapped}
use Rattle.iolb_cert.proofs.terms.OfBranchPart.read.Goals as goal

pub returns-in_err-disjoint : goal.returns-in_err-disjoint
unfolding branch_shape
returns-in_err-disjoint c = made_fails _ c.from_residual.result c.in_err-disjoint.field-0.0 (reads_object branch_fields (json_data c.args.value.now)) branch_made c.from_residual.ensures c.in_err-disjoint.ensures

pub returns : goal.returns
unfolding branch_shape
returns c =
    let said = c.in_ok-disjoint.ensures in
    let are = said.2 in (
      branch_made said.0,
      rw said.1 refl,
      (all-mapped IsTerm claim_of_term said.0.1.0 c.in_ok-disjoint.terms.items are.1.0, rw are.0 refl),
    )
