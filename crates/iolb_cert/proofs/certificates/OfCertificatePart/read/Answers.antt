use Rattle.std.proofs.Common.{◌≡◌, Ok, Vec, Global, refl, sym, subst}
use Rattle.std.proofs.lemmas.Result.{IfOk-at_ok}
use Rattle.serde_json.specs.Data.{Data}
use Rattle.json_values.specs.View.{json_data}
use Rattle.dep_quast.specs.Quasts.{trees_of}
use Rattle.dep_quast.specs.declared.quasts.Quasts.{Quasts}
use Rattle.iolb_check.specs.Claims.{claim_of_branch, claim_of_certificate}
use Rattle.iolb_check.specs.Limits.{CertificateParts, IsWithinLimits}
use Rattle.iolb_check.specs.declared.term.Branch.{Branch}
use Rattle.json_parts.specs.Fields.{reads_object, object-kept}
use Rattle.json_parts.specs.Related.{AreAll}
use Rattle.json_parts.proofs.Failing.{made_fails}
use Rattle.iolb_cert.specs.Certificates.{CertificateMembers, certificate_fields, certificate_made, certificate_shape}
use Rattle.iolb_cert.specs.Read.{IsBranch, IsCertificate}
use Rattle.iolb_cert.specs.Written.{branch_link}
use Rattle.iolb_cert.proofs.Limits.{read_certificate_small}
use Rattle.json_parts.proofs.Related.{all-mapped}
use Rattle.iolb_cert.proofs.certificates.OfCertificatePart.read.Goals as goal

abbrev parts_of : Quasts → Vec Branch Global → CertificateParts
parts_of quasts branches = record { quasts = quasts; branches = branches.items }

is-read : (b : CertificateMembers) (quasts : Quasts) (branches : Vec Branch Global) → b.1.0 ≡ trees_of quasts → AreAll branch_link.Is b.0 branches.items
    → IsCertificate (certificate_made b) (claim_of_certificate (parts_of quasts branches))
is-read b quasts branches trees are = (sym trees, all-mapped IsBranch claim_of_branch b.0 branches.items are)

are-small : (d : Data) (b : CertificateMembers) (quasts : Quasts) (branches : Vec Branch Global) → reads_object certificate_fields d ≡ Ok b → b.1.0 ≡ trees_of quasts → AreAll branch_link.Is b.0 branches.items
    → IsWithinLimits (parts_of quasts branches)
unfolding certificate_shape
are-small d b quasts branches says trees are =
    read_certificate_small (certificate_made b) (parts_of quasts branches) (is-read b quasts branches trees are) (IfOk-at_ok certificate_fields.IsWithin says (object-kept certificate_fields d))

pub returns-in_err-branches : goal.returns-in_err-branches
unfolding certificate_shape
returns-in_err-branches c =
    made_fails _ c.from_residual.result c.in_err-branches.field-0.0 (reads_object certificate_fields (json_data c.args.value.now)) certificate_made c.from_residual.ensures c.in_err-branches.ensures

pub within-requires : goal.within-requires
within-requires c =
    let said = c.in_ok-branches.ensures in (are-small (json_data c.args.value.now) said.0 c.in_ok-branches.quasts c.in_ok-branches.branches said.1 said.2.1.0 said.2.0)

pub returns : goal.returns
unfolding certificate_shape
returns c =
    let said = c.in_ok-branches.ensures in (
      certificate_made said.0,
      rw said.1 refl,
      subst (λ (parts : CertificateParts). IsCertificate (certificate_made said.0) (claim_of_certificate parts)) (sym c.within.ensures) (is-read said.0 c.in_ok-branches.quasts c.in_ok-branches.branches said.2.1.0 said.2.0),
    )
