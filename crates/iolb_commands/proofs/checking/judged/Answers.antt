use Rattle.std.proofs.Common.{ap, subst}
use Rattle.std.specs.Prelude.{Err}
use Rattle.affine_program.specs.Parts.{meaning}
use Rattle.json_parts.specs.declared.error.CertError.{CertError}
use Rattle.claims.specs.Claims.{IsRefusal}
use Rattle.claims.specs.declared.refused.Refused.{Refused}
use Rattle.iolb_cert.specs.Read.{IsCertificate}
use Rattle.iolb_cert.specs.Texts.{ReadsText}
use Rattle.iolb_check.specs.Claims.{claim_of_certificate}
use Rattle.iolb_check.specs.Conditions.{conditions}
use Rattle.iolb_commands.specs.declared.stop.OtherFault.TheVariants.{Certificate}
use Rattle.iolb_commands.specs.declared.stop.Refusal.TheVariants.{Condition}
use Rattle.iolb_commands.specs.declared.stop.Stop.TheVariants.{OtherText, Refused as RefusedStop}
use Rattle.iolb_commands.specs.Phases.{onward, stopping, stops}
use Rattle.iolb_commands.proofs.Tasks.{has_certificate}
use Rattle.iolb_commands.proofs.checking.judged.Goals as goal

pub returns-in-Err-Fault-clause-comes : goal.returns-in-Err-Fault-clause-comes
returns-in-Err-Fault-clause-comes c =
    stopping c.in-Err-Fault.fault (subst (λ (error : CertError). ReadsText (λ said certificate. IsCertificate said (claim_of_certificate certificate)) c.args.bytes.now (Err error)) c.in-Err-Fault.field-0-is c.in-Err-Fault.ensures)
    (ap (λ fault. stops (OtherText (Certificate fault))) c.in-Err-Fault.fault-is)

pub returns-in-Ok-check-clause-comes : goal.returns-in-Ok-check-clause-comes
returns-in-Ok-check-clause-comes c =
    onward (claim_of_certificate c.in-Ok.certificate) (has_certificate c.args.bytes.now (claim_of_certificate c.in-Ok.certificate) c.in-Ok.ensures)
    (onward c.in-Ok-check.bound.branches c.in-Ok-check.ensures.meets c.answer.ensures.comes)

pub returns-in-Err-Failed-clause-comes : goal.returns-in-Err-Failed-clause-comes
returns-in-Err-Failed-clause-comes c =
    onward (claim_of_certificate c.in-Ok.certificate) (has_certificate c.args.bytes.now (claim_of_certificate c.in-Ok.certificate) c.in-Ok.ensures)
    (stopping c.in-Err-Failed.failed (subst (λ (refused : Refused). IsRefusal (conditions (meaning c.args.program.now) (claim_of_certificate c.in-Ok.certificate)) refused) c.in-Err-Failed.field-0-is c.in-Err-Failed.ensures.refused)
    (ap (λ failed. stops (RefusedStop (Condition failed))) c.in-Err-Failed.failed-is))
