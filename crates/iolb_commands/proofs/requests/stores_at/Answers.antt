use Rattle.std.proofs.Common.{inl, inr, ap, subst}
use Rattle.std.proofs.lemmas.Result.{err_from_is_err_and}
use Rattle.std.specs.Prelude.{Err}
use Rattle.command_words.specs.Requests.{bytes_of, work_of}
use Rattle.json_parts.specs.declared.error.CertError.{CertError}
use Rattle.store_terms.specs.Claims.{claim_of_stores}
use Rattle.store_text.specs.Texts.{HasStores, IsTextFault, ReadsText}
use Rattle.iolb_commands.specs.declared.stop.OtherFault.TheVariants.{Stores}
use Rattle.iolb_commands.specs.declared.stop.Stop.TheVariants.{OtherText}
use Rattle.iolb_commands.proofs.RequestLaws.{is_said, is_unsaid}
use Rattle.iolb_commands.proofs.requests.stores_at.Goals as goal

pub returns-in_err-bytes-clause-cause : goal.returns-in_err-bytes-clause-cause
returns-in_err-bytes-clause-cause g c =
    let p = err_from_is_err_and c.from_residual.result c.from_residual.ensures.1 in rw (p.1, p.2) (inl c.in_err-bytes.ensures.cause)

pub returns-in-Ok-clause-said : goal.returns-in-Ok-clause-said
returns-in-Ok-clause-said g c =
    is_said (g.F.Files.told c.args.files.now) (bytes_of c.args.command.now.files.now) 2 (work_of c.args.command.now.work) c.in_ok-bytes.bytes.items c.as_slice.result.now c.as_slice.ensures.value
    c.in_ok-bytes.ensures.content HasStores (claim_of_stores c.in-Ok.stores) c.in-Ok.ensures

pub returns-in-Err-Fault-clause-cause : goal.returns-in-Err-Fault-clause-cause
returns-in-Err-Fault-clause-cause g c =
    is_unsaid (g.F.Files.told c.args.files.now) (bytes_of c.args.command.now.files.now) 2 (work_of c.args.command.now.work) c.in_ok-bytes.bytes.items c.as_slice.result.now c.as_slice.ensures.value
    c.in_ok-bytes.ensures.content IsTextFault (λ fault. OtherText (Stores fault)) _ (inr (
      c.in-Err-Fault.fault,
      subst (λ (error : CertError). ReadsText c.as_slice.result.now (Err error)) c.in-Err-Fault.field-0-is c.in-Err-Fault.ensures,
      ap (λ fault. OtherText (Stores fault)) c.in-Err-Fault.fault-is,
    ))
