use Rattle.std.proofs.Common.{ap, subst}
use Rattle.std.proofs.lemmas.Result.{err_from_is_err_and}
use Rattle.std.specs.Prelude.{Option}
use Rattle.affine_c.specs.Meaning.{IfFault}
use Rattle.affine_program.specs.Parts.{meaning}
use Rattle.command_words.specs.Requests.{bytes_of, file_at, work_of}
use Rattle.iolb_host.specs.Files.{FileMap}
use Rattle.iolb_commands.specs.declared.stop.Stop.TheVariants.{ProgramText}
use Rattle.iolb_commands.specs.Phases.{NamesCome, onward, stopping, stops}
use Rattle.iolb_commands.specs.Written.{end_of}
use Rattle.iolb_model.specs.declared.limits.TheConstants.{PROGRAM_BYTES}
use Rattle.iolb_commands.proofs.RequestLaws.{bytes_there, unread}
use Rattle.iolb_commands.proofs.requests.on_program.Goals as goal

pub returns-in_err-bytes-clause-comes : goal.returns-in_err-bytes-clause-comes
returns-in_err-bytes-clause-comes g c =
    let p = err_from_is_err_and c.from_residual.result c.from_residual.ensures.1 in
    rw (p.1, p.2) (unread (g.F.Files.told c.args.files.now) (bytes_of c.args.command.now.files.now) (work_of c.args.command.now.work) 0 _ c.in_err-bytes.field-0.0 c.in_err-bytes.ensures.cause)

pub returns-in-Ok-clause-comes : goal.returns-in-Ok-clause-comes
returns-in-Ok-clause-comes g c =
    onward c.as_slice.result.now (bytes_there (g.F.Files.told c.args.files.now) (file_at (bytes_of c.args.command.now.files.now) 0) PROGRAM_BYTES c.in_ok-bytes.bytes.items c.as_slice.result.now
    c.as_slice.ensures.value c.in_ok-bytes.ensures.content)
    (onward (meaning c.in-Ok.program) c.in-Ok.ensures.program
    (subst (λ (told : Option FileMap). NamesCome told (bytes_of c.args.command.now.files.now) (work_of c.args.command.now.work) (meaning c.in-Ok.program) (end_of c.work_on.result))
    c.read_at.ensures.told_stays c.work_on.ensures.comes))

pub returns-in-Err-Fault-clause-comes : goal.returns-in-Err-Fault-clause-comes
returns-in-Err-Fault-clause-comes g c =
    onward c.as_slice.result.now (bytes_there (g.F.Files.told c.args.files.now) (file_at (bytes_of c.args.command.now.files.now) 0) PROGRAM_BYTES c.in_ok-bytes.bytes.items c.as_slice.result.now
    c.as_slice.ensures.value c.in_ok-bytes.ensures.content)
    (stopping c.in-Err-Fault.fault (subst (IfFault c.as_slice.result.now) c.in-Err-Fault.field-0-is c.in-Err-Fault.ensures.fault) (ap (λ fault. stops (ProgramText fault)) c.in-Err-Fault.fault-is))
