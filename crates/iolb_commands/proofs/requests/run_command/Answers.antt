use Rattle.std.proofs.Common.{sym, ap, subst}
use Rattle.command_words.specs.Requests.{Work, bytes_of, work_of}
use Rattle.iolb_commands.specs.Phases.{WorkBegins}
use Rattle.iolb_commands.specs.Written.{end_of}
use Rattle.iolb_commands.proofs.Phases.{other_begins}
use Rattle.iolb_commands.proofs.requests.run_command.Goals as goal

pub returns-in-Sample-clause-comes : goal.returns-in-Sample-clause-comes
returns-in-Sample-clause-comes g c =
    subst (λ (work : Work). WorkBegins (g.F.Files.told c.args.files.now) (bytes_of c.args.command.now.files.now) work (end_of c.sampled.result)) (sym (ap work_of c.in-Sample.is)) c.sampled.ensures.comes

pub returns-in_default-clause-comes : goal.returns-in_default-clause-comes
returns-in_default-clause-comes g c =
    other_begins (g.F.Files.told c.args.files.now) (bytes_of c.args.command.now.files.now) c.args.command.now.work (end_of c.on_program.result) (λ products. c.in_default.not-Sample products) c.on_program.ensures.comes
