use Rattle.std.proofs.Common.{sym, ap, length, arith}
use Rattle.certificate_fit.proofs.Missing.{no-levels}
use Rattle.certificate_fit.proofs.counts.levels.Goals as goal

pub returns-else-from-statements : goal.returns-else-from-statements
returns-else-from-statements c = sym (no-levels c.args.program.now c.statements.ensures.kept c.args.t (omega (arith, ap length c.statements.ensures.statements)) c.args.s c.requires)
