use Rattle.std.proofs.Common.{sym, ap, length, arith}
use Rattle.certificate_fit.proofs.Missing.{no-size}
use Rattle.certificate_fit.proofs.counts.domain_size.Goals as goal

pub returns-else-from-statements-clause-size : goal.returns-else-from-statements-clause-size
returns-else-from-statements-clause-size c = sym (no-size c.args.program.now c.statements.ensures.kept c.args.statement (omega (arith, ap length c.statements.ensures.statements)))
