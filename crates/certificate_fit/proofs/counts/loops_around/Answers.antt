use Rattle.std.proofs.Common.{sym, ap, length, arith}
use Rattle.certificate_fit.proofs.Missing.{no-depth}
use Rattle.certificate_fit.proofs.counts.loops_around.Goals as goal

pub returns-else-from-statements-clause-depth : goal.returns-else-from-statements-clause-depth
returns-else-from-statements-clause-depth c = sym (no-depth c.args.program.now c.statements.ensures.kept c.args.statement (omega (arith, ap length c.statements.ensures.statements)))
