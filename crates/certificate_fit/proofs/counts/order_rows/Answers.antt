use Rattle.std.proofs.Common.{sym, ap, length, arith}
use Rattle.certificate_fit.proofs.Missing.{no-rows}
use Rattle.certificate_fit.proofs.counts.order_rows.Goals as goal

pub returns-then-from-statements : goal.returns-then-from-statements
returns-then-from-statements c = sym (no-rows c.args.program.now c.statements.ensures.kept c.args.t (omega (arith, ap length c.statements.ensures.statements)) c.args.s c.args.level c.requires)
