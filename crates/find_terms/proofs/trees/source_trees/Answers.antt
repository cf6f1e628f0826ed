use Rattle.std.proofs.Common.{arith, ap, length}
use Rattle.affine_program.specs.Parts.{meaning}
use Rattle.find_terms.proofs.Rows.{rows-next}
use Rattle.find_terms.proofs.trees.source_trees.Goals as goal

pub loop-statement-preserved : goal.loop-statement-preserved
loop-statement-preserved c =
    let next =
    rows-next (meaning c.args.program.now) c.args.scope c.loop-statement.statement c.loop-statement.rows.items c.push.new.self.items c.in_ok-row.field-0
    c.loop-statement.invariant.many c.loop-statement.invariant.stand c.in_ok-row.ensures c.in_ok-push.ensures.items in
    record { many = next.many; within = omega (arith, c.loop-statement-test.true, ap length c.statements-statement-end.ensures.statements); stand = next.stand }
