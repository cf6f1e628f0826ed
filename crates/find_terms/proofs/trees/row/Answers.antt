use Rattle.std.proofs.Common.{arith}
use Rattle.affine_program.specs.Parts.{meaning}
use Rattle.find_terms.proofs.Rows.{row-next}
use Rattle.find_terms.proofs.trees.row.Goals as goal

pub loop-read-preserved : goal.loop-read-preserved
loop-read-preserved c =
    let next =
    row-next (meaning c.args.program.now) c.args.scope c.args.statement c.loop-read.read c.loop-read.row.items c.push.new.self.items c.in_ok-tree.field-0
    c.loop-read.invariant.many c.loop-read.invariant.stand c.in_ok-tree.ensures c.in_ok-push.ensures.items in
    record { many = next.many; within = omega (arith, c.loop-read-test.true); stand = next.stand }
