use Rattle.std.proofs.Common.{arith}
use Rattle.affine_program.specs.Parts.{meaning}
use Rattle.projective.proofs.CodeLaws.{row-push}
use Rattle.projective.proofs.trees.source_trees.Goals as goal

pub loop-read-preserved : goal.loop-read-preserved
loop-read-preserved c =
    let next = row-push (meaning c.args.program.now) c.loop-read.read c.loop-read.row.items c.push.new.self.items c.in_ok-source_tree.field-0 c.loop-read.invariant.many c.loop-read.invariant.each
    c.in_ok-source_tree.ensures c.in_ok-push.ensures.items in
    record { many = next.0; within = omega (arith, c.loop-read-test.true); each = next.1 }
