use Rattle.std.proofs.Common.{◌∙◌, sym}
use Rattle.flow_deps.proofs.PointLaws.{subscript-next}
use Rattle.flow_deps.proofs.points.subscript_for.Goals as goal

pub loop-i-preserved : goal.loop-i-preserved
loop-i-preserved c =
    sym (subscript-next c.args.place c.loop-i.i c.args.written.now c.args.read.now c.index-written-i.result c.loop-i-test.true c.if-i-read.false c.index-written-i.is (sym c.is_name.ensures ∙ c.if-is_name.false))
    ∙ c.loop-i.invariant
