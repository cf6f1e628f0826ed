use Rattle.affine_c.specs.Text.{assumption_pragma}
use Rattle.affine_c.proofs.Pieces.{one-more}
use Rattle.affine_c.proofs.program.push_assumptions.Goals as goal

pub loop-row-preserved : goal.loop-row-preserved
loop-row-preserved c = one-more (assumption_pragma c.args.names.now) c.loop-row.text.items c.push_assumption.new.text.items _ c.args.rows.now c.loop-row.row-index c.row-item.result
    c.loop-row-test.true c.row-item.is c.in_ok-push_assumption.ensures c.loop-row.invariant
