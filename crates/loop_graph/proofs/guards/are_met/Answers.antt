use Rattle.std.proofs.Common.{sym, ap, ◌∙◌, List, ◌+◌, drop, arith}
use Rattle.std.proofs.lemmas.Int.{ints}
use Rattle.iolb_model.specs.Form.{AffineForm, are_met}
use Rattle.base_laws.proofs.Lists.{rest_at}
use Rattle.loop_graph.proofs.RowsMet.{met_first, unmet_first}
use Rattle.loop_graph.proofs.guards.are_met.Goals as goal

pub loop-row-preserved : goal.loop-row-preserved
loop-row-preserved c =
    let split = rest_at c.args.rows.now c.loop-row.row-index c.row-item.result c.loop-row-test.true c.row-item.is in
    met_first c.row-item.result (drop (c.loop-row.row-index + 1) c.args.rows.now) c.args.point.now (omega (arith, ints, c.if-value-lt0.false, c.value.ensures))
    ∙ sym (ap (λ (rows : List AffineForm). are_met rows c.args.point.now) split) ∙ c.loop-row.invariant

pub returns-then-value-lt0 : goal.returns-then-value-lt0
returns-then-value-lt0 c =
    let split = rest_at c.args.rows.now c.loop-row.row-index c.row-item.result c.loop-row-test.true c.row-item.is in
    sym (unmet_first c.row-item.result (drop (c.loop-row.row-index + 1) c.args.rows.now) c.args.point.now (omega (arith, ints, c.if-value-lt0.true, c.value.ensures)))
    ∙ sym (ap (λ (rows : List AffineForm). are_met rows c.args.point.now) split) ∙ c.loop-row.invariant
