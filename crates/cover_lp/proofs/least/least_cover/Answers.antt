use Rattle.std.proofs.Common.{arith}
use Rattle.cover_lp.proofs.Pairs.{least-pair, pair-step, cover-some, cover-none}
use Rattle.cover_lp.proofs.least.least_cover.Goals as goal

pub returns-in-Some-2-clause-least : goal.returns-in-Some-2-clause-least
returns-in-Some-2-clause-least c =
    let found = cover-some c.args.sets.now c.args.d c.loop-q.q c.in_ok-cover.field-0 c.in-Some-2.cover c.in-Some-2.is c.in_ok-cover.ensures.some in
    rw found.0 (least-pair c.args.sets.now c.args.d c.loop-q.q c.in-Some-2.cover.weights.items c.in-Some-2.cover.packing.items c.loop-q.auto.q found.2 found.1 c.loop-q.invariant)

pub loop-q-preserved : goal.loop-q-preserved
loop-q-preserved c = pair-step c.args.sets.now c.args.d c.loop-q.q c.loop-q.invariant
    (cover-none c.args.sets.now c.args.d c.loop-q.q c.in_ok-cover.field-0 c.in_default-2.is c.in_ok-cover.ensures.none)

pub returns-clause-too_fine : goal.returns-clause-too_fine
returns-clause-too_fine c = λ same. record {
  held = c.in_default.ensures.none;
  none = λ q weights packing positive most small is_pair. c.loop-q.invariant q weights packing positive (omega (arith, most, c.loop-q-test.false)) small is_pair;
}
