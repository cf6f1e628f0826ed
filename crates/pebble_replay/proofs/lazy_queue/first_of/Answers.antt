use Rattle.std.proofs.Common.{sym, ◌∙◌, arith}
use Rattle.std.specs.BinaryHeap.{heap_items}
use Rattle.pebble_replay.proofs.Waiting.{covered-past, covered-popped, least-key}
use Rattle.pebble_replay.proofs.lazy_queue.first_of.Goals as goal

pub returns-then-is_waiting-clause-least : goal.returns-then-is_waiting-clause-least
returns-then-is_waiting-clause-least c = λ q on.
    least-key c.args.marks.now (heap_items c.loop-left.heap) c.in-Some.field-0 c.loop-left.invariant (c.in-Some.ensures.heap_order c.loop-left.invariant.ordered).1 q on

pub returns-then-is_waiting-clause-covered : goal.returns-then-is_waiting-clause-covered
returns-then-is_waiting-clause-covered c =
    covered-popped c.args.marks.now (heap_items c.loop-left.heap) (heap_items c.pop.new.self) c.in-Some.field-0 (sym c.is_waiting.ensures ∙ c.if-is_waiting.true) c.loop-left.invariant
    c.in-Some.ensures.permutation (c.in-Some.ensures.heap_order c.loop-left.invariant.ordered).0

pub loop-left-preserved : goal.loop-left-preserved
loop-left-preserved c =
    covered-past c.args.marks.now (heap_items c.loop-left.heap) (heap_items c.pop.new.self) c.in-Some.field-0 (sym c.is_waiting.ensures ∙ c.if-is_waiting.false) c.loop-left.invariant
    c.in-Some.ensures.permutation (c.in-Some.ensures.heap_order c.loop-left.invariant.ordered).0

pub returns-then-is_waiting-clause-waits : goal.returns-then-is_waiting-clause-waits
returns-then-is_waiting-clause-waits c = sym c.is_waiting.ensures ∙ c.if-is_waiting.true

pub loop-left-smaller : goal.loop-left-smaller
loop-left-smaller c = omega (arith, c.in-Some.ensures.len)
