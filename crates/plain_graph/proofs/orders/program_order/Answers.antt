use Rattle.std.proofs.Common.{◌≡◌, sym, ◌∙◌, ap, subst, List, ℕ, arith}
use Rattle.std.specs.List.{range_with_len}
use Rattle.pebble_replay.specs.Order.{HoldsEachOnce}
use Rattle.plain_graph.proofs.ProgramOrder.{range-holds, range-more}
use Rattle.plain_graph.proofs.orders.program_order.Goals as goal

pub loop-v-preserved : goal.loop-v-preserved
loop-v-preserved c = range-more c.loop-v.v c.loop-v.order.items c.push.new.self.items c.loop-v.invariant c.in_ok-push.ensures.items

pub returns-clause-each : goal.returns-clause-each
returns-clause-each c =
    let all : c.loop-v.v ≡ c.args.graph.now.instances = omega (arith, c.instances-v-end.ensures.instances) in
    subst (λ (l : List ℕ). HoldsEachOnce c.args.graph.now l) (sym (c.loop-v.invariant ∙ ap (range_with_len 0) all)) (range-holds c.args.graph.now)
