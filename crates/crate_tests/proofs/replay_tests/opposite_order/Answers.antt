use Rattle.std.proofs.Common.{◌≡◌, sym, ◌∙◌, ap, subst, List, ℕ, arith}
use Rattle.pebble_replay.specs.Order.{HoldsEachOnce}
use Rattle.crate_tests.proofs.Orders.{falling, falling-holds, falling-more}
use Rattle.crate_tests.proofs.replay_tests.opposite_order.Goals as goal

pub loop-v-preserved : goal.loop-v-preserved
loop-v-preserved c = falling-more c.loop-v.v c.loop-v.order.items c.insert.new.self.items c.loop-v.invariant c.in_ok-insert.ensures.items

pub returns : goal.returns
returns c =
    let all : c.loop-v.v ≡ c.args.graph.now.instances = omega (arith, c.instances-v-end.ensures.instances) in
    subst (λ (l : List ℕ). HoldsEachOnce c.args.graph.now l) (sym (c.loop-v.invariant ∙ ap falling all)) (falling-holds c.args.graph.now)
