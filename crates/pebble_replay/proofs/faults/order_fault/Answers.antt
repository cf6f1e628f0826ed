use Rattle.std.proofs.Common.{◌≡◌, sym, ◌∙◌, ap, subst, List, Bool, ℕ, ◌+◌, ◌&&◌, not, drop, get_or, find, None, arith}
use Rattle.std.specs.Prelude.{nat_lt}
use Rattle.std.proofs.lemmas.List.{drop_more}
use Rattle.iolb_model.specs.Game.{marked, predecessors_at}
use Rattle.pebble_replay.proofs.Ordering.{IsOrdering, ordering-fault, ordering-step}
use Rattle.pebble_replay.proofs.faults.order_fault.Goals as goal

pub returns-in-Some : goal.returns-in-Some
returns-in-Some c =
    let v : ℕ = get_or c.args.order.now c.loop-v.v-index 0 in
    let rest : List ℕ = drop (c.loop-v.v-index + 1) c.args.order.now in
    let before = subst (λ (l : List ℕ). IsOrdering c.args.graph.now c.args.order.now c.loop-v.done.items l) (drop_more c.args.order.now c.loop-v.v-index 0 c.loop-v-test.true) c.loop-v.invariant in
    let found = ap (λ (done : List Bool). find (λ u. nat_lt u c.args.graph.now.instances && not (marked done u)) (predecessors_at c.args.graph.now v)) (sym c.as_slice.ensures.value) ∙ sym c.in-Some.ensures in
    sym (ordering-fault c.args.graph.now c.args.order.now c.loop-v.done.items v rest c.in-Some.u c.instances.ensures.graph.0 before found)

pub loop-v-preserved : goal.loop-v-preserved
loop-v-preserved c =
    let v : ℕ = get_or c.args.order.now c.loop-v.v-index 0 in
    let rest : List ℕ = drop (c.loop-v.v-index + 1) c.args.order.now in
    let before = subst (λ (l : List ℕ). IsOrdering c.args.graph.now c.args.order.now c.loop-v.done.items l) (drop_more c.args.order.now c.loop-v.v-index 0 c.loop-v-test.true) c.loop-v.invariant in
    let none : c.first_missing.result ≡ None = grind (arith, c.in_default.is, c.in_default.not-Some) in
    let found = ap (λ (done : List Bool). find (λ u. nat_lt u c.args.graph.now.instances && not (marked done u)) (predecessors_at c.args.graph.now v)) (sym c.as_slice.ensures.value) ∙ sym c.first_missing.ensures ∙ none in
    ordering-step c.args.graph.now c.args.order.now c.loop-v.done.items v rest c.instances.ensures.graph.0 before found
