use Rattle.std.proofs.Common.{◌≡◌, refl, sym, subst, ℕ, List, true}
use Rattle.std.specs.Prelude.{Option, Some, slice_set}
use Rattle.std.specs.List.{list_any}
use Rattle.std.specs.BTreeMap.{is_at}
use Rattle.std.specs.BinaryHeap.{heap_items}
use Rattle.pebble_replay.specs.Queue.{Waiting, pair_cmp, keys_of, IsCovered, IsSwitched}
use Rattle.pebble_replay.proofs.Waiting.{covered-same, covered-more, put-reached}
use Rattle.pebble_replay.proofs.lazy_queue.Queue.insert.Goals as goal

pub invariant_of-self-2 : goal.invariant_of-self-2
invariant_of-self-2 c =
    let cleared : IsCovered c.self.inside.marks.items (heap_items c.clear.new.heap) =
    subst (λ (marks : List (Option ℕ)). IsCovered marks (heap_items c.clear.new.heap)) c.as_slice.ensures.value
    (c.clear.ensures (subst (λ (marks : List (Option ℕ)). IsCovered marks (heap_items c.self.inside.heap)) (sym c.as_slice.ensures.value) c.self.invariant)) in
    let reached = covered-same c.self.inside.marks.items c.reach.new.marks.items (heap_items c.clear.new.heap) c.reach.ensures.same cleared in
    covered-more c.reach.new.marks.items c.args.left c.args.u (heap_items c.clear.new.heap) (heap_items c.push.new.self) _ c.in_ok-reach.ensures.there refl reached
    c.in_ok-push.ensures.permutation (c.in_ok-push.ensures.heap_order reached.ordered)

pub returns : goal.returns
returns c = λ free.
    subst (λ (w : Waiting). IsSwitched w.keys (keys_of (slice_set c.reach.new.marks.items c.args.u (Some c.args.left))) (c.args.left, c.args.u) true) c.self.view_is
    (put-reached c.self.inside.marks.items c.reach.new.marks.items c.args.left c.args.u c.in_ok-reach.ensures.there c.reach.ensures.same
    (λ l m. free l (subst (λ (w : Waiting). list_any (is_at (pair_cmp (l, c.args.u))) w.keys ≡ true) c.self.view_is m)))
