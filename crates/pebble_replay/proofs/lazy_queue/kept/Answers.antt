use Rattle.std.proofs.Common.{refl, sym, ◌∙◌, ap, ℕ, get_or}
use Rattle.std.specs.BinaryHeap.{heap_items}
use Rattle.std.specs.declared.cmp.Reverse.{Reverse}
use Rattle.std.specs.List.{list_any}
use Rattle.std.proofs.lemmas.List.{take_all}
use Rattle.pebble_replay.specs.Queue.{is_key}
use Rattle.pebble_replay.proofs.Waiting.{kept-one, kept-none}
use Rattle.pebble_replay.proofs.lazy_queue.kept.Goals as goal
use Rattle.pebble_replay.proofs.lazy_queue.kept.Goals.{then-is_waiting+in_ok-push, else-is_waiting}

pub loop-key-preserved : goal.loop-key-preserved
loop-key-preserved c =
    let d : Reverse (ℕ × ℕ) = record { 0 = (0, 0) } in
    let entry : Reverse (ℕ × ℕ) = get_or c.as_slice-key-items.result.now c.loop-key.key-index d in
    elim c.if-is_waiting.branch [
      | then-is_waiting+in_ok-push w ↦ rw w.kept-is (record {
        ordered = w.in_ok-push.ensures.heap_order c.loop-key.invariant.ordered;
        kept = kept-one c.args.marks.now c.as_slice-key-items.result.now c.loop-key.key-index entry d (heap_items c.loop-key.kept) (heap_items w.push.new.self) c.loop-key-test.true refl c.loop-key.invariant.kept w.in_ok-push.ensures.permutation;
      })
      | else-is_waiting w ↦ rw w.kept-is (record {
        ordered = c.loop-key.invariant.ordered;
        kept = kept-none c.args.marks.now c.as_slice-key-items.result.now c.loop-key.key-index entry d (heap_items c.loop-key.kept) c.loop-key-test.true refl c.loop-key.invariant.kept (sym c.is_waiting.ensures ∙ w.if-is_waiting.false);
      })
    ]

pub returns : goal.returns
returns c = λ covered. record {
  ordered = c.loop-key.invariant.ordered;
  covers = λ q on.
      c.loop-key.invariant.kept q on
      (ap (list_any (is_key q)) (take_all c.loop-key.key-index c.as_slice-key-items.result.now c.loop-key-test.false ∙ c.as_slice-key-items.ensures.value) ∙ covered.covers q on);
}
