use Rattle.std.proofs.Common.{◌≡◌, sym, ◌∙◌, ap, subst, ℕ, true, false, cond, List}
use Rattle.std.specs.Prelude.{Option}
use Rattle.std.specs.List.{list_any}
use Rattle.std.specs.BTreeMap.{is_at}
use Rattle.pebble_replay.specs.Queue.{Waiting, pair_cmp, waits_with, IsSwitched}
use Rattle.pebble_replay.proofs.Waiting.{taken-switched, idle-switched}
use Rattle.pebble_replay.proofs.lazy_queue.Queue.remove.Goals as goal

pub returns-then-is_waiting : goal.returns-then-is_waiting
returns-then-is_waiting c = λ q.
    taken-switched c.self.inside.marks.items c.args.left c.args.u
    (subst (λ (marks : List (Option ℕ)). waits_with marks (c.args.left, c.args.u) ≡ true) c.as_slice.ensures.value (sym c.is_waiting.ensures ∙ c.if-is_waiting.true)) q
    ∙ ap (λ (w : Waiting). cond (is_at (pair_cmp (c.args.left, c.args.u)) q) false (list_any (is_at (pair_cmp q)) w.keys)) c.self.view_is

pub returns-else-is_waiting : goal.returns-else-is_waiting
returns-else-is_waiting c =
    subst (λ (w : Waiting). IsSwitched w.keys w.keys (c.args.left, c.args.u) false) c.self.view_is
    (idle-switched c.self.inside.marks.items c.args.left c.args.u
    (subst (λ (marks : List (Option ℕ)). waits_with marks (c.args.left, c.args.u) ≡ false) c.as_slice.ensures.value (sym c.is_waiting.ensures ∙ c.if-is_waiting.false)))
