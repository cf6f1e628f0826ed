use Rattle.std.proofs.Common.{◌≡◌, sym, ◌∙◌, ap, subst, ℕ, true, false, cond, List, [], Some, None}
use Rattle.std.specs.Prelude.{Option, IfNone}
use Rattle.std.specs.List.{list_any}
use Rattle.std.specs.BTreeMap.{is_at}
use Rattle.pebble_replay.specs.Queue.{Waiting, pair_cmp, waits_with}
use Rattle.pebble_replay.proofs.Waiting.{keys-test, no-keys, taken-switched}
use Rattle.pebble_replay.proofs.lazy_queue.Queue.pop_first.Goals as goal

in_any : {X : Type 0} {P : Type 0} (o : Option X) → P → IfNone o P
in_any None p = p
in_any (Some x) p = tt

pub returns-in_err-key-clause-none : goal.returns-in_err-key-clause-none
returns-in_err-key-clause-none c =
    in_any c.from_residual.result (subst (λ (w : Waiting). w.keys ≡ []) c.self.view_is
    (no-keys c.self.inside.marks.items (λ q. subst (λ (marks : List (Option ℕ)). waits_with marks q ≡ false) c.as_slice.ensures.value (c.in_err-key.ensures.none q))))

pub returns-clause-member : goal.returns-clause-member
returns-clause-member c =
    subst (λ (w : Waiting). list_any (is_at (pair_cmp c.in_ok-key.key)) w.keys ≡ true) c.self.view_is
    (keys-test c.self.inside.marks.items c.in_ok-key.key.0 c.in_ok-key.key.1
    ∙ subst (λ (marks : List (Option ℕ)). waits_with marks c.in_ok-key.key ≡ true) c.as_slice.ensures.value c.in_ok-key.ensures.waits)

pub returns-clause-least : goal.returns-clause-least
returns-clause-least c = λ q on.
    c.in_ok-key.ensures.least q (subst (λ (marks : List (Option ℕ)). waits_with marks q ≡ true) (sym c.as_slice.ensures.value)
    (sym (keys-test c.self.inside.marks.items q.0 q.1) ∙ subst (λ (w : Waiting). list_any (is_at (pair_cmp q)) w.keys ≡ true) (sym c.self.view_is) on))

pub returns-clause-taken : goal.returns-clause-taken
returns-clause-taken c = λ q.
    taken-switched c.self.inside.marks.items c.in_ok-key.key.0 c.in_ok-key.key.1
    (subst (λ (marks : List (Option ℕ)). waits_with marks c.in_ok-key.key ≡ true) c.as_slice.ensures.value c.in_ok-key.ensures.waits) q
    ∙ ap (λ (w : Waiting). cond (is_at (pair_cmp c.in_ok-key.key) q) false (list_any (is_at (pair_cmp q)) w.keys)) c.self.view_is
