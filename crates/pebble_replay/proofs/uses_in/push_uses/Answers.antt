use Rattle.std.proofs.Common.{sym, subst, List, ℕ, ◌+◌, drop, get_or}
use Rattle.std.proofs.lemmas.List.{drop_more}
use Rattle.pebble_replay.proofs.UsesIn.{ArePushed, pushed-first, pushed-step}
use Rattle.pebble_replay.proofs.uses_in.push_uses.Goals as goal

pub loop-u-init : goal.loop-u-init
loop-u-init c = pushed-first c.args.left c.args.us.now c.args.uses.now c.requires.there c.requires.once

pub loop-u-preserved : goal.loop-u-preserved
loop-u-preserved c =
    let before = subst (λ (l : List ℕ). ArePushed c.args.left c.args.us.now c.args.uses.now c.loop-u.uses l) (drop_more c.args.us.now c.loop-u.u-index 0 c.loop-u-test.true) c.loop-u.invariant in
    subst (λ l. ArePushed c.args.left c.args.us.now c.args.uses.now l (drop (c.loop-u.u-index + 1) c.args.us.now)) (sym c.in_ok-push.ensures)
    (pushed-step c.args.left c.args.us.now c.args.uses.now c.loop-u.uses (get_or c.args.us.now c.loop-u.u-index 0) (drop (c.loop-u.u-index + 1) c.args.us.now) before)
