use Rattle.std.proofs.Common.{sym, ◌∙◌, ap, subst, List, ℕ, ◌+◌, drop, get_or}
use Rattle.std.proofs.lemmas.List.{drop_more}
use Rattle.iolb_model.specs.Game.{predecessors_at}
use Rattle.pebble_replay.proofs.Holding.{IsReleased, released-first, released-step}
use Rattle.pebble_replay.proofs.turn.Turn.release.Goals as goal

pub loop-u-init : goal.loop-u-init
loop-u-init c =
    subst (λ (l : List ℕ). IsReleased c.args.self.now c.release_one.new.self l)
    (sym (c.preds_of-u-items.ensures.preds ∙ ap (predecessors_at c.args.self.now.graph.now) c.current-v.ensures))
    (released-first c.args.self.now c.release_one.new.self c.current-v.result c.preds_of-u-items.ensures.graph.0 c.requires.there c.current-v.ensures c.requires.releasing
    c.in_ok-release_one.ensures.released c.in_ok-release_one.ensures.same)

pub loop-u-preserved : goal.loop-u-preserved
loop-u-preserved c =
    let rest : List ℕ = drop (c.loop-u.u-index + 1) c.preds_of-u-items.result.now in
    let u : ℕ = get_or c.preds_of-u-items.result.now c.loop-u.u-index 0 in
    let before = subst (λ (l : List ℕ). IsReleased c.args.self.now c.loop-u.self l) (drop_more c.preds_of-u-items.result.now c.loop-u.u-index 0 c.loop-u-test.true) c.loop-u.invariant in
    released-step c.args.self.now c.loop-u.self c.release_one-in-loop-u.new.self u rest before (c.in_ok-release_one-2.ensures.released rest before.releasing) c.in_ok-release_one-2.ensures.same
