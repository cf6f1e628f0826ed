use Rattle.std.proofs.Common.{sym, ◌∙◌, ap, subst, List, ℕ, ◌+◌, drop}
use Rattle.std.proofs.lemmas.List.{drop_more}
use Rattle.iolb_model.specs.Game.{predecessors_at}
use Rattle.pebble_replay.specs.Turns.{current, later, IsHolding, IsSameTurn}
use Rattle.pebble_replay.specs.declared.turn.Turn.{Turn}
use Rattle.pebble_replay.proofs.Holding.{IsHeld, held-first}
use Rattle.pebble_replay.proofs.turn.Turn.hold.Goals as goal

-- one vertex fewer is left, in the same turn
held-next : (initial before after : Turn) (left : List ℕ) → IsHolding before.graph.now (current before) (later before) left after.hand → IsSameTurn before after → IsSameTurn initial before → IsHeld initial after left
held-next initial before after left holding same first = record {
  holding = rw (same.graph, same.order, same.place) holding;
  same = record {
    graph = same.graph ∙ first.graph;
    order = same.order ∙ first.order;
    place = same.place ∙ first.place;
    board = same.board ∙ first.board;
    moves = same.moves ∙ first.moves;
  };
}

pub loop-u-init : goal.loop-u-init
loop-u-init c =
    subst (λ (l : List ℕ). IsHeld c.args.self.now c.args.self.now l)
    (sym (c.preds_of-u-items.ensures.preds ∙ ap (predecessors_at c.args.self.now.graph.now) c.current-v.ensures))
    (held-first c.args.self.now c.preds_of-u-items.ensures.graph.0 c.requires.there c.requires.between)

pub loop-u-preserved : goal.loop-u-preserved
loop-u-preserved c =
    let items = c.preds_of-u-items.result.now in
    let rest = drop (c.loop-u.u-index + 1) items in
    let self = c.loop-u.self in
    let before = subst (λ (l : List ℕ). IsHolding self.graph.now (current self) (later self) l self.hand) (drop_more items c.loop-u.u-index 0 c.loop-u-test.true) c.loop-u.invariant.holding in
    held-next c.args.self.now self c.hold_one.new.self rest (c.hold_one.ensures.held rest before) c.hold_one.ensures.same c.loop-u.invariant.same
