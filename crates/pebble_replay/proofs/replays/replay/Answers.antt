use Rattle.std.proofs.Common.{◌≡◌, sym, ◌∙◌, ap, subst, ℕ, ◌++◌, List, None, arith}
use Rattle.iolb_model.specs.declared.game.Move.{Move}
use Rattle.iolb_model.specs.Graph.{ComputationGraph}
use Rattle.iolb_model.specs.Game.{IsCompletePebbling}
use Rattle.pebble_replay.specs.Player.{moves_before, moves_at, totals_of, StandsFor}
use Rattle.pebble_replay.specs.declared.player.Player.{Player}
use Rattle.pebble_replay.proofs.Counting.{before-more}
use Rattle.pebble_replay.proofs.Playing.{played-complete}
use Rattle.pebble_replay.proofs.replays.replay.Goals as goal

-- the totals of a player that is where it was are those of the moves that were made
totals-made : (graph : ComputationGraph) (s : ℕ) (order : List ℕ) (before after : Player) (totals : ℕ × ℕ × ℕ) (moves : List Move) → after ≡ before → StandsFor graph order before → before.s ≡ s
    → moves ≡ moves_before graph s order before.place
    → ((g : ComputationGraph) (o : List ℕ) → StandsFor g o after → totals ≡ totals_of (moves_before g after.s o after.place)) → totals ≡ totals_of moves
totals-made graph s order before after totals moves same stands pebbles made h =
    h graph order (subst (StandsFor graph order) (sym same) stands)
    ∙ ap (λ (p : Player). totals_of (moves_before graph p.s order p.place)) same
    ∙ ap (λ (n : ℕ). totals_of (moves_before graph n order before.place)) pebbles
    ∙ ap totals_of (sym made)

pub loop-moves-preserved : goal.loop-moves-preserved
loop-moves-preserved c =
    let more = rw c.in-Some.is at c.in_ok-more.ensures.more in
    let moves = rw c.in-Some.is at c.in_ok-more.ensures.moves in
    let below = rw c.in-Some.is at c.in_ok-more.ensures.before_end in
    record {
      stands = more.0;
      pebbles = more.2 ∙ c.loop-moves.invariant.pebbles;
      made = c.in_ok-append.ensures.items
          ∙ ap (λ (ms : List Move). ms ++ c.in-Some.more.items) c.loop-moves.invariant.made
          ∙ ap (λ (ms : List Move). moves_before c.args.graph.now c.args.s c.args.order.now c.loop-moves.player.place ++ ms)
          (moves ∙ ap (λ (s : ℕ). moves_at c.args.graph.now s c.args.order.now c.loop-moves.player.place) c.loop-moves.invariant.pebbles)
          ∙ sym (before-more c.args.graph.now c.args.s c.args.order.now c.loop-moves.player.place below)
          ∙ ap (moves_before c.args.graph.now c.args.s c.args.order.now) (sym more.1);
    }

pub returns-clause-complete : goal.returns-clause-complete
returns-clause-complete c =
    let none : c.in_ok-more.field-0 ≡ None = grind (arith, c.in_default.is, c.in_default.not-Some) in
    let done = rw none at c.in_ok-more.ensures.done in
    subst (λ (ms : List Move). IsCompletePebbling c.args.graph.now c.args.s ms)
    (sym (c.loop-moves.invariant.made ∙ ap (moves_before c.args.graph.now c.args.s c.args.order.now) done.2))
    (played-complete c.args.graph.now c.args.order.now c.args.s c.instances-instances.ensures.graph.0 c.requires.each c.in_ok-player.ensures.ok)

pub returns-clause-moves : goal.returns-clause-moves
returns-clause-moves c =
    let done = rw c.in_default.is at c.in_ok-more.ensures.done in
    c.loop-moves.invariant.made ∙ ap (moves_before c.args.graph.now c.args.s c.args.order.now) done.2

pub returns-clause-loads : goal.returns-clause-loads
returns-clause-loads c =
    let done = rw c.in_default.is at c.in_ok-more.ensures.done in
    ap (λ (t : ℕ × ℕ × ℕ). t.0)
    (totals-made c.args.graph.now c.args.s c.args.order.now c.loop-moves.player c.step.new.self c.totals-loads.result c.loop-moves.moves.items done.0 done.1 c.loop-moves.invariant.pebbles
    c.loop-moves.invariant.made c.totals-loads.ensures)

pub returns-clause-stores : goal.returns-clause-stores
returns-clause-stores c =
    let done = rw c.in_default.is at c.in_ok-more.ensures.done in
    ap (λ (t : ℕ × ℕ × ℕ). t.1)
    (totals-made c.args.graph.now c.args.s c.args.order.now c.loop-moves.player c.step.new.self c.totals-loads.result c.loop-moves.moves.items done.0 done.1 c.loop-moves.invariant.pebbles
    c.loop-moves.invariant.made c.totals-loads.ensures)

pub returns-clause-computes : goal.returns-clause-computes
returns-clause-computes c =
    let done = rw c.in_default.is at c.in_ok-more.ensures.done in
    ap (λ (t : ℕ × ℕ × ℕ). t.2)
    (totals-made c.args.graph.now c.args.s c.args.order.now c.loop-moves.player c.step.new.self c.totals-loads.result c.loop-moves.moves.items done.0 done.1 c.loop-moves.invariant.pebbles
    c.loop-moves.invariant.made c.totals-loads.ensures)

pub returns-clause-ok : goal.returns-clause-ok
returns-clause-ok c = c.in_ok-player.ensures.ok
