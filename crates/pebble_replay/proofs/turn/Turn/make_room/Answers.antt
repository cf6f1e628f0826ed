-- The vertex of the first key goes.
use Rattle.std.proofs.Common.{refl, sym, ap, subst, false, List}
use Rattle.std.proofs.lemmas.List.{append-nil}
use Rattle.iolb_model.specs.declared.game.Move.{Move}
use Rattle.pebble_game.specs.Boards.{PlayedBoard}
use Rattle.pebble_replay.specs.Turns.{current, later, Gains}
use Rattle.pebble_replay.proofs.Popped.{no-room, popped-there, popped-moves, popped-in_turn}
use Rattle.pebble_replay.specs.Queue.{Waiting, IsSwitched}
use Rattle.pebble_replay.proofs.Steps.{on_ok, on_both, with_queue, gains-queue}
use Rattle.pebble_replay.proofs.turn.Turn.make_room.Goals as goal

pub send_out-requires-clause-there : goal.send_out-requires-clause-there
send_out-requires-clause-there c =
    popped-there c.args.self.now.graph.now (later c.args.self.now) (current c.args.self.now) c.args.self.now.hand c.requires (c.in-Some.left, c.in-Some.u) c.in-Some.ensures.member

pub returns-in-Some-clause-gains : goal.returns-in-Some-clause-gains
returns-in-Some-clause-gains c =
    let moves = popped-moves c.args.self.now.graph.now (later c.args.self.now) (current c.args.self.now) c.args.self.now.hand c.requires (c.in-Some.left, c.in-Some.u) c.in-Some.ensures.member
    (sym c.if-not-is_full.ensures) c.in-Some.ensures.least in
    on_ok c.send_out.result c.send_out.ensures.gains (λ g. subst (λ (ms : List Move). Gains c.args.self.now c.send_out.new.self ms) moves (gains-queue c.args.self.now c.send_out.new.self c.pop_first.new.self _ g))

pub returns-in-Some-clause-in_turn : goal.returns-in-Some-clause-in_turn
returns-in-Some-clause-in_turn c =
    on_both c.send_out.result c.send_out.ensures.gains c.send_out.ensures.queue
    (λ g q. popped-in_turn c.args.self.now.graph.now (later c.args.self.now) (current c.args.self.now) c.args.self.now.hand c.requires (c.in-Some.left, c.in-Some.u) c.in-Some.ensures.member
    c.send_out.new.self.hand g.uses (ap (λ (b : PlayedBoard). b.board) g.board)
    (subst (λ (queue : Waiting). IsSwitched c.args.self.now.hand.queue.keys queue.keys (c.in-Some.left, c.in-Some.u) false) (sym q) c.in-Some.ensures.taken))

pub returns-in-None-clause-gains : goal.returns-in-None-clause-gains
returns-in-None-clause-gains c =
    subst (λ (ms : List Move). Gains c.args.self.now (with_queue c.args.self.now c.pop_first.new.self) ms)
    (no-room c.args.self.now.graph.now c.args.self.now.hand.board.s (later c.args.self.now) (current c.args.self.now) c.args.self.now.hand.board.board c.args.self.now.hand.queue.keys c.requires.queue
    c.in-None.ensures.none)
    (record { graph = refl; order = refl; place = refl; uses = refl; board = refl; moves = sym (append-nil c.args.self.now.moves.items) })
