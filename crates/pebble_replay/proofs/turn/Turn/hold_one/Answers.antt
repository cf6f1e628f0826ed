use Rattle.std.proofs.Common.{refl, subst, ℕ, false}
use Rattle.pebble_replay.specs.Turns.{current, later}
use Rattle.pebble_replay.proofs.Holding.{hold-step}
use Rattle.pebble_replay.specs.Queue.{IsSwitched}
use Rattle.pebble_replay.proofs.turn.Turn.hold_one.Goals as goal

pub returns-clause-held : goal.returns-clause-held
returns-clause-held c = λ left h.
    hold-step c.args.self.now.graph.now (current c.args.self.now) (later c.args.self.now) c.args.u left c.args.self.now.hand
    (record { board = c.args.self.now.hand.board; uses = c.pop.new.self; queue = c.remove.new.self }) h refl c.pop.ensures
    (subst (λ (k : ℕ). IsSwitched c.args.self.now.hand.queue.keys c.remove.new.self.keys (k, c.args.u) false) c.next.ensures c.remove.ensures)
