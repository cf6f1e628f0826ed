use Rattle.std.proofs.Common.{◌≡◌, refl, sym, ◌∙◌, ap, subst, ℕ, true}
use Rattle.std.specs.Prelude.{nat_eq}
use Rattle.std.proofs.lemmas.Bool.{and_parts, eqb-true}
use Rattle.iolb_model.specs.Game.{marked}
use Rattle.pebble_replay.specs.Queue.{IsSwitched}
use Rattle.pebble_replay.specs.Turns.{later}
use Rattle.pebble_replay.specs.Uses.{first_or_zero, left_from}
use Rattle.pebble_replay.proofs.Holding.{release-step}
use Rattle.pebble_replay.proofs.Queue.{left-first}
use Rattle.pebble_replay.proofs.turn.Turn.release_one.Goals as goal

pub returns-in_ok-insert-clause-released : goal.returns-in_ok-insert-clause-released
returns-in_ok-insert-clause-released c = λ left h.
    let own : c.next-left.result ≡ left_from c.args.self.now.graph.now (later c.args.self.now) c.args.u =
    c.next-left.ensures ∙ ap first_or_zero (h.uses.each c.args.u c.requires.there) ∙ sym (left-first c.args.self.now.graph.now (later c.args.self.now) c.args.u) in
    let switched = c.in_ok-insert.ensures (λ l m.
    eqb-true l (left_from c.args.self.now.graph.now (later c.args.self.now) c.args.u) (and_parts (marked c.args.self.now.hand.board.board.red c.args.u) (nat_eq l (left_from c.args.self.now.graph.now (later c.args.self.now) c.args.u)) (h.sound (l, c.args.u) m)).1
    ∙ sym own) in
    release-step c.args.self.now.graph.now (later c.args.self.now) c.args.u left c.args.self.now.hand
    (record { board = c.args.self.now.hand.board; uses = c.args.self.now.hand.uses; queue = c.insert.new.self }) h c.requires.there (sym c.if-is_red.ensures) refl refl
    (subst (λ (k : ℕ). IsSwitched c.args.self.now.hand.queue.keys c.insert.new.self.keys (k, c.args.u) true) c.next-left.ensures switched)
