use Rattle.std.proofs.Common.{◌≡◌, refl, sym, ◌∙◌, ap, Option, None, arith}
use Rattle.pebble_replay.specs.declared.fault.ReplayFault.{ReplayFault}
use Rattle.pebble_replay.specs.Order.{first_of, order_fault, size_fault}
use Rattle.pebble_replay.proofs.player.Player.new.Goals as goal

no-fault : (first second : Option ReplayFault) → first ≡ None → second ≡ None → first_of first second ≡ None
no-fault first second e f = ap (λ (o : Option ReplayFault). first_of o second) e ∙ f

pub returns-clause-ok : goal.returns-clause-ok
returns-clause-ok c =
    no-fault (order_fault c.args.graph.now c.args.order.now) (size_fault c.args.graph.now c.args.s c.args.order.now) (sym c.in_ok-fault.ensures ∙ c.in_default.is) (sym c.in_default-size_fault.ensures)

pub returns-clause-stands : goal.returns-clause-stands
returns-clause-stands c = record {
  each = c.requires.each;
  playable = returns-clause-ok c;
  place = omega arith;
  goes_on = record { hand = c.in_ok-new.field-0; here = refl; holds = record { between = c.in_ok-new.ensures.between; board = c.in_ok-new.ensures.board } };
  loaded = c.counts_of.ensures.loads;
  stored = c.counts_of.ensures.stores;
  computed = c.counts_of.ensures.computes;
}
