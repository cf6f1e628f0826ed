use Rattle.std.proofs.Common.{◌≡◌}
use Rattle.c_reading.specs.Items.{items, all_items}
use Rattle.c_reading.proofs.Turns.{by_turns}
use Rattle.c_reading.proofs.input.Reader.items.Given as goal

abbrev pub invariant-loop-turn : goal.invariant-loop-turn
invariant-loop-turn l = all_items l.fn.self ≡ by_turns (λ turns. items turns l.items l.self) l._turn-end l._turn
