use Rattle.std.proofs.Common.{◌≡◌}
use Rattle.c_reading.specs.Refs.{subscripts, all_subscripts}
use Rattle.c_reading.proofs.Turns.{by_turns}
use Rattle.c_reading.proofs.input.Reader.subscripts.Given as goal

abbrev pub invariant-loop-turn : goal.invariant-loop-turn
invariant-loop-turn l = all_subscripts l.brackets l.fn.self ≡ by_turns (λ turns. subscripts l.brackets turns l.rows l.self) l._turn-end l._turn
