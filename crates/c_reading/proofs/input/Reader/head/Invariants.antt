use Rattle.std.proofs.Common.{◌≡◌}
use Rattle.c_reading.specs.Head.{directives, head}
use Rattle.c_reading.proofs.Turns.{by_turns}
use Rattle.c_reading.proofs.input.Reader.head.Given as goal

abbrev pub invariant-loop-turn : goal.invariant-loop-turn
invariant-loop-turn l = head l.fn.self ≡ by_turns (λ turns. directives turns (record { assumed = l.assumed; rows = l.rows }) l.self) l._turn-end l._turn
