use Rattle.std.proofs.Common.{◌≡◌, ◌≤◌, length}
use Rattle.c_reading.specs.Compare.{compares, all_compares}
use Rattle.c_reading.proofs.Turns.{by_turns}
use Rattle.c_reading.proofs.input.Reader.compares.Given as goal

abbrev pub invariant-loop-turn : goal.invariant-loop-turn
invariant-loop-turn l =
    (all_compares l.brackets l.room l.fn.rows l.fn.self ≡ by_turns (λ turns. compares l.brackets l.room turns l.rows l.self) l._turn-end l._turn)
    × (length l.fn.rows ≤ length l.rows)
