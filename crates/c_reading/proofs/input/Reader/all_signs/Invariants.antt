use Rattle.std.proofs.Common.{◌≡◌}
use Rattle.c_reading.specs.Affine.{signs, all_signs}
use Rattle.c_reading.proofs.Turns.{by_turns}
use Rattle.c_reading.proofs.input.Reader.all_signs.Given as goal

abbrev pub invariant-loop-turn : goal.invariant-loop-turn
invariant-loop-turn l = all_signs l.fn.self ≡ by_turns (λ turns. signs turns l.negative l.self) l._turn-end l._turn
