use Rattle.std.proofs.Common.{◌≡◌}
use Rattle.c_reading.specs.Head.{parameter_names, all_parameter_names}
use Rattle.c_reading.proofs.Turns.{by_turns}
use Rattle.c_reading.proofs.input.Reader.parameter_names.Given as goal

abbrev pub invariant-loop-turn : goal.invariant-loop-turn
invariant-loop-turn l = all_parameter_names l.fn.self ≡ by_turns (λ turns. parameter_names turns l.self) l._turn-end l._turn
