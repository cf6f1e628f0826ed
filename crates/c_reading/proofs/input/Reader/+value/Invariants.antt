use Rattle.std.proofs.Common.{◌≡◌, ◌+◌, ◌*◌}
use Rattle.c_reading.specs.Values.{inside, arguments, all_arguments, operands, value}
use Rattle.c_reading.proofs.Turns.{by_turns}
use Rattle.c_reading.proofs.input.Reader.+value.Given as goal

-- the brackets that may still be opened, then how far down the grammar the rule stands
abbrev pub decreases-arguments : goal.decreases-arguments
decreases-arguments l = 6 * l.brackets + 1

abbrev pub decreases-call : goal.decreases-call
decreases-call l = 6 * l.brackets + 2

abbrev pub decreases-grouped : goal.decreases-grouped
decreases-grouped l = 6 * l.brackets + 1

abbrev pub decreases-inside : goal.decreases-inside
decreases-inside l = 6 * l.brackets

abbrev pub decreases-primary : goal.decreases-primary
decreases-primary l = 6 * l.brackets + 3

abbrev pub decreases-unary : goal.decreases-unary
decreases-unary l = 6 * l.brackets + 4

abbrev pub decreases-value : goal.decreases-value
decreases-value l = 6 * l.brackets + 5

abbrev pub invariant-arguments-loop-turn : goal.invariant-arguments-loop-turn
invariant-arguments-loop-turn l = all_arguments (inside l.brackets) l.fn.reads l.fn.self ≡ by_turns (λ turns. arguments (inside l.brackets) turns l.reads l.self) l._turn-end l._turn

abbrev pub invariant-value-loop-turn : goal.invariant-value-loop-turn
invariant-value-loop-turn l = value l.brackets l.fn.reads l.fn.self ≡ by_turns (λ turns. operands (inside l.brackets) l.brackets turns l.reads l.self) l._turn-end l._turn
