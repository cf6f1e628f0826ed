use Rattle.std.proofs.Common.{◌≡◌, ◌+◌, ◌*◌}
use Rattle.c_reading.specs.Affine.{bracketed, products, sums, term, affine}
use Rattle.c_reading.proofs.Turns.{by_turns}
use Rattle.c_reading.proofs.input.Reader.+affine.Given as goal

-- the brackets that may still be opened, then how far down the grammar the rule stands
abbrev pub decreases-affine : goal.decreases-affine
decreases-affine l = 5 * l.brackets + 4

abbrev pub decreases-atom : goal.decreases-atom
decreases-atom l = 5 * l.brackets + 1

abbrev pub decreases-bracketed : goal.decreases-bracketed
decreases-bracketed l = 5 * l.brackets

abbrev pub decreases-factor : goal.decreases-factor
decreases-factor l = 5 * l.brackets + 2

abbrev pub decreases-term : goal.decreases-term
decreases-term l = 5 * l.brackets + 3

abbrev pub invariant-affine-loop-turn : goal.invariant-affine-loop-turn
invariant-affine-loop-turn l = affine l.brackets l.star l.fn.self ≡ by_turns (λ turns. sums (bracketed l.brackets) l.start l.star turns l.a l.self) l._turn-end l._turn

abbrev pub invariant-term-loop-turn : goal.invariant-term-loop-turn
invariant-term-loop-turn l = term (bracketed l.brackets) l.start l.star l.fn.self ≡ by_turns (λ turns. products (bracketed l.brackets) l.start l.star turns l.a l.self) l._turn-end l._turn
