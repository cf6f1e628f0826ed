use Rattle.std.proofs.Common.{◌∙◌, rules, arith}
use Rattle.std.proofs.lemmas.Grind.{common_steps}
use Rattle.c_reading.specs.Refs.{subscripts}
use Rattle.c_reading.proofs.Turns.{this_turn, next_turn}
use Rattle.c_reading.proofs.input.Reader.subscripts.Goals as goal

pub loop-turn-preserved : goal.loop-turn-preserved
unfolding subscripts
loop-turn-preserved c =
    let e = c.loop-turn.invariant ∙ next_turn (λ n. subscripts c.args.brackets n c.loop-turn.rows c.loop-turn.self) _ c.loop-turn._turn c.loop-turn-test.true in
    rw this_turn (first_of (search rules, grind (arith, common_steps)))
