use Rattle.std.proofs.Common.{refl, ◌∙◌, ap, subst, ℕ}
use Rattle.std.specs.Prelude.{Err}
use Rattle.memory_levels.specs.Climbs.{Climbs}
use Rattle.memory_levels.specs.declared.climbs.ClimbFault.{ClimbFault}
use Rattle.memory_levels.specs.declared.illegal.TowerIllegal.{TowerIllegal}
use Rattle.iolb_commands.specs.declared.stop.Refusal.TheVariants.{Illegal, NotComplete}
use Rattle.iolb_commands.specs.declared.stop.Stop.TheVariants.{Refused}
use Rattle.iolb_commands.specs.Phases.{onward, saying, stopping, stops}
use Rattle.iolb_commands.specs.Values.{crossing_lines}
use Rattle.iolb_commands.proofs.climbing.play_answer.Goals as goal

pub returns-in-Err-Illegal-clause-comes : goal.returns-in-Err-Illegal-clause-comes
returns-in-Err-Illegal-clause-comes c =
    stopping (c.in-Err-Illegal.line, c.in-Err-Illegal.illegal)
    (subst (λ (fault : ClimbFault). Climbs c.args.graph.now c.args.capacities.now c.args.moves.now (Err fault)) c.in-Err-Illegal.field-0-is c.in-Err-Illegal.ensures)
    (rw (c.in-Err-Illegal.line-is, c.in-Err-Illegal.illegal-is) refl)

pub returns-in-Err-NotComplete-clause-comes : goal.returns-in-Err-NotComplete-clause-comes
returns-in-Err-NotComplete-clause-comes c =
    let left = subst (λ (fault : ClimbFault). Climbs c.args.graph.now c.args.capacities.now c.args.moves.now (Err fault)) c.in-Err-NotComplete.field-0-is c.in-Err-NotComplete.ensures in
    onward tt left.0 (stopping c.in-Err-NotComplete.vertex left.1 (ap (λ vertex. stops (Refused (NotComplete vertex))) c.in-Err-NotComplete.vertex-is))

pub returns-in-Ok-crossing_lines-clause-comes : goal.returns-in-Ok-crossing_lines-clause-comes
returns-in-Ok-crossing_lines-clause-comes c =
    let complete = c.in-Ok.ensures.0 in
    onward tt complete.allowed (onward tt complete (saying _ _ (tt, c.in-Ok-crossing_lines.ensures ∙ ap (crossing_lines 1) (c.as_slice.ensures.value ∙ c.in-Ok.ensures.1), refl) refl))
