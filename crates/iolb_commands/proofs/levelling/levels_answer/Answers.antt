use Rattle.std.proofs.Common.{refl, ◌∙◌, ap, subst}
use Rattle.std.specs.Prelude.{Err}
use Rattle.iolb_check.specs.Bounds.{bound_of}
use Rattle.memory_levels.specs.declared.level_values.ValuesFault.{ValuesFault}
use Rattle.memory_levels.specs.Values.{EvaluatesAtLevels}
use Rattle.iolb_commands.specs.declared.stop.Refusal.TheVariants.{Assumption}
use Rattle.iolb_commands.specs.declared.stop.Stop.TheVariants.{Refused}
use Rattle.iolb_commands.specs.Phases.{onward, saying, stopping, stops}
use Rattle.iolb_commands.specs.Values.{boundary_lines}
use Rattle.iolb_commands.proofs.levelling.levels_answer.Goals as goal

pub returns-in-Err-OutsideAssumption-clause-comes : goal.returns-in-Err-OutsideAssumption-clause-comes
returns-in-Err-OutsideAssumption-clause-comes c = λ program holds.
    let number = c.in-Err-OutsideAssumption in
    stopping number.number (subst (λ (fault : ValuesFault). EvaluatesAtLevels c.args.bound.now c.args.sizes.now c.args.capacities.now (Err fault)) number.field-0-is number.ensures)
    (ap (λ n. stops (Refused (Assumption n))) number.number-is)

pub returns-in-Err-Wide-clause-comes : goal.returns-in-Err-Wide-clause-comes
returns-in-Err-Wide-clause-comes c = λ program holds.
    let wide = subst (λ (fault : ValuesFault). EvaluatesAtLevels c.args.bound.now c.args.sizes.now c.args.capacities.now (Err fault)) c.in-Err-Wide.field-0-is c.in-Err-Wide.ensures in
    onward tt wide.0 (stopping tt wide.1 refl)

pub returns-in-Ok-boundary_lines-clause-comes : goal.returns-in-Ok-boundary_lines-clause-comes
returns-in-Ok-boundary_lines-clause-comes c = λ program holds.
    onward tt c.in-Ok.ensures.0 (onward tt c.in-Ok.ensures.1 (saying _ _ (
      (holds, c.bounds_hold_at_levels.ensures program (bound_of c.args.bound.now) holds),
      c.in-Ok-boundary_lines.ensures ∙ ap (boundary_lines 1) (c.as_slice.ensures.value ∙ c.in-Ok.ensures.2),
      refl,
    ) refl))
