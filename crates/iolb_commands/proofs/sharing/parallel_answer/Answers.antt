use Rattle.std.proofs.Common.{refl, ◌∙◌, ap, subst}
use Rattle.std.specs.Prelude.{Err}
use Rattle.iolb_check.specs.Bounds.{Evaluates, bound_of}
use Rattle.iolb_check.specs.declared.value_fault.ValueFault.{ValueFault}
use Rattle.iolb_model.specs.Parallel.{parallel_value}
use Rattle.parallel_bound.specs.Widths.{HasWideParallelBranch}
use Rattle.iolb_commands.specs.declared.stop.Refusal.TheVariants.{Assumption}
use Rattle.iolb_commands.specs.declared.stop.Stop.TheVariants.{Refused}
use Rattle.iolb_commands.specs.Phases.{onward, saying, stopping, stops}
use Rattle.iolb_commands.specs.Values.{processor_lines}
use Rattle.iolb_commands.proofs.sharing.parallel_answer.Goals as goal

pub returns-in-Err-OutsideAssumption-clause-comes : goal.returns-in-Err-OutsideAssumption-clause-comes
returns-in-Err-OutsideAssumption-clause-comes c = λ program holds parallel.
    let number = c.in-Err-OutsideAssumption in
    stopping number.number (subst (λ (fault : ValueFault). Evaluates c.args.bound.now.assumed.rows c.args.sizes.now (parallel_value (bound_of c.args.bound.now) c.args.sizes.now c.args.processors c.args.s)
    (HasWideParallelBranch c.args.sizes.now c.args.processors c.args.s c.args.bound.now.branches) (Err fault)) number.field-0-is number.ensures)
    (ap (λ n. stops (Refused (Assumption n))) number.number-is)

pub returns-in-Err-Wide-clause-comes : goal.returns-in-Err-Wide-clause-comes
returns-in-Err-Wide-clause-comes c = λ program holds parallel.
    let wide = subst (λ (fault : ValueFault). Evaluates c.args.bound.now.assumed.rows c.args.sizes.now (parallel_value (bound_of c.args.bound.now) c.args.sizes.now c.args.processors c.args.s)
    (HasWideParallelBranch c.args.sizes.now c.args.processors c.args.s c.args.bound.now.branches) (Err fault)) c.in-Err-Wide.field-0-is c.in-Err-Wide.ensures in
    onward tt wide.0 (stopping tt wide.1 refl)

pub returns-in-Ok-processor_lines-clause-comes : goal.returns-in-Ok-processor_lines-clause-comes
returns-in-Ok-processor_lines-clause-comes c = λ program holds parallel.
    onward tt c.in-Ok.ensures.0 (onward tt c.in-Ok.ensures.1 (saying _ _ ((holds, parallel), c.in-Ok-processor_lines.ensures ∙ ap (processor_lines c.args.processors) c.in-Ok.ensures.2, refl) refl))
