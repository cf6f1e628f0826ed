use Rattle.std.proofs.Common.{refl, sym, subst, map, []}
use Rattle.affine_program.specs.Parts.{meaning}
use Rattle.command_words.specs.Requests.{task_of}
use Rattle.command_words.specs.Sizes.{named_of}
use Rattle.command_words.specs.declared.command.Job.{Job}
use Rattle.iolb_commands.specs.declared.stop.Stop.TheVariants.{Memory}
use Rattle.iolb_commands.specs.Phases.{TaskComes, answers, stops, unsaid}
use Rattle.iolb_commands.specs.Written.{end_of}
use Rattle.iolb_commands.proofs.Tasks.{check_comes, levels_come, shares_come, values_come}
use Rattle.iolb_commands.proofs.answer.answer.Goals as goal

pub returns-in-Ok-clause-comes : goal.returns-in-Ok-clause-comes
returns-in-Ok-clause-comes c =
    subst (λ (job : Job). TaskComes (task_of job) (meaning c.args.program.now) c.args.sizes.now c.args.bound.now.branches (answers c.in-Ok.text.items [])) (sym c.in-Check.is)
    (check_comes c.args.program.now c.args.bound.now c.args.sizes.now c.in-Ok.text.items c.requires.assumed c.requires.holds c.in-Ok.ensures)

pub returns-in-Err-clause-comes : goal.returns-in-Err-clause-comes
returns-in-Err-clause-comes c =
    subst (λ (job : Job). TaskComes (task_of job) (meaning c.args.program.now) c.args.sizes.now c.args.bound.now.branches (stops Memory)) (sym c.in-Check.is) (unsaid refl)

pub returns-in-Eval-clause-comes : goal.returns-in-Eval-clause-comes
returns-in-Eval-clause-comes c =
    subst (λ (job : Job). TaskComes (task_of job) (meaning c.args.program.now) c.args.sizes.now c.args.bound.now.branches (end_of c.valued.result)) (sym c.in-Eval.is)
    (values_come c.args.program.now c.args.bound.now c.args.sizes.now c.in-Eval.setting.memory (map named_of c.in-Eval.setting.sizes.items) (end_of c.valued.result)
    c.requires.assumed c.requires.holds c.valued.ensures.comes)

pub returns-in-Parallel-clause-comes : goal.returns-in-Parallel-clause-comes
returns-in-Parallel-clause-comes c =
    let setting = c.in-Parallel.setting in
    subst (λ (job : Job). TaskComes (task_of job) (meaning c.args.program.now) c.args.sizes.now c.args.bound.now.branches (end_of c.parallel_answer.result)) (sym c.in-Parallel.is)
    (shares_come c.args.program.now c.args.bound.now c.args.sizes.now c.in-Parallel.processors setting.memory (map named_of setting.sizes.items) (end_of c.parallel_answer.result)
    c.requires.assumed c.requires.holds c.requires.parallel c.parallel_answer.ensures.comes)

pub returns-in-Levels-clause-comes : goal.returns-in-Levels-clause-comes
returns-in-Levels-clause-comes c =
    let setting = c.in-Levels.setting in
    subst (λ (job : Job). TaskComes (task_of job) (meaning c.args.program.now) c.args.sizes.now c.args.bound.now.branches (end_of c.levels_answer.result)) (sym c.in-Levels.is)
    (levels_come c.args.program.now c.args.bound.now c.args.sizes.now setting.capacities.items c.as_slice.result.now (map named_of setting.sizes.items) (end_of c.levels_answer.result)
    c.requires.assumed c.requires.holds c.as_slice.ensures.value c.levels_answer.ensures.comes)
