use Rattle.flow_deps.specs.Answers.{IsAnswered, HasShortAnswer, IsAsShort, Question}
use Rattle.flow_deps.proofs.AnswerLaws.{goals-more, none-goal, found-none, found-some}
use Rattle.flow_deps.proofs.answers.goals_answered.Goals as goal

pub returns-in_default : goal.returns-in_default
returns-in_default c =
    let asked : Question = record { system = c.args.system.now; goal = c.goal-item.result } in
    none-goal c.args.system.now c.args.goals.now c.loop-goal.goal-index c.goal-item.result c.loop-goal-test.true c.goal-item.is
    (found-none c.in_ok-shown.field-0 (¬ HasShortAnswer asked) (λ shown. IsAnswered asked shown × IsAsShort c.args.wanted shown) c.in_default.is c.in_ok-shown.ensures)

pub loop-goal-preserved : goal.loop-goal-preserved
loop-goal-preserved c =
    let asked : Question = record { system = c.args.system.now; goal = c.goal-item.result } in
    goals-more c.args.wanted c.args.system.now c.args.goals.now c.loop-goal.goal-index c.goal-item.result c.loop-goal.all.items c.push.new.self.items c.in-Some.shown c.loop-goal-test.true c.goal-item.is
    c.loop-goal.invariant
    (found-some c.in_ok-shown.field-0 c.in-Some.shown (¬ HasShortAnswer asked) (λ shown. IsAnswered asked shown × IsAsShort c.args.wanted shown) c.in-Some.is c.in_ok-shown.ensures)
    c.in_ok-push.ensures.items
