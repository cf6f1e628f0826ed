use Rattle.std.proofs.Common.{take}
use Rattle.flow_deps.specs.Answers.{Answers, following}
use Rattle.flow_deps.proofs.answers.goals_answered.Given as goal

abbrev pub invariant-loop-goal : goal.invariant-loop-goal
invariant-loop-goal l = Answers l.wanted (following l.system (take l.goal-index l.goals)) l.all.items
