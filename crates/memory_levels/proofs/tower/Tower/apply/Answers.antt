-- A move is allowed exactly where nothing refuses it.
use Rattle.std.proofs.Common.{sym}
use Rattle.memory_levels.proofs.Towers.{refusal-allowed, refusal-forbidden}
use Rattle.memory_levels.proofs.tower.Tower.apply.Goals as goal

pub returns-in-Some-clause-forbidden : goal.returns-in-Some-clause-forbidden
returns-in-Some-clause-forbidden c =
    refusal-forbidden c.args.graph.now c.args.self.now.capacities c.args.self.now.board c.args.step c.in-Some.illegal c.requires (sym c.in-Some.ensures)

pub returns-in-None-clause-allowed : goal.returns-in-None-clause-allowed
returns-in-None-clause-allowed c =
    refusal-allowed c.args.graph.now c.args.self.now.capacities c.args.self.now.board c.args.step (sym c.in-None.ensures)
