-- It stands at one of all where it does at one of those that are left.
use Rattle.std.proofs.Common.{◌≡◌, drop}
use Rattle.iolb_model.specs.Tower.{stands_at_one}
use Rattle.memory_levels.proofs.tower.stands_at_one.Given as goal

abbrev pub invariant-loop-level : goal.invariant-loop-level
invariant-loop-level l = stands_at_one l.levels l.v ≡ stands_at_one (drop l.level-index l.levels) l.v
