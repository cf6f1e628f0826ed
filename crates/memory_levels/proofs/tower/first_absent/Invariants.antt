-- What is found among all is found among those that are left.
use Rattle.std.proofs.Common.{◌≡◌, not, find, drop}
use Rattle.iolb_model.specs.Game.{marked}
use Rattle.memory_levels.proofs.tower.first_absent.Given as goal

abbrev pub invariant-loop-u : goal.invariant-loop-u
invariant-loop-u l =
    find (λ u. not (marked l.level u)) l.vertices ≡ find (λ u. not (marked l.level u)) (drop l.u-index l.vertices)
