-- So many empty levels stand.
use Rattle.std.proofs.Common.{◌≡◌, replicate, false}
use Rattle.iolb_model.specs.Game.{vertices}
use Rattle.memory_levels.proofs.tower.first_levels.Given as goal

abbrev pub invariant-loop : goal.invariant-loop
invariant-loop l = record { so_far : l.levels.items ≡ replicate l.counter (replicate (vertices l.graph) false) }
