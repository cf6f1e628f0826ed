-- The moves so far are counted.
use Rattle.std.proofs.Common.{◌≡◌, length, take}
use Rattle.memory_levels.specs.Climbs.{AreCrossings}
use Rattle.memory_levels.proofs.climbs.crossings.Given as goal

abbrev pub invariant-loop-step : goal.invariant-loop-step
invariant-loop-step l = record {
  counted : AreCrossings l.crossed.items (take l.step-index l.moves);
  each : length l.crossed.items ≡ l.fast;
}
