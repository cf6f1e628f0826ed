-- The moves so far are what the lines before say.
use Rattle.std.proofs.Common.{◌≡◌, ◌++◌, length}
use Rattle.std.specs.List.{AllByRecursion}
use Rattle.memory_levels.specs.MovesText.{CanBeWritten, moves_text}
use Rattle.memory_levels.proofs.moves_text.read_moves.Given as goal

abbrev pub invariant-loop-rest : goal.invariant-loop-rest
invariant-loop-rest l = record {
  each : AllByRecursion CanBeWritten l.moves.items;
  text : l.fn.bytes ≡ moves_text l.moves.items ++ l.rest;
}

abbrev pub decreases-loop-rest : goal.decreases-loop-rest
decreases-loop-rest l = length l.rest
