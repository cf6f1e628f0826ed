-- What was seen so far, and then of the moves that are left.
use Rattle.std.proofs.Common.{◌≡◌, ◌++◌, drop, length}
use Rattle.iolb_model.specs.Tower.{AreTowerAllowed, first_tower_board, seen_moves}
use Rattle.memory_levels.specs.Towers.{IsTowerOf}
use Rattle.memory_levels.proofs.seeing.seen.Given as goal

abbrev pub invariant-loop-step : goal.invariant-loop-step
invariant-loop-step l = record {
  capacities : l.tower.capacities ≡ l.capacities;
  fits : IsTowerOf l.graph l.tower.board;
  legal : AreTowerAllowed l.graph l.capacities l.tower.board (drop l.step-index l.moves);
  so_far : l.seen.items ++ seen_moves l.boundary l.tower.board (drop l.step-index l.moves)
      ≡ seen_moves l.boundary (first_tower_board (length l.capacities) l.graph) l.moves;
}
