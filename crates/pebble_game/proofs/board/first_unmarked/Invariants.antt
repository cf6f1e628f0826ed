-- What is found among all is found among those that are left.
use Rattle.std.proofs.Common.{◌≡◌, not, find, drop}
use Rattle.iolb_model.specs.Game.{marked}
use Rattle.pebble_game.proofs.board.first_unmarked.Given as goal

abbrev pub invariant-loop-u : goal.invariant-loop-u
invariant-loop-u l =
    find (λ u. not (marked l.marks u)) l.vertices ≡ find (λ u. not (marked l.marks u)) (drop l.u-index l.vertices)
