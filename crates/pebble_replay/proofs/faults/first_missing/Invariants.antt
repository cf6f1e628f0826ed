use Rattle.std.proofs.Common.{◌≡◌, ◌&&◌, not, drop, find}
use Rattle.std.specs.Prelude.{nat_lt}
use Rattle.iolb_model.specs.Game.{marked}
use Rattle.pebble_replay.proofs.faults.first_missing.Given as goal

abbrev pub invariant-loop-u : goal.invariant-loop-u
invariant-loop-u l =
    find (λ u. nat_lt u l.graph.instances && not (marked l.done u)) l.u-items
    ≡ find (λ u. nat_lt u l.graph.instances && not (marked l.done u)) (drop l.u-index l.u-items)
