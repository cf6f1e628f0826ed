use Rattle.std.proofs.Common.{◌≡◌, take}
use Rattle.iolb_model.specs.Game.{loads, stores}
use Rattle.pebble_replay.specs.Played.{computes}
use Rattle.pebble_replay.proofs.counts.counts_of.Given as goal

abbrev pub invariant-loop-step : goal.invariant-loop-step
invariant-loop-step l = record {
  loaded : l.counts.loads ≡ loads (take l.step-index l.moves);
  stored : l.counts.stores ≡ stores (take l.step-index l.moves);
  computed : l.counts.computes ≡ computes (take l.step-index l.moves);
}
