use Rattle.std.proofs.Common.{◌≡◌, take}
use Rattle.json_places.specs.Values.{StandsAt}
use Rattle.json_places.proofs.find.value_place.Given as goal

abbrev pub invariant-loop-step : goal.invariant-loop-step
invariant-loop-step l = record {
  text : l.at.text.now ≡ l.text;
  stands : StandsAt l.text (take l.step-index l.step-items) l.at.place;
}
