use Rattle.std.proofs.Common.{◌≡◌, ◌≤◌}
use Rattle.json_places.specs.Values.{AreBlank}
use Rattle.json_places.proofs.cursor.Cursor.skip_blanks.Given as goal

abbrev pub invariant-loop-turn : goal.invariant-loop-turn
invariant-loop-turn l = record {
  text : l.at.text.now ≡ l.self.text.now;
  onward : l.self.place ≤ l.at.place;
  blank : AreBlank l.self.text.now l.self.place l.at.place;
}
