use Rattle.std.proofs.Common.{◌≡◌}
use Rattle.json_places.proofs.cursor.Cursor.skip_string.Given as goal

abbrev pub invariant-loop-turn : goal.invariant-loop-turn
invariant-loop-turn l = l.at.text.now ≡ l.self.text.now
