use Rattle.std.proofs.Common.{◌≡◌}
use Rattle.json_places.proofs.find.item_at.Given as goal

abbrev pub invariant-loop-turn : goal.invariant-loop-turn
invariant-loop-turn l = l.before.text.now ≡ l.initial.before.text.now
