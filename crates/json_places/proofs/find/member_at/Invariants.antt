use Rattle.std.proofs.Common.{◌≡◌}
use Rattle.json_places.proofs.find.member_at.Given as goal

abbrev pub invariant-loop-turn : goal.invariant-loop-turn
invariant-loop-turn l = l.at.text.now ≡ l.initial.at.text.now
