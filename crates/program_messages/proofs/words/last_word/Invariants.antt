use Rattle.std.proofs.Common.{◌≤◌, length}
use Rattle.program_messages.proofs.words.last_word.Given as goal

abbrev pub invariant-loop-turn : goal.invariant-loop-turn
invariant-loop-turn l = l.start ≤ length l.text
