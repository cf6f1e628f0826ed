use Rattle.std.proofs.Common.{◌≡◌, ◌≤◌, length, drop}
use Rattle.c_tokens.specs.Words.{past_words}
use Rattle.c_tokens.proofs.words.past_words.Given as goal

abbrev pub invariant-loop-w : goal.invariant-loop-w
invariant-loop-w l = (past_words (drop l.w-index l.words) l.rest ≡ past_words l.words l.fn.bytes) × (length l.rest ≤ length l.fn.bytes)
