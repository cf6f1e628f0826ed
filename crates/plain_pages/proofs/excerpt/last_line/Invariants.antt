use Rattle.std.proofs.Common.{◌≡◌, ℕ, ◌<◌, ◌≤◌, length, get_or}
use Rattle.plain_pages.proofs.excerpt.last_line.Given as goal

-- no newline stands from the start on
abbrev pub invariant-loop-start : goal.invariant-loop-start
invariant-loop-start l = (l.start ≤ length l.text) × ((k : ℕ) → l.start ≤ k → k < length l.text → get_or l.text k 0 ≡ 10 → ⊥)

abbrev pub decreases-loop-start : goal.decreases-loop-start
decreases-loop-start l = l.start
