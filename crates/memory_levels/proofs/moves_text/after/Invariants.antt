-- What is left of the word stands in front of what is left of the line.
use Rattle.std.proofs.Common.{◌≡◌, drop}
use Rattle.memory_levels.specs.MovesText.{behind}
use Rattle.memory_levels.proofs.moves_text.after.Given as goal

abbrev pub invariant-loop-place : goal.invariant-loop-place
invariant-loop-place l = behind (drop l.place l.word) (drop l.place l.line) ≡ behind l.word l.line
