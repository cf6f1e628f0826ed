use Rattle.std.proofs.Common.{◌≡◌, drop, take}
use Rattle.std.specs.Prelude.{option_map}
use Rattle.command_words.specs.Sizes.{split_word}
use Rattle.command_words.proofs.Splits.{behind}
use Rattle.command_words.proofs.size.equals_at.Given as goal

abbrev pub invariant-loop-place : goal.invariant-loop-place
invariant-loop-place l = split_word l.word ≡ option_map (behind (take l.place l.word)) (split_word (drop l.place l.word))
