-- A line that is shorter than the word doesn't begin with it.
use Rattle.std.proofs.Common.{sym}
use Rattle.memory_levels.proofs.Reading.{behind-short}
use Rattle.memory_levels.proofs.moves_text.after.Goals as goal

pub returns-then-line-word : goal.returns-then-line-word
returns-then-line-word c = sym (behind-short c.args.word.now c.args.line.now c.if-line-word.true)
