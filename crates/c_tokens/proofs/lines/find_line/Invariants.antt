use Rattle.std.proofs.Common.{◌≡◌, ◌-◌, ◌≤◌, length}
use Rattle.std.specs.Prelude.{find}
use Rattle.c_tokens.specs.Lines.{Line, lines_from}
use Rattle.c_tokens.specs.Words.{reads_as}
use Rattle.c_tokens.proofs.lines.find_line.Given as goal

abbrev pub invariant-loop-from : goal.invariant-loop-from
invariant-loop-from l = record {
  behind : l.from ≤ l.start;
  within : l.start ≤ length l.bytes;
  same : find (λ (line : Line). reads_as l.words line.bytes) (lines_from l.bytes l.start) ≡ find (λ (line : Line). reads_as l.words line.bytes) (lines_from l.bytes l.from);
}

abbrev pub decreases-loop-from : goal.decreases-loop-from
decreases-loop-from l = length l.bytes - l.start
