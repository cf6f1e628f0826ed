use Rattle.std.proofs.Common.{◌≡◌, ◌-◌, ◌≤◌, ◌++◌, length}
use Rattle.c_tokens.specs.Lines.{lines_from}
use Rattle.c_tokens.specs.Text.{head_tokens}
use Rattle.c_tokens.proofs.directives.push_directives.Given as goal

abbrev pub invariant-loop-line : goal.invariant-loop-line
invariant-loop-line l = record {
  within : l.start ≤ length l.bytes;
  same : l.tokens.items ++ head_tokens (lines_from l.bytes l.start) ≡ l.initial.tokens.items ++ head_tokens (lines_from l.bytes 0);
}

abbrev pub decreases-loop-line : goal.decreases-loop-line
decreases-loop-line l = length l.bytes - l.start
