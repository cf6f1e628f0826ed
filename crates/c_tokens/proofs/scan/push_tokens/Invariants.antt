use Rattle.std.proofs.Common.{◌≡◌, ◌+◌, ◌++◌, length}
use Rattle.c_tokens.specs.Tokens.{tokens_in}
use Rattle.c_tokens.proofs.scan.push_tokens.Given as goal

abbrev pub invariant-loop-rest : goal.invariant-loop-rest
invariant-loop-rest l = record {
  ahead : l.place + length l.rest ≡ l.fn.start + length l.fn.bytes;
  same : l.tokens.items ++ tokens_in l.region 0 l.place l.rest ≡ l.initial.tokens.items ++ tokens_in l.region 0 l.fn.start l.fn.bytes;
}

abbrev pub decreases-loop-rest : goal.decreases-loop-rest
decreases-loop-rest l = length l.rest
