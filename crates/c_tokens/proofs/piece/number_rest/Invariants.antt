use Rattle.std.proofs.Common.{◌≡◌, ◌+◌, drop}
use Rattle.c_tokens.specs.Pieces.{number_rest}
use Rattle.c_tokens.proofs.piece.number_rest.Given as goal

abbrev pub invariant-loop-i : goal.invariant-loop-i
invariant-loop-i l = l.i + number_rest l.last (drop l.i l.bytes) ≡ number_rest l.before l.bytes
