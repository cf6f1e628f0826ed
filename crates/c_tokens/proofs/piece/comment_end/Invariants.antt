use Rattle.std.proofs.Common.{◌≡◌, drop}
use Rattle.c_tokens.specs.Pieces.{comment_end}
use Rattle.c_tokens.proofs.piece.comment_end.Given as goal

abbrev pub invariant-loop-i : goal.invariant-loop-i
invariant-loop-i l = comment_end l.i (drop l.i l.bytes) ≡ comment_end 0 l.bytes
