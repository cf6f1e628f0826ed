use Rattle.std.proofs.Common.{◌≡◌, drop}
use Rattle.c_tokens.specs.Pieces.{is_among}
use Rattle.c_tokens.proofs.piece.is_among.Given as goal

abbrev pub invariant-loop-c : goal.invariant-loop-c
invariant-loop-c l = is_among (drop l.c-index l.set) l.b ≡ is_among l.set l.b
