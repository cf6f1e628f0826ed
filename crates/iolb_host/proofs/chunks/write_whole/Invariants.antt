use Rattle.std.proofs.Common.{◌≡◌, ℕ, List, ◌++◌, length}
use Rattle.std.specs.Io.KnownBytes.{Appends}
use Rattle.iolb_host.proofs.chunks.write_whole.Given as goal

-- the piece is what was written and the rest
abbrev pub invariant-loop-rest : goal.invariant-loop-rest
invariant-loop-rest g l = (front : List ℕ) × (l.fn.piece ≡ front ++ l.rest)
    × Appends (g.W.Write.contents l.fn.stream) (g.W.Write.contents l.stream) front

abbrev pub decreases-loop-rest : goal.decreases-loop-rest
decreases-loop-rest g l = length l.rest
