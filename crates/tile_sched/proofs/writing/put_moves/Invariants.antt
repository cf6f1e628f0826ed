use Rattle.std.proofs.Common.{◌≡◌, ℕ, List, ◌++◌, drop}
use Rattle.iolb_host.specs.Sink.{AppendsPiece}
use Rattle.tile_sched.specs.Lines.{moves_text}
use Rattle.tile_sched.proofs.writing.put_moves.Given as goal

-- what was written, and the lines that are left
abbrev pub invariant-loop-step : goal.invariant-loop-step
invariant-loop-step g l = (front : List ℕ) × (moves_text l.moves ≡ front ++ moves_text (drop l.step-index l.moves))
    × AppendsPiece (g.O.Sink.written l.fn.out) (g.O.Sink.written l.out) front
    × (g.O.Sink.faults l.out ≡ g.O.Sink.faults l.fn.out) × (g.O.Sink.wants l.out ≡ g.O.Sink.wants l.fn.out)
