-- Sinks in memory.
use Rattle.std.specs.Prelude.{ℕ, List, ◌++◌, Result, Ok, Err}
use Rattle.iolb_host.specs.declared.sink.SinkFault.{SinkFault}
use Rattle.iolb_host.specs.declared.sink.SinkFault.TheVariants.{Failed, Memory}
use Rattle.iolb_host.specs.Count.{next_count}

-- A sink of which some writes fail: what was written, the numbers of the writes that fail, how many writes there were, how
-- many of them failed, and for how many memory was wanted.
pub record FailingSink : Type 0 where
  pub written : List ℕ
  pub failing : List ℕ
  pub calls : ℕ
  pub faults : ℕ
  pub wants : ℕ

-- A sink of which every write succeeds: what was written, and for how many writes memory was wanted.
pub record SureBytes : Type 0 where
  pub written : List ℕ
  pub wants : ℕ

-- The sink after a write of a piece with this outcome: the write is counted, and so is that it failed, or that memory was wanted. The piece stands behind
-- what was written before, if the outcome is Ok, and nothing of it does otherwise.
abbrev pub after_put : {T : Type 0} → FailingSink → List ℕ → Result T SinkFault → FailingSink
after_put sink piece (Ok _) = record sink { written = sink.written ++ piece; calls = next_count sink.calls }
after_put sink piece (Err Failed) = record sink { calls = next_count sink.calls; faults = next_count sink.faults }
after_put sink piece (Err Memory) = record sink { calls = next_count sink.calls; wants = next_count sink.wants }
