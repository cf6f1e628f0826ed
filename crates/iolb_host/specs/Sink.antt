-- What a write does to the bytes that a sink tells, and to its count of faults.
use Rattle.std.specs.Prelude.{◌≡◌, ℕ, List, take, Option, Result, Ok, Err}
use Rattle.std.specs.Io.KnownBytes.{append_known}
use Rattle.iolb_host.specs.declared.sink.SinkFault.{SinkFault}
use Rattle.iolb_host.specs.declared.sink.SinkFault.TheVariants.{Failed, Memory}
use Rattle.iolb_host.specs.Count.{next_count}

-- The bytes are as before, with a piece behind them. Whether they are told stays.
abbrev pub AppendsPiece : Option (List ℕ) → Option (List ℕ) → List ℕ → Type 0
AppendsPiece old new piece = new ≡ append_known old piece

-- the bytes are as before, with the first bytes of a piece behind them: none, some or all
abbrev pub AppendsPart : Option (List ℕ) → Option (List ℕ) → List ℕ → Type 0
AppendsPart old new piece = (count : ℕ) × AppendsPiece old new (take count piece)

-- The count of faults after a write with this outcome: one more where the write failed, and else as before. Want of memory
-- is no fault of the sink.
abbrev pub after_write : {T : Type 0} → ℕ → Result T SinkFault → ℕ
after_write count (Ok _) = count
after_write count (Err Failed) = next_count count
after_write count (Err Memory) = count

-- The count of answers that memory was wanted, after a write with this outcome: one more where this is the answer, and else
-- as before.
abbrev pub after_want : {T : Type 0} → ℕ → Result T SinkFault → ℕ
after_want count (Ok _) = count
after_want count (Err Failed) = count
after_want count (Err Memory) = next_count count
