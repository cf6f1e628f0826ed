-- A stream of the system, as a sink.
use Rattle.std.specs.Prelude.{ℕ}
use Rattle.iolb_host.specs.declared.std_sink.StdSink.{StdSink}

-- where the pieces go
abbrev pub stream_of : {W : Type 0} → StdSink W → W
stream_of sink = sink.stream

-- how often a write failed
abbrev pub fault_count : {W : Type 0} → StdSink W → ℕ
fault_count sink = sink.faults
