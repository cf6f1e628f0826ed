use Rattle.std.proofs.Common.{◌++◌, arith, length-append}
use Rattle.iolb_host.proofs.Moved.{consumes_more}
use Rattle.iolb_host.proofs.chunks.read_whole.Goals as goal

-- what was read before and what the last read took
pub returns-in_err-read_chunk-clause-stops : goal.returns-in_err-read_chunk-clause-stops
returns-in_err-read_chunk-clause-stops g c =
    let before = c.loop-bytes.bytes.items in
    let last = c.read_chunk.ensures.stops.0 in (
      before ++ last,
      omega (arith, length-append before last, c.read_chunk.ensures.stops.1),
      consumes_more _ _ _ _ _ c.loop-bytes.invariant.1 c.read_chunk.ensures.stops.2,
    )
