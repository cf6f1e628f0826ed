use Rattle.std.proofs.Common.{◌++◌, take}
use Rattle.iolb_host.proofs.Moved.{appends_more, appends_part, keeps_part, splits_further}
use Rattle.iolb_host.proofs.chunks.write_whole.Goals as goal

pub loop-rest-preserved : goal.loop-rest-preserved
loop-rest-preserved g c = (
  c.loop-rest.invariant.0 ++ take c.in-Ok.count c.loop-rest.rest.now,
  splits_further _ _ _ c.in-Ok.count c.loop-rest.invariant.1,
  appends_more _ _ _ _ _ c.loop-rest.invariant.2 c.in-Ok.ensures.bytes,
)

pub returns-in-Ok-eq0-clause-failed : goal.returns-in-Ok-eq0-clause-failed
returns-in-Ok-eq0-clause-failed g c =
    appends_part _ _ _ _ _ c.loop-rest.rest.now c.in-Ok-eq0.field-0 c.loop-rest.invariant.1
    c.loop-rest.invariant.2 c.in-Ok-eq0.ensures.bytes

pub returns-in-Err-clause-failed : goal.returns-in-Err-clause-failed
returns-in-Err-clause-failed g c =
    keeps_part _ _ _ _ _ c.loop-rest.rest.now c.loop-rest.invariant.1 c.loop-rest.invariant.2 c.in-Err.ensures.bytes
