use Rattle.json_values.specs.View.{json_data}
use Rattle.json_parts.proofs.Loop.{goes_on, ends, is_done}
use Rattle.tile_sched.specs.Reading.{reads_key, reads_keys}
use Rattle.tile_sched.proofs.reading.keys.Goals as goal

pub returns-in-Err : goal.returns-in-Err
returns-in-Err c =
    ends (reads_key c.args.variables) c.loop-i.keys.items c.in_ok-values.values.now c.loop-i.i c.loop-i.i c.index-values-i.result c.in-Err.error c.under.result (reads_keys c.args.count c.args.variables (json_data c.args.value.now))
    c.loop-i-test.true c.index-values-i.is c.in-Err.ensures c.under.ensures c.loop-i.invariant

pub loop-i-preserved : goal.loop-i-preserved
loop-i-preserved c =
    rw c.in_ok-push-in-Ok.ensures.items (goes_on (reads_key c.args.variables) c.loop-i.keys.items c.in_ok-values.values.now c.loop-i.i c.loop-i.i c.index-values-i.result c.in-Ok.found (reads_keys c.args.count c.args.variables (json_data c.args.value.now))
    c.loop-i-test.true c.index-values-i.is c.in-Ok.ensures c.loop-i.invariant)

pub returns : goal.returns
returns c =
    is_done (reads_key c.args.variables) c.loop-i.keys.items c.in_ok-values.values.now c.loop-i.i c.loop-i.i (reads_keys c.args.count c.args.variables (json_data c.args.value.now)) c.loop-i-test.false c.loop-i.invariant
