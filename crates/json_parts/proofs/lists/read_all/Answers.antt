use Rattle.std.proofs.Common.{map}
use Rattle.json_values.specs.View.{json_data}
use Rattle.json_parts.specs.Json.{each}
use Rattle.json_parts.proofs.LoopBy.{goes_on_by, ends_by, is_done_by, are_said}
use Rattle.json_parts.proofs.lists.read_all.Goals as goal

pub returns-in-Err : goal.returns-in-Err
returns-in-Err g c =
    ends_by g.S.Part.link.Is g.S.Part.shape.reads c.args.values.now c.loop-i.i c.loop-i.all.items (each g.S.Part.shape.reads 0 (map json_data c.args.values.now)) c.index-values-i.result c.in-Err.error c.under.result
    c.loop-i-test.true c.index-values-i.is c.in-Err.ensures c.under.ensures c.loop-i.invariant

pub loop-i-preserved : goal.loop-i-preserved
loop-i-preserved g c =
    rw c.in_ok-push-in-Ok.ensures.items
    (goes_on_by g.S.Part.link.Is g.S.Part.shape.reads c.args.values.now c.loop-i.i c.loop-i.all.items (each g.S.Part.shape.reads 0 (map json_data c.args.values.now)) c.index-values-i.result c.in-Ok.found
    c.loop-i-test.true c.index-values-i.is c.in-Ok.ensures c.loop-i.invariant)

pub returns : goal.returns
returns g c =
    let done = is_done_by g.S.Part.link.Is g.S.Part.shape.reads c.args.values.now c.loop-i.i c.loop-i.all.items (each g.S.Part.shape.reads 0 (map json_data c.args.values.now)) c.loop-i-test.false c.loop-i.invariant in
    (done.0, done.1, are_said g.S.Part.link done.0 c.loop-i.all.items done.2)
