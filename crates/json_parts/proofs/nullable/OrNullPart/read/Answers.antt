use Rattle.std.proofs.Common.{Some}
use Rattle.json_values.specs.View.{json_data}
use Rattle.json_parts.proofs.LoopBy.{is_said}
use Rattle.json_parts.proofs.Read.{some-read}
use Rattle.json_parts.proofs.nullable.OrNullPart.read.Goals as goal

pub returns : goal.returns
returns g c =
    let one = c.in_ok-one.ensures in
    (Some one.0, some-read g.S.Part.shape.reads (json_data c.args.value.now) one.0 c.if-is_null.ensures one.1, is_said g.S.Part.link one.0 c.in_ok-one.one one.2)
