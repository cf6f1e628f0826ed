use Rattle.json_parts.specs.Shape.{list_shape}
use Rattle.json_parts.proofs.Back.{all_read}
use Rattle.json_parts.proofs.FieldsBack.{put-back}
use Rattle.json_parts.proofs.puts.PutListValuePuts.write.Goals as goal

pub returns-clause-read : goal.returns-clause-read
returns-clause-read g c =
    let said = g.S.Part.link.all_said c.args.self.now.values.now in
    put-back g.R.Puts.COUNT c.args.names.now (list_shape g.S.Part.shape) g.R.Puts.fields said (g.R.Puts.said c.args.self.now.rest)
    g.met.R.Puts.names_are c.requires.names c.requires.rise (all_read g.S.Part.shape.reads g.S.Part.shape.data_of said c.in_ok-value.ensures.read) c.in_ok-members.ensures.read
