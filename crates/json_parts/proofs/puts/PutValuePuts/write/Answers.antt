use Rattle.json_parts.proofs.FieldsBack.{put-back}
use Rattle.json_parts.proofs.puts.PutValuePuts.write.Goals as goal

pub returns-clause-read : goal.returns-clause-read
returns-clause-read g c =
    put-back g.R.Puts.COUNT c.args.names.now g.S.Part.shape g.R.Puts.fields (g.S.Part.link.said c.args.self.now.value.now) (g.R.Puts.said c.args.self.now.rest)
    g.met.R.Puts.names_are c.requires.names c.requires.rise c.in_ok-value.ensures.read c.in_ok-members.ensures.read
