use Rattle.std.proofs.Common.{ℕ, ◌≤◌, length, sym, ap, subst, ◌∙◌}
use Rattle.std.proofs.lemmas.List.{length-map}
use Rattle.json_parts.specs.Shape.{few_shape}
use Rattle.json_parts.proofs.Back.{few_read}
use Rattle.json_parts.proofs.FieldsBack.{put-back}
use Rattle.json_parts.proofs.puts.PutFewValuePuts.write.Goals as goal

pub returns-clause-read : goal.returns-clause-read
returns-clause-read g c =
    let values = c.args.self.now.values.now in
    let said = g.S.Part.link.all_said values in
    let few = subst (λ (n : ℕ). n ≤ g.row.MOST) (sym (ap length (g.S.Part.link.each_said values) ∙ length-map values g.S.Part.link.said)) c.requires.fit.0.1 in
    put-back g.R.Puts.COUNT c.args.names.now (few_shape g.row.MOST g.S.Part.shape) g.R.Puts.fields said (g.R.Puts.said c.args.self.now.rest)
    g.met.R.Puts.names_are c.requires.names c.requires.rise (few_read g.row.MOST g.S.Part.shape.reads g.S.Part.shape.data_of said few c.in_ok-value.ensures.read) c.in_ok-members.ensures.read
