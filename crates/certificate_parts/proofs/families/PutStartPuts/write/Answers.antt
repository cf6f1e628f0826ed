use Rattle.reuse_paths.specs.Walks.{tree_of_walk}
use Rattle.json_parts.proofs.FieldsBack.{put-back}
use Rattle.certificate_parts.specs.Families.{start_shape}
use Rattle.certificate_parts.proofs.families.PutStartPuts.write.Goals as goal

pub returns-clause-read : goal.returns-clause-read
returns-clause-read g c =
    put-back g.R.Puts.COUNT c.args.names.now start_shape g.R.Puts.fields (c.args.self.now.label.now, tree_of_walk c.args.self.now.tree.now) (g.R.Puts.said c.args.self.now.rest)
    g.met.R.Puts.names_are c.requires.names c.requires.rise c.in_ok-value.ensures.read c.in_ok-members.ensures.read
