use Rattle.std.proofs.Common.{ℕ, List}
use Rattle.json_values.specs.View.{json_data}
use Rattle.json_parts.proofs.Read.{more-read}
use Rattle.json_parts.proofs.members.Tuple2Members.read.Goals as goal

pub returns : goal.returns
returns g c =
    let first = c.in_ok-first.ensures in
    let rest = c.in_ok-rest.ensures in (
      (first.0, rest.0),
      more-read g.R.Members.COUNT c.args.names.now _ g.S.Part.shape.reads (λ (names : List (List ℕ)). (g.R.Members.fields names).reads (json_data c.args.value.now)) (json_data c.args.value.now) first.0 rest.0
          c.requires.names first.1 rest.1,
      (first.2, rest.2),
    )
