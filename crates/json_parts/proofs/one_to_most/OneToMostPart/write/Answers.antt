use Rattle.std.proofs.Common.{ap, ◌∙◌, length, arith}
use Rattle.std.proofs.lemmas.List.{length-map}
use Rattle.json_parts.proofs.Back.{one_to_most_read}
use Rattle.json_parts.proofs.one_to_most.OneToMostPart.write.Goals as goal

pub returns-clause-read : goal.returns-clause-read
returns-clause-read g c =
    let link = g.S.Part.link in
    let many = ap length (link.each_said c.args.part.now.items) ∙ length-map c.args.part.now.items link.said in
    one_to_most_read g.row.MOST g.S.Part.shape (link.all_said c.args.part.now.items) (omega (arith, many, c.requires.few)) (λ none. omega (arith, none, many, c.requires.some))
    (rw (← c.as_slice.ensures.value) c.in_ok-value.ensures.read)
