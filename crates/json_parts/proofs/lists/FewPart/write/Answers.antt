use Rattle.std.proofs.Common.{ℕ, List, ◌≤◌, length, sym, ap, subst, ◌∙◌}
use Rattle.std.proofs.lemmas.List.{length-map}
use Rattle.json_parts.proofs.Back.{few_read}
use Rattle.json_parts.proofs.lists.FewPart.write.Goals as goal

pub returns-clause-read : goal.returns-clause-read
returns-clause-read g c =
    let few : length c.args.part.now.items ≤ g.row.MOST = c.requires.1 in
    rw (← c.as_slice.ensures.value)
    (few_read g.row.MOST g.S.Part.shape.reads g.S.Part.shape.data_of (g.S.Part.link.all_said c.as_slice.result.now)
    (subst (λ (n : ℕ). n ≤ g.row.MOST) (sym (ap length (g.S.Part.link.each_said c.as_slice.result.now) ∙ length-map c.as_slice.result.now g.S.Part.link.said)) (subst (λ (l : List g.row.S-Value.Denot). length l ≤ g.row.MOST) (sym c.as_slice.ensures.value) few)) c.in_ok-value.ensures.read)
