use Rattle.std.proofs.Common.{◌∷◌, [], append_assoc, arith, get_or, take, pos}
use Rattle.std.proofs.lemmas.List.{take_more}
use Rattle.affine_c.proofs.forms.push_numbers.Goals as goal

pub loop-number-preserved : goal.loop-number-preserved
loop-number-preserved c =
    let more = take_more c.args.numbers.now c.loop-number.number-index (pos 0) c.loop-number-test.true in
    let assoc = append_assoc c.args.coef.now.items (take c.loop-number.number-index c.args.numbers.now) (get_or c.args.numbers.now c.loop-number.number-index (pos 0) ∷ []) in
    grind (arith, more, assoc, c.in_ok-push.ensures.items, c.from.ensures)
