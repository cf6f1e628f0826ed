use Rattle.std.proofs.Common.{◌++◌, ◌∷◌, []}
use Rattle.base_laws.proofs.Lists.{All-push}
use Rattle.int_sets.specs.Halves.{IsHalf}
use Rattle.int_sets.proofs.Held.{Holds-append, row-held}
use Rattle.int_sets.proofs.half.push_row.Goals as goal

pub returns : goal.returns
returns c =
    let before = c.args.halves.now.items in
    let once = c.one_row.result in
    let twice = c.one_row-2.result in
    rw (c.in_ok-push-2.ensures.items, c.in_ok-push.ensures.items)
    (record {
      halves = All-push (IsHalf c.args.system.now.rows) (before ++ once ∷ []) twice (All-push (IsHalf c.args.system.now.rows) before once c.requires.halves c.one_row.ensures.half) c.one_row-2.ensures.half;
      kept = λ weights held. Holds-append (before ++ once ∷ []) (twice ∷ []) weights (Holds-append before (once ∷ []) weights held);
      row = row-held before c.args.number once twice c.one_row.ensures.weights c.one_row-2.ensures.weights;
    })
