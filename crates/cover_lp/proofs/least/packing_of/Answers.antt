use Rattle.std.proofs.Common.{◌≡◌, length, replicate}
use Rattle.std.specs.Prelude.{option_map}
use Rattle.cover_lp.proofs.Pairs.{found-packing}
use Rattle.cover_lp.proofs.least.packing_of.Goals as goal

pub returns : goal.returns
returns c =
    let rooms : c.as_slice.result.now ≡ replicate (length c.args.sets.now) c.args.q = rw c.as_slice.ensures.value c.in_ok-rooms.ensures in
    found-packing c.args.sets.now c.args.d c.args.q c.args.total c.as_slice.result.now (option_map (λ amounts. amounts.items) c.in_ok-found.found) rooms c.in_ok-found.ensures
