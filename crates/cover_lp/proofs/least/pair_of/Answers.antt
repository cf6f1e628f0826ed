use Rattle.std.proofs.Common.{refl, sym, ◌∙◌}
use Rattle.cover_lp.specs.Search.{IsCoverOf, IsPackingOf}
use Rattle.cover_lp.proofs.Search.{found-none, found-some}
use Rattle.cover_lp.proofs.Pairs.{pair-of}
use Rattle.cover_lp.proofs.least.pair_of.Goals as goal

pub returns-in_default-clause-none : goal.returns-in_default-clause-none
returns-in_default-clause-none c =
    let none = found-none (IsCoverOf c.args.sets.now c.args.d c.args.q c.args.total) c.in_ok-weights.field-0 c.in_default.is c.in_ok-weights.ensures in
    λ weights packing adds is_pair. none weights (record { cover = is_pair.cover; adds_up = adds })

pub returns-in_default-2-clause-none : goal.returns-in_default-2-clause-none
returns-in_default-2-clause-none c =
    let none = found-none (IsPackingOf c.args.sets.now c.args.d c.args.q c.args.total) c.in_ok-packing.field-0 c.in_default-2.is c.in_ok-packing.ensures in
    λ weights packing adds is_pair. none packing (record { packs = is_pair.packs; adds_up = sym is_pair.equal ∙ adds })

pub returns-clause-some : goal.returns-clause-some
returns-clause-some c =
    let cover = found-some (IsCoverOf c.args.sets.now c.args.d c.args.q c.args.total) c.in_ok-weights.field-0 c.in-Some.weights c.in-Some.is c.in_ok-weights.ensures in
    let packs = found-some (IsPackingOf c.args.sets.now c.args.d c.args.q c.args.total) c.in_ok-packing.field-0 c.in-Some-2.packing c.in-Some-2.is c.in_ok-packing.ensures in
    (refl, pair-of c.args.sets.now c.args.d c.args.q c.args.total c.in-Some.weights.items c.in-Some-2.packing.items cover packs, cover.adds_up)
