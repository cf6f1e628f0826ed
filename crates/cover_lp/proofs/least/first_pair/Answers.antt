use Rattle.std.proofs.Common.{refl, arith}
use Rattle.cover_lp.specs.Search.{IsCoverOf, IsPackingOf}
use Rattle.cover_lp.proofs.Search.{found-none, found-some}
use Rattle.cover_lp.proofs.Pairs.{no-lesser, no-pair, pair-of}
use Rattle.cover_lp.proofs.least.first_pair.Goals as goal

pub loop-total-preserved : goal.loop-total-preserved
loop-total-preserved c = no-lesser c.args.sets.now c.args.d c.args.q c.loop-total.total c.loop-total.invariant
    (found-none (IsCoverOf c.args.sets.now c.args.d c.args.q c.loop-total.total) c.in_ok-weights.field-0 c.in_default.is c.in_ok-weights.ensures)

pub returns-in_default-2-clause-none : goal.returns-in_default-2-clause-none
returns-in_default-2-clause-none c =
    let cover = found-some (IsCoverOf c.args.sets.now c.args.d c.args.q c.loop-total.total) c.in_ok-weights.field-0 c.in-Some.weights c.in-Some.is c.in_ok-weights.ensures in
    let none = found-none (IsPackingOf c.args.sets.now c.args.d c.args.q c.loop-total.total) c.in_ok-packing.field-0 c.in_default-2.is c.in_ok-packing.ensures in
    λ weights packing small is_pair. no-pair c.args.sets.now c.args.d c.args.q c.loop-total.total c.in-Some.weights.items c.requires cover c.loop-total.invariant none weights packing is_pair

pub returns-in-loop-total-clause-some : goal.returns-in-loop-total-clause-some
returns-in-loop-total-clause-some c =
    let cover = found-some (IsCoverOf c.args.sets.now c.args.d c.args.q c.loop-total.total) c.in_ok-weights.field-0 c.in-Some.weights c.in-Some.is c.in_ok-weights.ensures in
    let packs = found-some (IsPackingOf c.args.sets.now c.args.d c.args.q c.loop-total.total) c.in_ok-packing.field-0 c.in-Some-2.packing c.in-Some-2.is c.in_ok-packing.ensures in
    (refl, pair-of c.args.sets.now c.args.d c.args.q c.loop-total.total c.in-Some.weights.items c.in-Some-2.packing.items cover packs, omega (arith, cover.adds_up, c.loop-total-test.true))
