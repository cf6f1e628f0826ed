use Rattle.std.proofs.Common.{◌≡◌, ◌≤◌, ◌<◌, ◌+◌, ℕ, length, get_or, max, arith, ap, ◌∙◌, subst}
use Rattle.std.proofs.lemmas.List.{length-map, length_push}
use Rattle.poly_tree.specs.Expansion.{Expansion, weight, nodes, IsSum, zero_expansion}
use Rattle.poly_tree.specs.Tree.{expansion, expansions}
use Rattle.poly_tree.proofs.Sums.{pair-fewer, pair-light, sum-joined, sums-push}
use Rattle.poly_tree.proofs.sum.+sum_beside.Goals as goal

pub sum_beside-requires : goal.sum_beside-requires
sum_beside-requires t c =
    let a = expansion c.args.a.now in
    let b = expansion c.args.b.now in
    let v = c.in-Some.var in
    let xs = expansions c.parts_in-first.result.now in
    let ys = expansions c.parts_in-second.result.now in
    let k = c.loop-power.power in
    let high = c.in-Some.ensures in
    let fewer = pair-fewer v a b xs ys k c.parts_in-first.ensures c.parts_in-second.ensures high in
    let light = pair-light v a b xs ys k c.parts_in-first.ensures c.parts_in-second.ensures in
    let x = c.part_or-x.ensures in
    let y = c.part_or-y.ensures in
    let d : nodes (expansion c.part_or-x.result.now) + nodes (expansion c.part_or-y.result.now) < t = omega (arith, ap nodes x, ap nodes y, c.decreases, fewer) in
    (d, (c.requires.zero, omega (arith, ap weight x, ap weight y, light, c.requires.light)))

pub loop-power-preserved : goal.loop-power-preserved
loop-power-preserved t c =
    let xs = expansions c.parts_in-first.result.now in
    let ys = expansions c.parts_in-second.result.now in
    let k = c.loop-power.power in
    let u = c.in_ok-sum_beside.field-0 in
    let s : IsSum (get_or xs k zero_expansion) (get_or ys k zero_expansion) (expansion u)
    = subst (λ (x : Expansion). IsSum x (get_or ys k zero_expansion) (expansion u)) c.part_or-x.ensures
    (subst (λ (y : Expansion). IsSum (expansion c.part_or-x.result.now) y (expansion u)) c.part_or-y.ensures c.in_ok-sum_beside.ensures) in
    rw c.in_ok-push.ensures.items (record {
      count = length_push c.loop-power.parts.items u ∙ ap (λ (n : ℕ). n + 1) c.loop-power.invariant.count;
      sums = sums-push xs ys c.loop-power.parts.items u k c.loop-power.invariant.count c.loop-power.invariant.sums s;
    })

pub returns : goal.returns
returns t c =
    let a = expansion c.args.a.now in
    let b = expansion c.args.b.now in
    let v = c.in-Some.var in
    let xs = expansions c.parts_in-first.result.now in
    let ys = expansions c.parts_in-second.result.now in
    let zs = expansions c.loop-power.parts.items in
    let count : length zs ≡ c.loop-power.power = length-map c.loop-power.parts.items expansion ∙ c.loop-power.invariant.count in
    let first : length xs ≤ length zs = omega (arith, length-map c.parts_in-first.result.now expansion, c.max-count.ensures, c.loop-power-test.false, count) in
    let second : length ys ≤ length zs = omega (arith, length-map c.parts_in-second.result.now expansion, c.max-count.ensures, c.loop-power-test.false, count) in
    let third : length zs ≤ max (length xs) (length ys) = omega (arith, length-map c.parts_in-first.result.now expansion, length-map c.parts_in-second.result.now expansion, c.max-count.ensures, c.loop-power.auto.power-end, count) in
    sum-joined v a b (expansion c.join.result) xs ys zs c.parts_in-first.ensures c.parts_in-second.ensures c.in-Some.ensures first second third
    (λ k p. c.loop-power.invariant.sums k (subst (λ (n : ℕ). k < n) count p)) c.join.ensures
