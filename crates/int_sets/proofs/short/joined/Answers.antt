use Rattle.std.proofs.Common.{◌≡◌, ◌≤◌, ◌-◌, ℕ, ◌-ℤ◌, rules, arith, ◌∙◌, ap, subst, FitsSigned, get_or, true}
use mir.Syntax.{w128}
use lib.Signed.{lt_z}
use Rattle.std.specs.Prelude.{Option, IfNone}
use Rattle.std.proofs.lemmas.Int.{to_z-of_z}
use Rattle.std.proofs.lemmas.List.{get_or_read}
use Rattle.base_laws.proofs.Lists.{All-at}
use Rattle.affine_form.specs.Multipliers.{FarkasMultipliers}
use Rattle.int_sets.specs.Halves.{Joins, IsHalf, NeverJoins}
use Rattle.int_sets.specs.Chains.{chain_of, half_at, link_at}
use Rattle.int_sets.proofs.Walk.{walk-start, walk-stop, walk-on, walk-end}
use Rattle.int_sets.proofs.short.joined.Goals as goal

pub loop-number-init : goal.loop-number-init
loop-number-init c =
    let fits : FitsSigned w128 c.args.first.now.value = search rules in
    let fits_wanted : FitsSigned w128 c.less-wanted.result = search rules in
    let wanted : c.less-wanted.result ≡ c.args.value -ℤ c.args.first.now.value = simp (to_z-of_z w128 c.args.value c.ranges.value, to_z-of_z w128 c.args.first.now.value fits) at c.less-wanted.ensures in
    let number : c.index-number.result.now ≡ get_or c.args.chains.now.starts.items c.chain_of.result 0 =
    get_or_read c.args.chains.now.starts.items c.chain_of.result c.index-number.result.now (omega (arith, c.chain_of.ensures.below, c.requires.chains.chains)) c.index-number.ensures 0 in
    record {
      within = omega (arith, number, c.requires.chains.within c.chain_of.result);
      left = walk-start c.args.system.now c.args.goal.now c.args.first.now c.args.halves.now c.args.chains.now.starts.items c.args.chains.now.links.items c.args.value c.less-wanted.result c.index-number.result.now
          c.requires.chains c.requires.halves c.requires.first c.requires.value wanted
          (number ∙ ap (λ (n : ℕ). get_or c.args.chains.now.starts.items n 0) (c.chain_of.ensures.is ∙ ap chain_of (to_z-of_z w128 c.less-wanted.result fits_wanted)));
    }

pub returns-then-link-limit-clause-none : goal.returns-then-link-limit-clause-none
returns-then-link-limit-clause-none c = λ k below rest joins.
    let fits : FitsSigned w128 c.args.first.now.constant = search rules in
    let fits_goal : FitsSigned w128 c.constant.result = search rules in
    let fits_limit : FitsSigned w128 c.less-limit.result = search rules in
    let fits_least : FitsSigned w128 c.index-link.result.now.least = search rules in
    let limit : c.less-limit.result ≡ c.constant.result -ℤ c.args.first.now.constant = simp (to_z-of_z w128 c.constant.result fits_goal, to_z-of_z w128 c.args.first.now.constant fits) at c.less-limit.ensures in
    let above : lt_z c.less-limit.result c.index-link.result.now.least ≡ true = simp (to_z-of_z w128 c.less-limit.result fits_limit, to_z-of_z w128 c.index-link.result.now.least fits_least) at c.if-link-limit.true in
    walk-stop c.args.system.now c.args.goal.now c.args.first.now c.args.halves.now c.args.chains.now.links.items c.less-limit.result c.constant.result c.loop-number.number c.index-link.result.now
    c.requires.halves c.requires.first limit c.constant.ensures.constant
    (get_or_read c.args.chains.now.links.items (c.loop-number.number - 1) c.index-link.result.now (omega (arith, c.loop-number-test.true, c.loop-number.invariant.within, c.requires.chains.one_each)) c.index-link.ensures _)
    above k below rest joins (c.loop-number.invariant.left k below rest joins)

pub tried-requires-clause-second : goal.tried-requires-clause-second
tried-requires-clause-second c =
    All-at (IsHalf c.args.system.now.rows) c.args.halves.now (c.loop-number.number - 1) _ c.requires.halves (omega (arith, c.loop-number-test.true, c.loop-number.invariant.within))

pub loop-number-smaller : goal.loop-number-smaller
loop-number-smaller c =
    let link : c.index-link.result.now ≡ link_at c.args.chains.now.links.items (c.loop-number.number - 1) =
    get_or_read c.args.chains.now.links.items (c.loop-number.number - 1) c.index-link.result.now (omega (arith, c.loop-number-test.true, c.loop-number.invariant.within, c.requires.chains.one_each)) c.index-link.ensures _ in
    let falls : (link_at c.args.chains.now.links.items (c.loop-number.number - 1)).next ≤ c.loop-number.number - 1 =
    c.requires.chains.falls (c.loop-number.number - 1) (omega (arith, c.loop-number-test.true, c.loop-number.invariant.within)) in
    let less : c.index-link.result.now.next ≤ c.loop-number.number - 1 = rw link falls in
    omega (arith, less, c.loop-number-test.true)

pub loop-number-preserved : goal.loop-number-preserved
loop-number-preserved c =
    let link : c.index-link.result.now ≡ link_at c.args.chains.now.links.items (c.loop-number.number - 1) =
    get_or_read c.args.chains.now.links.items (c.loop-number.number - 1) c.index-link.result.now (omega (arith, c.loop-number-test.true, c.loop-number.invariant.within, c.requires.chains.one_each)) c.index-link.ensures _ in
    let falls : (link_at c.args.chains.now.links.items (c.loop-number.number - 1)).next ≤ c.loop-number.number - 1 =
    c.requires.chains.falls (c.loop-number.number - 1) (omega (arith, c.loop-number-test.true, c.loop-number.invariant.within)) in
    let less : c.index-link.result.now.next ≤ c.loop-number.number - 1 = rw link falls in
    let never : NeverJoins c.args.system.now c.args.goal.now c.args.first.now (half_at c.args.halves.now (c.loop-number.number - 1)) =
    subst (λ (found : Option FarkasMultipliers). IfNone found (NeverJoins c.args.system.now c.args.goal.now c.args.first.now (half_at c.args.halves.now (c.loop-number.number - 1)))) c.in_default.is c.in_ok-shown.ensures.none in
    record {
      within = omega (arith, less, c.loop-number.invariant.within);
      left = λ k below rest joins. walk-on c.args.chains.now.links.items (half_at c.args.halves.now k).constant c.loop-number.number k c.index-link.result.now link
          (λ same. never rest (subst (λ (n : ℕ). Joins c.args.system.now c.args.goal.now c.args.first.now (half_at c.args.halves.now n) rest) same joins))
          (c.loop-number.invariant.left k below rest joins);
    }

pub returns-clause-none : goal.returns-clause-none
returns-clause-none c = λ k below rest joins.
    walk-end c.args.chains.now.links.items (half_at c.args.halves.now k).constant c.loop-number.number k c.loop-number-test.false (c.loop-number.invariant.left k below rest joins)
