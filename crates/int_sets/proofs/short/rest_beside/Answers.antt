use Rattle.std.proofs.Common.{◌≡◌, ◌<◌, ℕ, ℤ, pos, ◌+ℤ◌, ◌-ℤ◌, rules, arith, ◌∙◌, ap, FitsSigned, of_z}
use Rattle.std.specs.Prelude.{Option, Some, None, IfSome, IfNone}
use mir.Syntax.{w128}
use Rattle.std.proofs.lemmas.Int.{ints, to_z-of_z}
use Rattle.iolb_model.specs.declared.limits.TheConstants.{MULTIPLIER_SIZE}
use Rattle.int_sets.proofs.Joined.{joins-value, joins-constant, left_over, left_above}
use Rattle.int_sets.proofs.short.rest_beside.Goals as goal

pub returns-then-less-second-clause-none : goal.returns-then-less-second-clause-none
returns-then-less-second-clause-none c = λ rest joins.
    let fits : FitsSigned w128 c.args.first.now.value = search rules in
    let is : c.less.result ≡ c.args.value -ℤ c.args.first.now.value = simp (to_z-of_z w128 c.args.value c.ranges.value, to_z-of_z w128 c.args.first.now.value fits) at c.less.ensures in
    c.if-less-second.true (ap (of_z w128) (left_over c.args.value c.args.first.now.value c.args.second.now.value c.less.result is
    (c.requires.value ∙ joins-value c.args.system.now c.args.goal.now c.args.first.now c.args.second.now rest c.requires.first c.requires.second joins)))

-- a number above what is left is so above the sum
above_both : (found : Option ℕ) (v a b d : ℤ) → d ≡ v -ℤ a → IfSome found (λ rest. (rest < MULTIPLIER_SIZE) × (d ≡ b +ℤ pos rest))
    → IfSome found (λ rest. (rest < MULTIPLIER_SIZE) × (v ≡ (a +ℤ b) +ℤ pos rest))
above_both None v a b d is h = h
above_both (Some rest) v a b d is h = (let left : d ≡ b +ℤ pos rest = h.1 in (h.0, omega (arith, ints)))

none_too : {A B : Type 0} (found : Option ℕ) → (A → B) → IfNone found A → IfNone found B
none_too None f h = f h
none_too (Some rest) f h = h

-- what the first half leaves of the goal's constant
left_is : (c : goal.After-rest_of) → c.less-2.result ≡ c.args.goal.now.constant -ℤ c.args.first.now.constant
left_is c =
    let fits : FitsSigned w128 c.args.first.now.constant = search rules in
    let fits_goal : FitsSigned w128 c.constant.result = search rules in
    simp (to_z-of_z w128 c.constant.result fits_goal, to_z-of_z w128 c.args.first.now.constant fits) at c.less-2.ensures ∙ ap (λ (z : ℤ). z -ℤ c.args.first.now.constant) c.constant.ensures.constant

pub returns-clause-some : goal.returns-clause-some
returns-clause-some c =
    let fits_second : FitsSigned w128 c.args.second.now.constant = search rules in
    let fits_less : FitsSigned w128 c.less-2.result = search rules in
    above_both c.rest_of.result c.args.goal.now.constant c.args.first.now.constant c.args.second.now.constant c.less-2.result (left_is c)
    (simp (to_z-of_z w128 c.less-2.result fits_less, to_z-of_z w128 c.args.second.now.constant fits_second) at c.rest_of.ensures.some)

pub returns-clause-none : goal.returns-clause-none
returns-clause-none c =
    let fits_second : FitsSigned w128 c.args.second.now.constant = search rules in
    let fits_less : FitsSigned w128 c.less-2.result = search rules in
    none_too c.rest_of.result
    (λ none rest joins. none rest joins.small (left_above c.args.goal.now.constant c.args.first.now.constant c.args.second.now.constant c.less-2.result (pos rest) (left_is c)
    (joins-constant c.args.system.now c.args.goal.now c.args.first.now c.args.second.now rest c.requires.first c.requires.second joins)))
    (simp (to_z-of_z w128 c.less-2.result fits_less, to_z-of_z w128 c.args.second.now.constant fits_second) at c.rest_of.ensures.none)
