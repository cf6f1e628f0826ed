use Rattle.std.proofs.Common.{◌≡◌, sym, ◌∙◌, ap, subst, to_z, of_z, FitsSigned, ℤ, pos, ◌+ℤ◌, ◌-ℤ◌, ◌≤ℤ◌, ◌∷◌, Bool, true, false, arith, rules}
use mir.Syntax.{w128}
use Rattle.std.proofs.lemmas.Int.{to_z-of_z, fits_signed_from_abs, ints}
use Rattle.iolb_model.specs.Program.{upward, downward}
use Rattle.iolb_model.specs.Execution.{loop_values}
use Rattle.execution_laws.proofs.Ordered.{All-member}
use Rattle.execution_laws.proofs.Ranges.{values-has}
use Rattle.std.specs.List.{AllByRecursion}
use Rattle.affine_form.specs.Form.{IsSmall}
use Rattle.affine_form.specs.Rows.{direction_of}
use Rattle.iolb_model.specs.declared.limits.TheConstants.{VALUE_SIZE}
use Rattle.loop_graph.proofs.LoopValues.{not_past, lowest_first, highest_first}
use Rattle.loop_graph.proofs.values.Values.next.Goals as goal

falls : (lower upper next : ℤ) (down : Bool) → down ≡ true → lower ≤ℤ upper → next ≡ upper -ℤ pos 1
    → loop_values (direction_of down) lower upper ≡ upper ∷ loop_values (direction_of down) lower next
falls lower upper next true e le is = highest_first lower upper le ∙ ap (λ (v : ℤ). upper ∷ loop_values downward lower v) (sym is)
falls lower upper next false e le is = absurd cc

rises : (lower upper next : ℤ) (down : Bool) → down ≡ false → lower ≤ℤ upper → next ≡ lower +ℤ pos 1
    → loop_values (direction_of down) lower upper ≡ lower ∷ loop_values (direction_of down) next upper
rises lower upper next false e le is = lowest_first lower upper le ∙ ap (λ (v : ℤ). lower ∷ loop_values upward v upper) (sym is)
rises lower upper next true e le is = absurd cc

-- a bound of a loop that has a value is small
end-small : (down : Bool) (lower upper v : ℤ) → AllByRecursion (IsSmall VALUE_SIZE) (loop_values (direction_of down) lower upper) → lower ≤ℤ v → v ≤ℤ upper → IsSmall VALUE_SIZE v
end-small down lower upper v small low high = All-member (IsSmall VALUE_SIZE) (loop_values (direction_of down) lower upper) v small (values-has (direction_of down) lower upper v low high)

pub returns-then-self-2 : goal.returns-then-self-2
returns-then-self-2 c =
    let lower : ℤ = c.args.self.now.lower in
    let upper : ℤ = c.args.self.now.upper in
    let down : Bool = c.args.self.now.down in
    let same : to_z w128 (of_z w128 upper) ≡ upper = to_z-of_z w128 upper (search rules) in
    let same-lower : to_z w128 (of_z w128 lower) ≡ lower = to_z-of_z w128 lower (search rules) in
    let le : lower ≤ℤ upper = subst (λ (v : ℤ). lower ≤ℤ v) same (subst (λ (v : ℤ). v ≤ℤ to_z w128 (of_z w128 upper)) same-lower (not_past (to_z w128 (of_z w128 lower)) (to_z w128 (of_z w128 upper)) c.if-self.false)) in
    let small : IsSmall VALUE_SIZE upper = end-small down lower upper upper c.requires.small le (omega (arith, ints)) in
    let fits : FitsSigned w128 (to_z w128 (of_z w128 upper) -ℤ pos 1) = fits_signed_from_abs w128 (to_z w128 (of_z w128 upper) -ℤ pos 1) (omega (arith, ints, small, same)) in
    let next : to_z w128 (of_z w128 (to_z w128 (of_z w128 upper) -ℤ pos 1)) ≡ upper -ℤ pos 1 = to_z-of_z w128 (to_z w128 (of_z w128 upper) -ℤ pos 1) fits ∙ ap (λ (v : ℤ). v -ℤ pos 1) same in
    falls lower upper (to_z w128 (of_z w128 (to_z w128 (of_z w128 upper) -ℤ pos 1))) down c.if-self-2.true le next
    ∙ ap (λ (v : ℤ). v ∷ loop_values (direction_of down) lower (to_z w128 (of_z w128 (to_z w128 (of_z w128 upper) -ℤ pos 1)))) (sym same)

pub returns : goal.returns
returns c =
    let lower : ℤ = c.args.self.now.lower in
    let upper : ℤ = c.args.self.now.upper in
    let down : Bool = c.args.self.now.down in
    let same : to_z w128 (of_z w128 lower) ≡ lower = to_z-of_z w128 lower (search rules) in
    let same-upper : to_z w128 (of_z w128 upper) ≡ upper = to_z-of_z w128 upper (search rules) in
    let le : lower ≤ℤ upper = subst (λ (v : ℤ). lower ≤ℤ v) same-upper (subst (λ (v : ℤ). v ≤ℤ to_z w128 (of_z w128 upper)) same (not_past (to_z w128 (of_z w128 lower)) (to_z w128 (of_z w128 upper)) c.if-self.false)) in
    let small : IsSmall VALUE_SIZE lower = end-small down lower upper lower c.requires.small (omega (arith, ints)) le in
    let fits : FitsSigned w128 (to_z w128 (of_z w128 lower) +ℤ pos 1) = fits_signed_from_abs w128 (to_z w128 (of_z w128 lower) +ℤ pos 1) (omega (arith, ints, small, same)) in
    let next : to_z w128 (of_z w128 (to_z w128 (of_z w128 lower) +ℤ pos 1)) ≡ lower +ℤ pos 1 = to_z-of_z w128 (to_z w128 (of_z w128 lower) +ℤ pos 1) fits ∙ ap (λ (v : ℤ). v +ℤ pos 1) same in
    rises lower upper (to_z w128 (of_z w128 (to_z w128 (of_z w128 lower) +ℤ pos 1))) down c.if-self-2.false le next
    ∙ ap (λ (v : ℤ). v ∷ loop_values (direction_of down) (to_z w128 (of_z w128 (to_z w128 (of_z w128 lower) +ℤ pos 1))) upper) (sym same)
