use Rattle.std.proofs.Common.{◌≡◌, sym, ◌∙◌, ap, subst, ◌≤◌, List, [], length, pos, negsuc, lit<, arith}
use Rattle.std.specs.List.{AllByRecursion}
use Rattle.std.proofs.Math.IntN.{ℤ}
use Rattle.iolb_model.specs.Form.{AffineForm}
use Rattle.affine_form.specs.Form.{variables, IsSmall, IsSmallForm}
use Rattle.affine_form.specs.Rows.{difference}
use Rattle.iolb_model.specs.declared.limits.TheConstants.{COEFFICIENT_SIZE, PUT_SIZE}
use Rattle.dep_quast.proofs.open_leaves.opposite.Goals as goal

-- the form of no variables and the constant 0
abbrev zero_form : AffineForm
zero_form = record { coefficients = []; constant = pos 0 }

pub new-zero-requires-clause-few : goal.new-zero-requires-clause-few
new-zero-requires-clause-few c = omega (arith, ap (λ (xs : List ℤ). length xs) c.new.ensures.items)

pub new-zero-requires-clause-small : goal.new-zero-requires-clause-small
new-zero-requires-clause-small c = subst (AllByRecursion (IsSmall COEFFICIENT_SIZE)) (sym c.new.ensures.items) tt

zero_is : (form : AffineForm) (coefs : List ℤ) → coefs ≡ [] → form ≡ record { coefficients = coefs; constant = pos 0 } → form ≡ zero_form
zero_is form coefs none is = is ∙ ap (λ (xs : List ℤ). record { coefficients = xs; constant = pos 0 }) none

pub difference-requires-clause-left_in : goal.difference-requires-clause-left_in
difference-requires-clause-left_in c = subst (λ (form : AffineForm). variables form ≤ c.args.vars) (sym (zero_is c.new-zero.result c.new.result.items c.new.ensures.items c.new-zero.ensures)) (omega arith)

pub difference-requires-clause-small_left : goal.difference-requires-clause-small_left
difference-requires-clause-small_left c = subst (IsSmallForm PUT_SIZE) (sym (zero_is c.new-zero.result c.new.result.items c.new.ensures.items c.new-zero.ensures)) (tt, lit< tt)

pub returns : goal.returns
returns c = c.in_ok-difference.ensures ∙ ap (λ (form : AffineForm). difference c.args.vars form c.args.form.now (negsuc 0)) (zero_is c.new-zero.result c.new.result.items c.new.ensures.items c.new-zero.ensures)
