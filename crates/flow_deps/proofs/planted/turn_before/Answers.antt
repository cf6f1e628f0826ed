use Rattle.std.proofs.Common.{◌≡◌, ◌∙◌, ap, sym, subst, ℕ, ◌+◌, List, [], length}
use Rattle.std.proofs.Math.IntN.{ℤ, pos, negsuc}
use Rattle.iolb_model.specs.Form.{AffineForm}
use Rattle.iolb_model.specs.Program.{upward, downward}
use Rattle.iolb_model.specs.declared.limits.TheConstants.{PUT_SIZE}
use Rattle.affine_form.specs.Form.{IsSmallForm}
use Rattle.affine_form.specs.Rows.{IsSmallOver, variable, difference}
use Rattle.affine_form.proofs.RowLemmas.{small-wider}
use Rattle.affine_program.specs.Parts.{meaning}
use Rattle.claims.proofs.Found.{IfOk-then}
use Rattle.dep_quast.specs.Context.{variables_at}
use Rattle.dep_quast.specs.Views.{read_of}
use Rattle.flow_deps.proofs.SmallForms.{variable-small, turn-small}
use Rattle.flow_deps.proofs.planted.turn_before.Goals as goal

pub difference-requires-clause-small_left : goal.difference-requires-clause-small_left
difference-requires-clause-small_left c =
    let place : ℕ = length c.params.result.now + c.args.level in
    subst (IsSmallForm PUT_SIZE) (sym c.in_ok-now.ensures) (small-wider (variable c.variables-vars.result place) (variable-small c.variables-vars.result place).small)

pub difference-requires-else-runs_down-clause-small_left : goal.difference-requires-else-runs_down-clause-small_left
difference-requires-else-runs_down-clause-small_left c =
    let place : ℕ = length c.params.result.now + c.args.level in
    subst (IsSmallForm PUT_SIZE) (sym c.in_ok-now.ensures) (small-wider (variable c.variables-vars.result place) (variable-small c.variables-vars.result place).small)

-- the variable that is read, less nothing, with a number
same : (vars all place : ℕ) (number : ℤ) (now zero : AffineForm) (none : List ℤ) → vars ≡ all → now ≡ variable vars place → zero ≡ record { coefficients = none; constant = pos 0 } → none ≡ []
    → difference vars now zero number ≡ difference all (variable all place) (record { coefficients = []; constant = pos 0 }) number
same vars all place number now zero none p q r s =
    ap (λ (f : AffineForm). difference vars f zero number) q ∙ ap (λ (f : AffineForm). difference vars (variable vars place) f number) (r ∙ ap (λ (xs : List ℤ). record { coefficients = xs; constant = pos 0 }) s)
    ∙ ap (λ (n : ℕ). difference n (variable n place) (record { coefficients = []; constant = pos 0 }) number) p

pub returns-then-runs_down-clause-over : goal.returns-then-runs_down-clause-over
returns-then-runs_down-clause-over c =
    let vars : ℕ = variables_at (meaning c.args.program.now) (read_of c.args.reader) in
    let place : ℕ = length c.params.result.now + c.args.level in
    IfOk-then c.difference.result (λ value. value ≡ difference c.variables-vars.result c.in_ok-now.now c.new-zero.result (pos 1)) (λ value. IsSmallOver vars value) c.difference.ensures
    (λ value e. subst (IsSmallOver vars) (sym (e ∙ same c.variables-vars.result vars place (pos 1) c.in_ok-now.now c.new-zero.result _ c.variables-vars.ensures.variables c.in_ok-now.ensures c.new-zero.ensures c.new.ensures.items)) (turn-small vars place downward))

pub returns-clause-over : goal.returns-clause-over
returns-clause-over c =
    let vars : ℕ = variables_at (meaning c.args.program.now) (read_of c.args.reader) in
    let place : ℕ = length c.params.result.now + c.args.level in
    IfOk-then c.difference-else-runs_down.result (λ value. value ≡ difference c.variables-vars.result c.in_ok-now.now c.new-zero.result (negsuc 0)) (λ value. IsSmallOver vars value) c.difference-else-runs_down.ensures
    (λ value e. subst (IsSmallOver vars) (sym (e ∙ same c.variables-vars.result vars place (negsuc 0) c.in_ok-now.now c.new-zero.result _ c.variables-vars.ensures.variables c.in_ok-now.ensures c.new-zero.ensures c.new.ensures.items)) (turn-small vars place upward))
