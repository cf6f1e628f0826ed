use Rattle.std.proofs.Common.{◌≡◌, ◌∙◌, ◌++◌, ap, sym, subst, ℕ, List}
use Rattle.base_laws.proofs.Lists.{All-weaken}
use Rattle.iolb_model.specs.Form.{AffineForm}
use Rattle.affine_form.specs.Form.{variables}
use Rattle.affine_form.specs.Rows.{IsSmallOver}
use Rattle.affine_form.specs.System.{AllOver}
use Rattle.affine_program.specs.Parts.{meaning}
use Rattle.claims.proofs.Found.{IfOk-then}
use Rattle.dep_quast.specs.Context.{variables_at}
use Rattle.dep_quast.specs.Views.{read_of}
use Rattle.dep_quast.proofs.Fits.{over-append}
use Rattle.flow_deps.proofs.growth.tests_with.Goals as goal

pub returns-clause-over : goal.returns-clause-over
returns-clause-over c =
    let vars : ℕ = variables_at (meaning c.args.program.now) (read_of c.args.reader) in
    let first : AllOver vars c.in_ok-first.first.items =
    subst (AllOver vars) (sym (c.in_ok-first.ensures ∙ ap (λ (xs : List AffineForm). xs ++ c.args.tests.now) c.new.ensures.items)) c.requires.tests_over in
    let guards : AllOver vars c.args.guards.now = All-weaken (IsSmallOver vars) (λ (form : AffineForm). variables form ≡ vars) c.args.guards.now (λ form h. h.over) c.requires.guards in
    IfOk-then c.followed_by-2.result (λ all. all.items ≡ c.in_ok-first.first.items ++ c.args.guards.now) (λ all. AllOver vars all.items) c.followed_by-2.ensures
    (λ all e. over-append vars c.in_ok-first.first.items c.args.guards.now all.items e first guards)
