use Rattle.std.proofs.Common.{◌≡◌, sym, ◌∙◌, ap, subst, ℕ, ◌≤◌, length}
use Rattle.std.specs.List.{AllByRecursion}
use Rattle.iolb_model.specs.Program.{Access}
use Rattle.affine_form.specs.Rows.{IsSmallOver}
use Rattle.affine_program.specs.Parts.{meaning}
use Rattle.dep_quast.specs.Context.{variables_at}
use Rattle.dep_quast.proofs.Fits.{read-over}
use Rattle.wavefront.specs.View.{term_of}
use Rattle.dep_quast.proofs.OpenLeaves.{reader-few}
use Rattle.wavefront.proofs.instance.cell_of.Goals as goal

count : (c : goal.After-as_slice) → length c.as_slice.result.now ≡ variables_at (meaning c.args.program.now) (term_of c.args.term.now).reader
count c = ap length c.as_slice.ensures.value ∙ c.in_ok-point.ensures.many

pub put_all-requires-clause-few_forms : goal.put_all-requires-clause-few_forms
put_all-requires-clause-few_forms c =
    subst (λ (n : ℕ). n ≤ 24) (sym (count c)) (reader-few c.args.program.now (term_of c.args.term.now).reader c.variables-vars.ensures.kept c.requires.read)

pub put_all-requires-clause-over : goal.put_all-requires-clause-over
put_all-requires-clause-over c =
    subst (λ (n : ℕ). AllByRecursion (IsSmallOver n) c.as_slice-subscripts.result.now) (sym (count c))
    (subst (AllByRecursion (IsSmallOver (variables_at (meaning c.args.program.now) (term_of c.args.term.now).reader))) (sym (c.as_slice-subscripts.ensures.value ∙ ap (λ (a : Access). a.subscripts) c.reference.ensures))
    (read-over c.args.program.now c.variables-vars.ensures.kept (term_of c.args.term.now).reader c.requires.read))
