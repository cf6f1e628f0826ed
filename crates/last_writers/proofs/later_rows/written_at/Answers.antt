use Rattle.std.proofs.Common.{◌≡◌, sym, ◌∙◌, ap, subst, ℕ, ◌+◌, length, arith}
use Rattle.std.specs.List.{AllByRecursion}
use Rattle.std.proofs.lemmas.List.{length-append}
use Rattle.iolb_model.specs.Program.{Access}
use Rattle.affine_form.specs.Rows.{IsSmallOver}
use Rattle.affine_program.specs.Domain.{depth_of}
use Rattle.affine_program.specs.Parts.{meaning}
use Rattle.dep_quast.proofs.Fits.{depth-few, params-few, written-over}
use Rattle.last_writers.proofs.later_rows.written_at.Goals as goal

-- how many forms stand for the parameters and the loop values
many : (c : goal.After-as_slice) → length c.as_slice.result.now ≡ length c.args.program.now.params + depth_of (meaning c.args.program.now) c.args.statement
many c =
    ap length (c.as_slice.ensures.value ∙ c.in_ok-point.ensures) ∙ length-append c.in_ok-params.params.items c.args.values.now
    ∙ ap (λ n. n + length c.args.values.now) (c.in_ok-params.ensures.many ∙ ap length c.params.ensures.params)
    ∙ ap (λ n. length c.args.program.now.params + n) c.requires.one_each

pub put_all-requires-clause-few_forms : goal.put_all-requires-clause-few_forms
put_all-requires-clause-few_forms c =
    let is = c.params.ensures.kept in
    omega (arith, many c, params-few c.args.program.now is, depth-few c.args.program.now is c.args.statement c.requires.there)

pub put_all-requires-clause-over : goal.put_all-requires-clause-over
put_all-requires-clause-over c =
    subst (λ (n : ℕ). AllByRecursion (IsSmallOver n) c.as_slice-subscripts.result.now) (sym (many c))
    (subst (AllByRecursion (IsSmallOver (length c.args.program.now.params + depth_of (meaning c.args.program.now) c.args.statement)))
    (sym (c.as_slice-subscripts.ensures.value ∙ ap (λ (a : Access). a.subscripts) c.written.ensures))
    (written-over c.args.program.now c.params.ensures.kept c.args.statement c.requires.there))
