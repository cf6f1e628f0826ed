use Rattle.std.proofs.Common.{◌≡◌, List, ap, ◌∙◌, sym, refl, subst, length, drop}
use Rattle.iolb_model.specs.Form.{AffineForm}
use Rattle.affine_form.specs.System.{AllOver}
use Rattle.affine_form.specs.Rows.{within_rows}
use Rattle.affine_form.proofs.Meaning.{length-within_rows}
use Rattle.affine_form.proofs.RowLemmas.{within_rows-over}
use Rattle.affine_form.proofs.Steps.{at_end}
use Rattle.affine_form.proofs.rows.within_rows.Goals as goal

pub returns-clause-many : goal.returns-clause-many
returns-clause-many c =
    let whole : List AffineForm = within_rows c.args.vars c.args.bounds.now c.args.params.now c.args.values.now in
    let is : c.loop-i.rows.items ≡ whole =
    at_end (λ (zs : List (AffineForm × AffineForm)). within_rows c.args.vars zs c.loop-i.before.items (drop c.loop-i.i c.args.values.now)) c.args.bounds.now c.loop-i.i c.loop-i.rows.items whole
    c.loop-i-test.false refl c.loop-i.invariant.so_far in
    ap length is ∙ length-within_rows c.args.vars c.args.bounds.now c.args.params.now c.args.values.now c.requires.one_each

pub returns-clause-over : goal.returns-clause-over
returns-clause-over c =
    let whole : List AffineForm = within_rows c.args.vars c.args.bounds.now c.args.params.now c.args.values.now in
    let is : c.loop-i.rows.items ≡ whole =
    at_end (λ (zs : List (AffineForm × AffineForm)). within_rows c.args.vars zs c.loop-i.before.items (drop c.loop-i.i c.args.values.now)) c.args.bounds.now c.loop-i.i c.loop-i.rows.items whole
    c.loop-i-test.false refl c.loop-i.invariant.so_far in
    subst (AllOver c.args.vars) (sym is) (within_rows-over c.args.vars c.args.bounds.now c.args.params.now c.args.values.now c.requires.bounds_fit c.requires.params_over c.requires.values_over)
