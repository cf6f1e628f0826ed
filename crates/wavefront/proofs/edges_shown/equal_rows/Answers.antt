use Rattle.std.proofs.Common.{◌≡◌, ◌∙◌, ap, List, length, drop, refl}
use Rattle.std.proofs.lemmas.List.{length-map}
use Rattle.iolb_model.specs.Form.{AffineForm}
use Rattle.affine_form.specs.Substitution.{substitution}
use Rattle.affine_form.specs.Rows.{equality_rows, put_in}
use Rattle.affine_form.proofs.Steps.{at_end}
use Rattle.dep_quast.proofs.Fits.{length-equality_rows}
use Rattle.wavefront.proofs.edges_shown.equal_rows.Goals as goal

pub returns-clause-many : goal.returns-clause-many
returns-clause-many c =
    let fs : List AffineForm = put_in c.args.point.now c.args.forms.now in
    let whole : List AffineForm = equality_rows c.args.vars fs c.args.others.now in
    let is : c.loop-i.rows.items ≡ whole =
    at_end (λ (zs : List AffineForm). equality_rows c.args.vars (put_in c.args.point.now zs) (drop c.loop-i.i c.args.others.now)) c.args.forms.now c.loop-i.i c.loop-i.rows.items whole
    c.loop-i-test.false refl c.loop-i.invariant in
    ap length is ∙ length-equality_rows c.args.vars fs c.args.others.now (length-map c.args.forms.now (λ (form : AffineForm). substitution form c.args.point.now) ∙ c.requires.one_each)
