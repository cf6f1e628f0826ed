use Rattle.std.proofs.Common.{ap, List, ◌++◌, length, map, arith}
use Rattle.base_laws.proofs.Lists.{All-read}
use Rattle.iolb_model.specs.Form.{AffineForm}
use Rattle.affine_form.specs.Rows.{IsSmallOver}
use Rattle.dep_quast.specs.OpenLeaves.{form_at}
use Rattle.footprint_pieces.proofs.MovedForms.{mapped-more, mapped-all}
use Rattle.reuse_paths.proofs.region.forms_at.Goals as goal

pub loop-form-init : goal.loop-form-init
loop-form-init c = ap (λ (l : List AffineForm). l ++ map (form_at c.args.vars c.args.point.now) c.args.forms.now) c.new-all.ensures.items

pub form_at-requires-clause-over : goal.form_at-requires-clause-over
form_at-requires-clause-over c =
    All-read (IsSmallOver (length c.args.point.now)) c.args.forms.now c.loop-form.form-index c.form-item.result c.requires.over c.loop-form-test.true c.form-item.is

pub loop-form-preserved : goal.loop-form-preserved
loop-form-preserved c =
    mapped-more (form_at c.args.vars c.args.point.now) c.args.forms.now c.loop-form.form-index c.form-item.result c.in_ok-form_at.field-0 c.loop-form.all.items c.push.new.self.items
    c.loop-form-test.true c.form-item.is c.in_ok-form_at.ensures c.in_ok-push.ensures.items c.loop-form.invariant

pub returns : goal.returns
returns c = record {
  forms = mapped-all (form_at c.args.vars c.args.point.now) c.args.forms.now c.loop-form.form-index c.loop-form.all.items (omega (arith, c.loop-form-test.false)) c.loop-form.invariant;
}
