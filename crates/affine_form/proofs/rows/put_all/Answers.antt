use Rattle.std.proofs.Common.{◌≡◌, ◌≤◌, ◌+◌, sym, ◌∙◌, ap, List, [], ◌∷◌, ◌++◌, take}
use Rattle.std.proofs.lemmas.List.{map-append, take_all, take_more}
use Rattle.base_laws.proofs.Lists.{All-push, All-read}
use Rattle.iolb_model.specs.Form.{AffineForm}
use Rattle.affine_form.specs.Form.{variables, IsSmallForm}
use Rattle.affine_form.specs.Rows.{put_in, IsSmallOver}
use Rattle.affine_form.specs.Substitution.{substitution}
use Rattle.affine_form.proofs.rows.put_all.Goals as goal
use Rattle.iolb_model.specs.declared.limits.TheConstants.{PUT_SIZE}

pub put-requires-clause-over : goal.put-requires-clause-over
put-requires-clause-over c =
    All-read (IsSmallOver _) c.args.forms.now c.loop-form.form-index c.form-item.result c.requires.over c.loop-form-test.true c.form-item.is

pub loop-form-preserved : goal.loop-form-preserved
loop-form-preserved c =
    let forms : List AffineForm = c.args.forms.now in
    let point : List AffineForm = c.args.point.now in
    let k = c.loop-form.form-index in
    let x : AffineForm = c.form-item.result in
    let next : put_in point (take (k + 1) forms) ≡ put_in point (take k forms) ++ substitution x point ∷ [] =
    ap (put_in point) (take_more forms k x c.loop-form-test.true ∙ ap (λ (g : AffineForm). take k forms ++ g ∷ []) (sym c.form-item.is))
    ∙ map-append (λ (form : AffineForm). substitution form point) (take k forms) (x ∷ []) in
    rw c.in_ok-push.ensures.items (record {
      so_far = ap (λ (all : List AffineForm). all ++ c.in_ok-put.field-0 ∷ []) c.loop-form.invariant.so_far
          ∙ ap (λ (put : AffineForm). put_in point (take k forms) ++ put ∷ []) c.in_ok-put.ensures.form ∙ sym next;
      within = All-push (λ (form : AffineForm). variables form ≤ c.args.vars) c.loop-form.all.items c.in_ok-put.field-0 c.loop-form.invariant.within c.in_ok-put.ensures.within;
      small = All-push (IsSmallForm PUT_SIZE) c.loop-form.all.items c.in_ok-put.field-0 c.loop-form.invariant.small c.in_ok-put.ensures.small;
    })

pub returns-clause-all : goal.returns-clause-all
returns-clause-all c = c.loop-form.invariant.so_far ∙ ap (put_in c.args.point.now) (take_all c.loop-form.form-index c.args.forms.now c.loop-form-test.false)
