use Rattle.std.proofs.Common.{◌∙◌, ap, ◌++◌, List}
use Rattle.std.proofs.lemmas.List.{take_all}
use Rattle.base_laws.proofs.Lists.{All-read}
use Rattle.iolb_model.specs.Form.{AffineForm}
use Rattle.affine_form.specs.Rows.{guard_rows, widened, IsSmallOver}
use Rattle.affine_form.proofs.RowLemmas.{guard_rows-more}
use Rattle.affine_form.proofs.rows.push_guards.Goals as goal

pub put-requires-clause-over : goal.put-requires-clause-over
put-requires-clause-over c =
    All-read (IsSmallOver _) c.args.guards.now c.loop-guard.guard-index c.guard-item.result c.requires.guards_over c.loop-guard-test.true c.guard-item.is

pub loop-guard-preserved : goal.loop-guard-preserved
loop-guard-preserved c =
    guard_rows-more c.args.vars c.loop-guard.guard-index c.args.guards.now c.args.point.now c.guard-item.result c.in_ok-widened.field-0 c.args.rows.now.items c.loop-guard.rows.items c.push.new.self.items
    c.loop-guard-test.true c.guard-item.is (c.in_ok-widened.ensures ∙ ap (widened c.args.vars) c.in_ok-put.ensures.form) c.in_ok-push.ensures.items c.loop-guard.invariant

pub returns : goal.returns
returns c =
    c.loop-guard.invariant ∙ ap (λ (gs : List AffineForm). c.args.rows.now.items ++ guard_rows c.args.vars gs c.args.point.now) (take_all c.loop-guard.guard-index c.args.guards.now c.loop-guard-test.false)
