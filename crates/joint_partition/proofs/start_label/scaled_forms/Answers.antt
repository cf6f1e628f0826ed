use Rattle.std.proofs.Common.{◌≡◌, ◌∙◌, sym, ap, subst, ℕ, ◌<◌, ◌^◌, map, pos, arith}
use Rattle.std.specs.Prelude.{slice_index_or}
use Rattle.std.specs.List.{AllByRecursion}
use Rattle.std.proofs.lemmas.List.{take_all}
use Rattle.iolb_model.specs.Form.{AffineForm}
use Rattle.affine_form.specs.Combination.{scale_form}
use Rattle.affine_form.specs.Form.{IsSmallForm}
use Rattle.iolb_model.specs.declared.limits.TheConstants.{PUT_SIZE}
use Rattle.joint_partition.specs.Term.{no_form}
use Rattle.joint_partition.proofs.ScaledForms.{labels-small}
use Rattle.joint_partition.proofs.start_label.scaled_forms.Goals as goal

pub returns-clause-small : goal.returns-clause-small
returns-clause-small c =
    let scaled : ℕ → AffineForm = λ i. scale_form (pos c.args.scale) (slice_index_or c.args.forms.now i no_form) in
    let whole : c.loop-number.all.items ≡ map scaled c.args.numbers.now = c.loop-number.invariant ∙ ap (map scaled) (take_all c.loop-number.number-index c.args.numbers.now c.loop-number-test.false) in
    let few : c.args.scale < 2 ^ 32 = omega (arith, c.ranges.scale.fits) in
    subst (AllByRecursion (IsSmallForm PUT_SIZE)) (sym whole) (labels-small c.args.scale c.args.forms.now c.args.numbers.now few c.requires.forms c.requires.numbers)
