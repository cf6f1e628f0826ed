use Rattle.std.proofs.Common.{◌≡◌, subst, arith, ℕ, ◌+◌, List, length, zero-add}
use Rattle.std.specs.Prelude.{Some}
use Rattle.std.specs.List.{AllByRecursion}
use Rattle.std.proofs.lemmas.List.{length-map}
use Rattle.iolb_model.specs.Form.{AffineForm}
use Rattle.affine_form.specs.Rows.{IsSmallOver}
use Rattle.affine_program.specs.Domain.{depth_of}
use Rattle.affine_program.specs.Parts.{statement_of}
use Rattle.dep_quast.proofs.Fits.{depth-few}
use Rattle.reuse_paths.specs.Families.{label_at}
use Rattle.reuse_paths.specs.WalkFits.{IsLabel}
use Rattle.reuse_paths.specs.WalkSettings.{KeptLabels, keeps, WalkSetting, spot_variables}
use Rattle.reuse_paths.specs.WalkViews.{kept_of, walk_of, ReadingFits}
use Rattle.reuse_paths.proofs.FamilyLabels.{instance-label, labels-fit, own-over, spot-flat}
use Rattle.reuse_paths.proofs.word_labels.written_shown.Goals as goal

-- the label of the statement's instances fits
label-fits : (walk : WalkSetting) (statement writer : ℕ) (kept : KeptLabels) (label : List AffineForm) → walk.aim ≡ keeps kept → ReadingFits walk statement → label_at kept.instances writer ≡ Some label
    → IsLabel (length kept.reader) (length walk.program.parameters + depth_of walk.program writer) label
label-fits walk statement writer kept label aim fits e =
    subst (λ (n : ℕ). IsLabel (length kept.reader) (length walk.program.parameters + depth_of walk.program n) label) (zero-add writer)
    (instance-label walk.program (length kept.reader) 0 writer kept.instances label (labels-fit walk statement kept aim fits).instances e)

pub same_shown-requires-clause-few_values : goal.same_shown-requires-clause-few_values
same_shown-requires-clause-few_values c =
    let parts = c.args.walking.now.program.now in
    omega (arith, c.requires.origin.1, depth-few parts c.params-params.ensures.kept c.args.writer (omega (arith, length-map parts.statements statement_of, c.requires.origin.0)))

pub same_shown-requires-clause-label_over : goal.same_shown-requires-clause-label_over
same_shown-requires-clause-label_over c =
    let walk : WalkSetting = walk_of c.args.walking.now in
    let kept : KeptLabels = kept_of c.args.kept in
    let many : length walk.program.parameters + depth_of walk.program c.args.writer ≡ spot_variables walk + length c.args.values.now =
    omega (arith, spot-flat walk c.args.reader.statement kept c.requires.aim c.requires.fits, c.requires.origin.1) in
    subst (λ (n : ℕ). AllByRecursion (IsSmallOver n) c.in-Some.label.now) many (label-fits (walk_of c.args.walking.now) c.args.reader.statement c.args.writer (kept_of c.args.kept) c.in-Some.label.now c.requires.aim c.requires.fits c.in-Some.ensures).over

pub same_shown-requires-clause-own_over : goal.same_shown-requires-clause-own_over
same_shown-requires-clause-own_over c = (own-over (walk_of c.args.walking.now) c.args.reader.statement (kept_of c.args.kept) c.requires.aim c.requires.fits).0

pub same_shown-requires-clause-own_small : goal.same_shown-requires-clause-own_small
same_shown-requires-clause-own_small c = (own-over (walk_of c.args.walking.now) c.args.reader.statement (kept_of c.args.kept) c.requires.aim c.requires.fits).1

pub same_shown-requires-clause-one_each : goal.same_shown-requires-clause-one_each
same_shown-requires-clause-one_each c = (label-fits (walk_of c.args.walking.now) c.args.reader.statement c.args.writer (kept_of c.args.kept) c.in-Some.label.now c.requires.aim c.requires.fits c.in-Some.ensures).each
