use Rattle.std.proofs.Common.{◌≡◌, ◌∙◌, sym, ap, subst, arith, ℕ, ◌+◌, List, length}
use Rattle.std.specs.Prelude.{Option, Some}
use Rattle.std.specs.List.{AllByRecursion}
use Rattle.iolb_model.specs.Form.{AffineForm}
use Rattle.iolb_model.specs.Program.{Access, AffineProgram, IsWellFormed}
use Rattle.affine_form.specs.Rows.{IsSmallOver}
use Rattle.affine_program.specs.declared.reference.Reference.{Reference}
use Rattle.affine_program.specs.Domain.{depth_of}
use Rattle.affine_program.specs.Parts.{access_of}
use Rattle.dep_quast.specs.Context.{ReadOf, reference_of}
use Rattle.dep_quast.specs.Truth.{ReadFits}
use Rattle.dep_quast.specs.Views.{read_of}
use Rattle.dep_quast.proofs.Fits.{read-over}
use Rattle.reuse_paths.specs.Families.{label_at}
use Rattle.reuse_paths.specs.WalkFits.{IsLabel}
use Rattle.reuse_paths.specs.WalkSettings.{KeptLabels, keeps, WalkSetting, spot_variables}
use Rattle.reuse_paths.specs.WalkViews.{kept_of, walk_of, ReadingFits}
use Rattle.reuse_paths.proofs.FamilyLabels.{cell-label, labels-fit, own-over, read-few, read-rank, spot-flat}
use Rattle.reuse_paths.proofs.word_labels.input_shown.Goals as goal

-- the subscripts that the code reads are those of the reference
subscripts-are : (program : AffineProgram) (reader : ReadOf) (cell : Reference) (held : List AffineForm) → held ≡ cell.subs.items → access_of cell ≡ reference_of program reader → held ≡ (reference_of program reader).subscripts
subscripts-are program reader cell held e is = e ∙ ap (λ (a : Access). a.subscripts) is

-- the label of the array's cells fits
label-is : (program : AffineProgram) (reader : ReadOf) (cell : Reference) (labels : List (Option (List AffineForm))) (label : List AffineForm) → access_of cell ≡ reference_of program reader
    → label_at labels cell.array ≡ Some label → label_at labels (reference_of program reader).array ≡ Some label
label-is program reader cell labels label is e = subst (λ (a : Access). label_at labels a.array ≡ Some label) is e

label-fits : (walk : WalkSetting) (reader : ReadOf) (kept : KeptLabels) (label : List AffineForm) → walk.aim ≡ keeps kept → ReadingFits walk reader.statement → IsWellFormed walk.program → ReadFits walk.program reader
    → label_at kept.cells (reference_of walk.program reader).array ≡ Some label → IsLabel (length kept.reader) (length walk.program.parameters + length (reference_of walk.program reader).subscripts) label
label-fits walk reader kept label aim fits well there e =
    let cell : Access = reference_of walk.program reader in
    cell-label walk.program (length kept.reader) cell.array (length cell.subscripts) walk.program.arrays kept.cells label (labels-fit walk reader.statement kept aim fits).cells e (read-rank walk.program reader well there)

pub same_shown-requires-clause-few_values : goal.same_shown-requires-clause-few_values
same_shown-requires-clause-few_values c =
    omega (arith, ap (λ (l : List AffineForm). length l) (subscripts-are (walk_of c.args.walking.now).program (read_of c.args.reader) c.reference-cell.result.now c.as_slice.result.now c.as_slice.ensures.value c.reference-cell.ensures), read-few c.args.walking.now.program.now (read_of c.args.reader) c.params-params.ensures.kept c.requires.read_fits)

pub same_shown-requires-clause-label_over : goal.same_shown-requires-clause-label_over
same_shown-requires-clause-label_over c =
    let walk : WalkSetting = walk_of c.args.walking.now in
    let many : length walk.program.parameters + length (reference_of walk.program (read_of c.args.reader)).subscripts ≡ spot_variables walk + length c.as_slice.result.now =
    omega (arith, spot-flat walk c.args.reader.statement (kept_of c.args.kept) c.requires.aim c.requires.fits, ap (λ (l : List AffineForm). length l) (subscripts-are (walk_of c.args.walking.now).program (read_of c.args.reader) c.reference-cell.result.now c.as_slice.result.now c.as_slice.ensures.value c.reference-cell.ensures)) in
    subst (λ (n : ℕ). AllByRecursion (IsSmallOver n) c.in-Some.label.now) many (label-fits (walk_of c.args.walking.now) (read_of c.args.reader) (kept_of c.args.kept) c.in-Some.label.now c.requires.aim c.requires.fits c.params-params.ensures.kept.well_formed c.requires.read_fits
    (label-is (walk_of c.args.walking.now).program (read_of c.args.reader) c.reference-cell.result.now (kept_of c.args.kept).cells c.in-Some.label.now c.reference-cell.ensures c.in-Some.ensures)).over

pub same_shown-requires-clause-values_over : goal.same_shown-requires-clause-values_over
same_shown-requires-clause-values_over c =
    let walk : WalkSetting = walk_of c.args.walking.now in
    subst (AllByRecursion (IsSmallOver (length walk.program.parameters + depth_of walk.program c.args.reader.statement))) (sym (subscripts-are (walk_of c.args.walking.now).program (read_of c.args.reader) c.reference-cell.result.now c.as_slice.result.now c.as_slice.ensures.value c.reference-cell.ensures))
    (read-over c.args.walking.now.program.now c.params-params.ensures.kept (read_of c.args.reader) c.requires.read_fits)

pub same_shown-requires-clause-own_over : goal.same_shown-requires-clause-own_over
same_shown-requires-clause-own_over c = (own-over (walk_of c.args.walking.now) c.args.reader.statement (kept_of c.args.kept) c.requires.aim c.requires.fits).0

pub same_shown-requires-clause-own_small : goal.same_shown-requires-clause-own_small
same_shown-requires-clause-own_small c = (own-over (walk_of c.args.walking.now) c.args.reader.statement (kept_of c.args.kept) c.requires.aim c.requires.fits).1

pub same_shown-requires-clause-one_each : goal.same_shown-requires-clause-one_each
same_shown-requires-clause-one_each c = (label-fits (walk_of c.args.walking.now) (read_of c.args.reader) (kept_of c.args.kept) c.in-Some.label.now c.requires.aim c.requires.fits c.params-params.ensures.kept.well_formed c.requires.read_fits
    (label-is (walk_of c.args.walking.now).program (read_of c.args.reader) c.reference-cell.result.now (kept_of c.args.kept).cells c.in-Some.label.now c.reference-cell.ensures c.in-Some.ensures)).each

pub returns : goal.returns
returns c =
    let walk : WalkSetting = walk_of c.args.walking.now in
    let found = label-is walk.program (read_of c.args.reader) c.reference-cell.result.now (kept_of c.args.kept).cells c.in-Some.label.now c.reference-cell.ensures c.in-Some.ensures in
    let same = subscripts-are walk.program (read_of c.args.reader) c.reference-cell.result.now c.as_slice.result.now c.as_slice.ensures.value c.reference-cell.ensures in
    rw (found, ← same) c.in_ok-same_shown.ensures
