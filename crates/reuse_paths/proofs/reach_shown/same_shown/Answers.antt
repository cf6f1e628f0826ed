use Rattle.std.proofs.Common.{◌≡◌, ◌∙◌, sym, ap, arith, ◌*◌, List, length}
use Rattle.iolb_model.specs.Form.{AffineForm}
use Rattle.affine_program.specs.Domain.{depth_of}
use Rattle.dep_quast.proofs.Fits.{length-equality_rows}
use Rattle.reuse_paths.specs.WalkSettings.{WalkSetting}
use Rattle.reuse_paths.specs.WalkViews.{walk_of}
use Rattle.reuse_paths.proofs.reach_shown.same_shown.Goals as goal

pub goals_shown-requires : goal.goals_shown-requires
goals_shown-requires c =
    let walk : WalkSetting = walk_of c.args.walking.now in
    let left : length c.as_slice.result.now ≡ depth_of walk.program c.args.from.now.statement = ap (λ (l : List AffineForm). length l) c.as_slice.ensures.value ∙ c.requires.from_fits.point in
    let right : length c.as_slice-2.result.now ≡ depth_of walk.program c.args.target.now.statement = ap (λ (l : List AffineForm). length l) c.as_slice-2.ensures.value ∙ c.requires.target_fits.point in
    let alike : length c.as_slice.result.now ≡ length c.as_slice-2.result.now = left ∙ ap (depth_of walk.program) c.if-from-target.false ∙ sym right in
    let many : length c.as_slice-3.result.now ≡ 2 * length c.as_slice-2.result.now =
    ap (λ (l : List AffineForm). length l) (c.as_slice-3.ensures.value ∙ c.in_ok-goals.ensures.rows) ∙ length-equality_rows c.spot_variables-vars.result c.as_slice.result.now c.as_slice-2.result.now alike in
    omega (arith, many, left, alike, c.requires.enough c.if-from-target.false)
