use Rattle.std.proofs.Common.{sym, ap, subst, ℕ, List}
use Rattle.iolb_model.specs.Form.{AffineForm}
use Rattle.claims.specs.Claims.{Claim, Decides}
use Rattle.affine_form.specs.System.{AffineSystem}
use Rattle.dep_quast.specs.Views.{read_of}
use Rattle.reuse_paths.specs.EntryClaims.{label_claims, word_label}
use Rattle.dep_quast.specs.OpenLeaves.{LeafOrigin, origin_of, written}
use Rattle.reuse_paths.specs.WalkSettings.{KeptLabels, WalkSetting, reading_point, region_variables}
use Rattle.reuse_paths.specs.WalkViews.{kept_of, walk_of}
use Rattle.reuse_paths.proofs.word_labels.label_shown.Goals as goal

pub returns-in-Written : goal.returns-in-Written
returns-in-Written c =
    let walk : WalkSetting = walk_of c.args.walking.now in
    let kept : KeptLabels = kept_of c.args.kept in
    let vars : ℕ = region_variables walk c.args.reader.statement in
    let system : AffineSystem = record { vars = vars; rows = c.args.rows.now } in
    let claimed : LeafOrigin → List Claim = λ origin.
    label_claims kept.reader c.args.place.now c.args.key system (word_label walk kept (read_of c.args.reader) vars (reading_point walk c.args.reader.statement) origin) c.args.shown.now in
    subst (λ (origin : LeafOrigin). Decides (claimed origin) c.written_shown.result) (sym (ap origin_of c.in-Written.is))
    (subst (λ (values : List AffineForm). Decides (claimed (written c.in-Written.statement values)) c.written_shown.result) c.as_slice.ensures.value c.written_shown.ensures)
