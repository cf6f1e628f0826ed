use Rattle.std.proofs.Common.{◌≡◌, sym, ◌∙◌, ap, subst, arith, ℕ, ◌+◌, ◌*◌, List, length}
use Rattle.std.specs.Prelude.{Option, IsSomeAnd}
use Rattle.std.proofs.lemmas.List.{length-map}
use Rattle.iolb_model.specs.Form.{AffineForm}
use Rattle.affine_program.specs.Domain.{depth_of}
use Rattle.affine_program.specs.Parts.{statement_of}
use Rattle.dep_quast.proofs.Fits.{depth-few}
use Rattle.reuse_paths.specs.Families.{CreditedNest, credit_of}
use Rattle.dep_quast.specs.OpenLeaves.{origin_of, written}
use Rattle.reuse_paths.specs.WalkFits.{CreditFits}
use Rattle.reuse_paths.specs.WalkSettings.{KeptLabels, WalkSetting}
use Rattle.reuse_paths.specs.WalkViews.{kept_of, walk_of, OriginFits}
use Rattle.reuse_paths.proofs.FamilyLabels.{credit-fits, labels-fit}
use Rattle.reuse_paths.proofs.credited.credit_shown.Goals as goal

pub nest_shown-requires-clause-few_values : goal.nest_shown-requires-clause-few_values
nest_shown-requires-clause-few_values c =
    let walk : WalkSetting = walk_of c.args.walking.now in
    let parts = c.args.walking.now.program.now in
    let vars : ℕ = length walk.program.parameters + depth_of walk.program c.args.statement in
    let origin : OriginFits walk.program vars (written c.in-Written.writer c.in-Written.point.items) = subst (OriginFits walk.program vars) (ap origin_of c.in-Written.is) c.requires.origin in
    omega (
      arith,
      ap (λ (l : List AffineForm). length l) c.as_slice.ensures.value,
      origin.1,
      depth-few parts c.params-params.ensures.kept c.in-Written.writer (omega (arith, length-map parts.statements statement_of, origin.0)),
    )

pub nest_shown-requires-clause-bounds_fit : goal.nest_shown-requires-clause-bounds_fit
nest_shown-requires-clause-bounds_fit c =
    let walk : WalkSetting = walk_of c.args.walking.now in
    let kept : KeptLabels = kept_of c.args.kept in
    (credit-fits walk.program kept.credits c.args.number (credit_of c.in-Some.credit.now) (labels-fit walk c.args.statement kept c.requires.aim c.requires.fits).credits c.in-Some.ensures).bounds

pub nest_shown-requires-clause-one_each : goal.nest_shown-requires-clause-one_each
nest_shown-requires-clause-one_each c =
    let walk : WalkSetting = walk_of c.args.walking.now in
    let kept : KeptLabels = kept_of c.args.kept in
    let vars : ℕ = length walk.program.parameters + depth_of walk.program c.args.statement in
    let origin : OriginFits walk.program vars (written c.in-Written.writer c.in-Written.point.items) = subst (OriginFits walk.program vars) (ap origin_of c.in-Written.is) c.requires.origin in
    let fits : CreditFits walk.program (credit_of c.in-Some.credit.now) =
    credit-fits walk.program kept.credits c.args.number (credit_of c.in-Some.credit.now) (labels-fit walk c.args.statement kept c.requires.aim c.requires.fits).credits c.in-Some.ensures in
    ap (λ (l : List AffineForm). length l) c.as_slice.ensures.value ∙ origin.1 ∙ ap (depth_of walk.program) c.if-writer-credit.false ∙ sym fits.each

pub nest_shown-requires-clause-enough : goal.nest_shown-requires-clause-enough
nest_shown-requires-clause-enough c =
    subst (λ (o : Option CreditedNest). IsSomeAnd o (λ (nest : CreditedNest). length c.args.shown.now ≡ 2 * length nest.nest)) c.in-Some.ensures c.requires.enough
