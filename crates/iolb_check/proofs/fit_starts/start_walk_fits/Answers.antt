use Rattle.std.specs.Prelude.{codes}
use Rattle.std.proofs.Common.{◌≡◌, ◌∙◌, ap, subst, List, [], ◌∷◌, ◌++◌}
use Rattle.claims.specs.Claims.{Claim, Decides}
use Rattle.claims.specs.declared.place.Step.{Step}
use Rattle.claims.specs.declared.place.Step.TheVariants.{Key}
use Rattle.joint_partition.specs.Term.{way_at}
use Rattle.joint_partition.specs.View.{family_of, start_of}
use Rattle.reuse_paths.specs.WalkSettings.{WalkSetting}
use Rattle.reuse_paths.specs.WalkViews.{walk_of}
use Rattle.certificate_fit.specs.WalkFit.{walk_fit}
use Rattle.iolb_check.specs.JointWalks.{setting_in}
use Rattle.iolb_check.proofs.fit_starts.start_walk_fits.Goals as goal

pub returns : goal.returns
returns c =
    let walks = c.args.walks.now in
    let start = start_of c.args.start.now in
    let at : List Step = c.args.place.now ++ Key (codes "tree") ∷ [] in
    let whole : WalkSetting = setting_in walks (way_at (family_of walks.family.now) start.way).regions in
    let held : WalkSetting = walk_of c.walking_in-walking.result in
    let is : held ≡ whole = c.walking_in-walking.ensures ∙ ap (setting_in walks) c.regions_at-regions.ensures in
    let same : walk_fit held c.args.statement c.in_ok-tree.tree start.tree ≡ walk_fit whole c.args.statement at start.tree =
    ap (λ (walk : WalkSetting). walk_fit walk c.args.statement c.in_ok-tree.tree start.tree) is
    ∙ ap (λ (p : List Step). walk_fit whole c.args.statement p start.tree) c.in_ok-tree.ensures in
    subst (λ (claims : List Claim). Decides claims c.walk_fits.result) same c.walk_fits.ensures
