use Rattle.std.proofs.Common.{sym, ap, subst, List, map, Global}
use Rattle.std.specs.Prelude.{Box, Option, option_map}
use Rattle.affine_program.specs.Parts.{meaning}
use Rattle.reuse_paths.specs.declared.walk.Region.{Region}
use Rattle.dep_quast.specs.Quasts.{trees_of}
use Rattle.reuse_paths.specs.ReachFits.{FitsIn, ReachFits}
use Rattle.reuse_paths.specs.ReachClaims.{setting_of}
use Rattle.reuse_paths.specs.Walks.{ReachClaim, WalkRegion, reach_of, boxed_region, spot_of, walked}
use Rattle.reuse_paths.specs.WalkSettings.{arrives_at}
use Rattle.reuse_paths.specs.WalkViews.{SettingFits}
use Rattle.reuse_paths.proofs.EntryClaims.{rows-fit}
use Rattle.reuse_paths.proofs.reach_shown.reach_shown.Goals as goal

pub walked_shown-requires-clause-fits : goal.walked_shown-requires-clause-fits
walked_shown-requires-clause-fits c =
    let program = meaning c.args.program.now in
    let trees = trees_of c.args.quasts.now in
    let nest = c.args.nest.now in
    let target = spot_of c.args.to.now in
    let from = spot_of c.args.from.now in
    let nodes : List (Option WalkRegion) = map (option_map boxed_region) c.in-Walked.nodes.items in
    let reach : ReachClaim = walked c.in-Walked.start.items nodes in
    let fits : FitsIn (setting_of program trees nest target reach) target from reach = subst (ReachFits program trees nest from target) (ap reach_of c.in-Walked.is) c.requires.fits in
    let whole : SettingFits (setting_of program trees nest target reach) = record {
      ends = record { nest = fits.nest; aim = fits.to_fits };
      trees = c.requires.trees_fit;
      each = fits.shown.1;
      rows = rows-fit (setting_of program trees nest target reach) 0 nodes fits.shown.2;
    } in
    subst (λ (held : List (Option (Box Region Global))). SettingFits (record { program = program; trees = trees; nest = nest; nodes = map (option_map boxed_region) held; aim = arrives_at target }))
    (sym c.as_slice-nodes.ensures.value) whole
