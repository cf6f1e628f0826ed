use Rattle.affine_program.specs.Parts.{meaning}
use Rattle.claims.proofs.Found.{decided-then}
use Rattle.reuse_paths.specs.Arrival.{Arrives}
use Rattle.dep_quast.specs.Quasts.{trees_of}
use Rattle.reuse_paths.specs.ReachClaims.{reach_claims}
use Rattle.reuse_paths.specs.Walks.{reach_of, spot_of}
use Rattle.reuse_paths.proofs.Arrivals.{reaches-arrive}
use Rattle.reuse_paths.proofs.reach_shown.check_reach.Goals as goal

pub returns-clause-arrives : goal.returns-clause-arrives
returns-clause-arrives c =
    let program = meaning c.args.program.now in
    let trees = trees_of c.args.quasts.now in
    let from = spot_of c.args.from.now in
    let to = spot_of c.args.to.now in
    let reach = reach_of c.args.reach.now in
    decided-then (reach_claims program trees c.args.nest.now from to reach c.args.condition c.args.place.now) c.reach_shown.result (Arrives program c.args.nest.now from to) c.reach_shown.ensures
    (reaches-arrive program trees c.args.nest.now from to reach c.args.condition c.args.place.now c.params-params.ensures.kept.well_formed c.requires.trees_fit c.requires.trees_are_true c.requires.fits)
