use Rattle.std.proofs.Common.{ap, subst, rules}
use Rattle.affine_program.specs.Parts.{meaning}
use Rattle.claims.specs.Claims.{AllHold, IsRefusal}
use Rattle.dep_quast.specs.Tree.{SelectionTree, tree_of}
use Rattle.dep_quast.specs.Quasts.{tree_or_blank, trees_of}
use Rattle.wavefront.specs.FrontClaims.{front_claims, point_claims, wave_claims}
use Rattle.wavefront.specs.FrontFits.{EdgesFit}
use Rattle.wavefront.specs.View.{front_of}
use Rattle.wavefront.proofs.FrontBounds.{front-footprint-is}
use Rattle.wavefront.proofs.FrontSound.{fronts-sound}
use Rattle.wavefront.proofs.FrontWhole.{stop-counts, stop-points, stop-reach, stop-back, waves-hold, all-hold}
use Rattle.wavefront.proofs.front_checker.check_wavefront.Goals as goal

pub points_shown-requires-clause-fits : goal.points_shown-requires-clause-fits
points_shown-requires-clause-fits c =
    subst (λ (t : SelectionTree). EdgesFit (meaning c.args.program.now) t (front_of c.args.term.now)) (ap tree_or_blank c.in-Some.ensures) c.requires.fits.edges

pub returns-in_err-counts-clause-refused : goal.returns-in_err-counts-clause-refused
returns-in_err-counts-clause-refused c =
    let program = meaning c.args.program.now in
    let place = c.args.place.now in
    let trees = trees_of c.args.quasts.now in
    let term = front_of c.args.term.now in
    let refused : IsRefusal (front_claims program place trees term) c.in_err-counts.field-0.0 =
    stop-counts program place trees term (tree_of c.in-Some.quast.now) (ap tree_or_blank c.in-Some.ensures) c.in_err-counts.field-0.0 c.in_err-counts.ensures.refused in
    search rules

pub returns-in_err-points_shown-clause-refused : goal.returns-in_err-points_shown-clause-refused
returns-in_err-points_shown-clause-refused c =
    let program = meaning c.args.program.now in
    let place = c.args.place.now in
    let trees = trees_of c.args.quasts.now in
    let term = front_of c.args.term.now in
    let refused : IsRefusal (front_claims program place trees term) c.in_err-points_shown.field-0.0 =
    stop-points program place trees term (tree_of c.in-Some.quast.now) (ap tree_or_blank c.in-Some.ensures) c.in_err-points_shown.field-0.0 c.in_ok-counts.ensures.holds c.in_err-points_shown.ensures in
    search rules

pub returns-in_err-source_reached-clause-refused : goal.returns-in_err-source_reached-clause-refused
returns-in_err-source_reached-clause-refused c =
    let program = meaning c.args.program.now in
    let place = c.args.place.now in
    let trees = trees_of c.args.quasts.now in
    let term = front_of c.args.term.now in
    let points : AllHold (point_claims program place (tree_of c.in-Some.quast.now) term) =
    c.in_ok-points_shown.ensures in
    let refused : IsRefusal (front_claims program place trees term) c.in_err-source_reached.field-0.0 =
    stop-reach program place trees term (tree_of c.in-Some.quast.now) (ap tree_or_blank c.in-Some.ensures) c.in_err-source_reached.field-0.0 c.in_ok-counts.ensures.holds points
    c.in_err-source_reached.ensures.refused in
    search rules

pub returns-in_err-vertex_reached-clause-refused : goal.returns-in_err-vertex_reached-clause-refused
returns-in_err-vertex_reached-clause-refused c =
    let program = meaning c.args.program.now in
    let place = c.args.place.now in
    let trees = trees_of c.args.quasts.now in
    let term = front_of c.args.term.now in
    let points : AllHold (point_claims program place (tree_of c.in-Some.quast.now) term) =
    c.in_ok-points_shown.ensures in
    let refused : IsRefusal (front_claims program place trees term) c.in_err-vertex_reached.field-0.0 =
    stop-back program place trees term (tree_of c.in-Some.quast.now) (ap tree_or_blank c.in-Some.ensures) c.in_err-vertex_reached.field-0.0 c.in_ok-counts.ensures.holds points
    c.in_ok-source_reached.ensures.holds c.in_err-vertex_reached.ensures.refused in
    search rules

pub returns-clause-holds : goal.returns-clause-holds
returns-clause-holds c =
    let program = meaning c.args.program.now in
    let place = c.args.place.now in
    let trees = trees_of c.args.quasts.now in
    let term = front_of c.args.term.now in
    let waves : AllHold (wave_claims program place trees term) =
    waves-hold program place trees term (tree_of c.in-Some.quast.now) (ap tree_or_blank c.in-Some.ensures)
    c.in_ok-points_shown.ensures
    c.in_ok-source_reached.ensures.holds c.in_ok-vertex_reached.ensures.holds in
    all-hold program place trees term (tree_of c.in-Some.quast.now) (ap tree_or_blank c.in-Some.ensures) c.in_ok-counts.ensures.holds waves

pub returns-clause-sound : goal.returns-clause-sound
returns-clause-sound c =
    let program = meaning c.args.program.now in
    let place = c.args.place.now in
    let trees = trees_of c.args.quasts.now in
    let term = front_of c.args.term.now in
    let waves : AllHold (wave_claims program place trees term) =
    waves-hold program place trees term (tree_of c.in-Some.quast.now) (ap tree_or_blank c.in-Some.ensures)
    c.in_ok-points_shown.ensures
    c.in_ok-source_reached.ensures.holds c.in_ok-vertex_reached.ensures.holds in
    fronts-sound program place trees term c.params-params.ensures.kept.well_formed c.requires.trees_fit c.requires.trees_true c.requires.fits waves

pub returns-clause-footprint : goal.returns-clause-footprint
returns-clause-footprint c =
    let program = meaning c.args.program.now in
    let place = c.args.place.now in
    let trees = trees_of c.args.quasts.now in
    let term = front_of c.args.term.now in
    let waves : AllHold (wave_claims program place trees term) =
    waves-hold program place trees term (tree_of c.in-Some.quast.now) (ap tree_or_blank c.in-Some.ensures)
    c.in_ok-points_shown.ensures
    c.in_ok-source_reached.ensures.holds c.in_ok-vertex_reached.ensures.holds in
    front-footprint-is program term c.in_ok-counts.counts.0 c.in_ok-counts.counts.1 c.in_ok-counts.ensures.legal c.in_ok-counts.ensures.outer_legal
    c.in_ok-counts.ensures.counts c.in_ok-counts.ensures.outer_counts c.terms_have_the_value.ensures
    (fronts-sound program place trees term c.params-params.ensures.kept.well_formed c.requires.trees_fit c.requires.trees_true c.requires.fits waves)
