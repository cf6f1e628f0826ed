use Rattle.std.proofs.Common.{sym, ap, subst, rules}
use Rattle.affine_program.specs.Parts.{meaning}
use Rattle.claims.specs.Claims.{AllHold, IsRefusal}
use Rattle.claims.proofs.Found.{refused-first, refused-later}
use Rattle.claims.proofs.Laws.{AllHold-append}
use Rattle.dep_quast.specs.Tree.{SelectionTree, tree_of}
use Rattle.dep_quast.specs.Truth.{IsTrueTree}
use Rattle.domain_count.specs.CountClaims.{count_claims}
use Rattle.dep_quast.specs.Quasts.{tree_or_blank, tree_for, trees_of}
use Rattle.wavefront.specs.ColdClaims.{cold_claims, instance_claims}
use Rattle.footprint_pieces.specs.Pieces.{AreCovered}
use Rattle.wavefront.specs.ColdPieces.{LeavesAreFew, cold_pieces}
use Rattle.wavefront.specs.Loads.{ColdFits, IsSoundCold, HasFootprint, CostsItsCount, footprint_of}
use Rattle.wavefront.specs.Term.{ColdTerm}
use Rattle.wavefront.specs.View.{term_of}
use Rattle.wavefront.proofs.Bounds.{footprint-is}
use Rattle.wavefront.proofs.ColdLoads.{cold-terms-loaded}
use Rattle.wavefront.proofs.PiecesCover.{pieces-cover}
use Rattle.wavefront.proofs.checker.check_cold.Goals as goal

-- what is claimed past the count holds after the last condition
holds : (c : goal.In_ok-claims_shown) → AllHold (instance_claims (meaning c.args.program.now) c.args.place.now (tree_of c.in-Some.quast.now) (term_of c.args.term.now))
holds c = c.in_ok-claims_shown.ensures

all : (c : goal.In_ok-claims_shown) → IsSoundCold (meaning c.args.program.now) (term_of c.args.term.now) × HasFootprint (meaning c.args.program.now) (term_of c.args.term.now)
    × CostsItsCount (meaning c.args.program.now) (term_of c.args.term.now)
all c =
    let term : ColdTerm = term_of c.args.term.now in
    cold-terms-loaded (meaning c.args.program.now) c.args.place.now (tree_of c.in-Some.quast.now) term c.params-params.ensures.kept.well_formed
    (subst (λ (t : SelectionTree). ColdFits (meaning c.args.program.now) t term) (ap tree_or_blank c.in-Some.ensures) c.requires.fits)
    (subst (λ (t : SelectionTree). IsTrueTree (meaning c.args.program.now) term.reader t) (ap tree_or_blank c.in-Some.ensures) c.requires.true_tree)
    (holds c)

pub returns-clause-holds : goal.returns-clause-holds
returns-clause-holds c =
    let program = meaning c.args.program.now in
    let place = c.args.place.now in
    let term : ColdTerm = term_of c.args.term.now in
    let tree : SelectionTree = tree_for (trees_of c.args.quasts.now) term.reader in
    AllHold-append (count_claims program term.nest term.count place) (instance_claims program place tree term) c.in_ok-count.ensures.holds
    (subst (λ (t : SelectionTree). AllHold (instance_claims program place t term)) (sym (ap tree_or_blank c.in-Some.ensures)) (holds c))

pub returns-clause-sound : goal.returns-clause-sound
returns-clause-sound c = (all c).0

pub returns-clause-footprint : goal.returns-clause-footprint
returns-clause-footprint c =
    footprint-is (meaning c.args.program.now) (term_of c.args.term.now) c.in_ok-count.count c.den-den.ensures.legal c.in_ok-count.ensures.counts c.terms_have_the_value.ensures (all c).1 (all c).2

covers : (c : goal.In_ok-claims_shown) → let tree : SelectionTree = tree_for (trees_of c.args.quasts.now) (term_of c.args.term.now).reader in
    LeavesAreFew (meaning c.args.program.now) tree (term_of c.args.term.now)
    × AreCovered (meaning c.args.program.now) (footprint_of (meaning c.args.program.now) (term_of c.args.term.now)) (cold_pieces (meaning c.args.program.now) tree (term_of c.args.term.now))
covers c =
    let program = meaning c.args.program.now in
    let term : ColdTerm = term_of c.args.term.now in
    pieces-cover program c.args.place.now (tree_for (trees_of c.args.quasts.now) term.reader) term c.params-params.ensures.kept.well_formed c.requires.fits c.requires.true_tree
    (subst (λ (t : SelectionTree). AllHold (instance_claims program c.args.place.now t term)) (sym (ap tree_or_blank c.in-Some.ensures)) (holds c))

pub returns-clause-few : goal.returns-clause-few
returns-clause-few c = (covers c).0

pub returns-clause-covered : goal.returns-clause-covered
returns-clause-covered c = (covers c).1

pub returns-in_err-claims_shown-clause-refused : goal.returns-in_err-claims_shown-clause-refused
returns-in_err-claims_shown-clause-refused c =
    let program = meaning c.args.program.now in
    let place = c.args.place.now in
    let term : ColdTerm = term_of c.args.term.now in
    let tree : SelectionTree = tree_for (trees_of c.args.quasts.now) term.reader in
    let r = c.in_err-claims_shown.field-0.0 in
    let refused : IsRefusal (cold_claims program place tree term) r =
    refused-later (count_claims program term.nest term.count place) (instance_claims program place tree term) r c.in_ok-count.ensures.holds
    (subst (λ (t : SelectionTree). IsRefusal (instance_claims program place t term) r) (sym (ap tree_or_blank c.in-Some.ensures)) c.in_err-claims_shown.ensures) in
    search rules

pub returns-in_err-count-clause-refused : goal.returns-in_err-count-clause-refused
returns-in_err-count-clause-refused c =
    let program = meaning c.args.program.now in
    let place = c.args.place.now in
    let term : ColdTerm = term_of c.args.term.now in
    let tree : SelectionTree = tree_for (trees_of c.args.quasts.now) term.reader in
    let refused : IsRefusal (cold_claims program place tree term) c.in_err-count.field-0.0 =
    refused-first (count_claims program term.nest term.count place) (instance_claims program place tree term) c.in_err-count.field-0.0 c.in_err-count.ensures.refused in
    search rules
