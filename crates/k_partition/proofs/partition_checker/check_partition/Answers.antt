use Rattle.std.proofs.Common.{rules, arith, List, length}
use Rattle.affine_program.specs.Parts.{meaning}
use Rattle.claims.specs.Claims.{Claim, AllHold, IsRefusal}
use Rattle.claims.specs.declared.refused.Refused.{Refused}
use Rattle.claims.proofs.Found.{refused-first, refused-later}
use Rattle.claims.proofs.Laws.{AllHold-append}
use Rattle.dep_quast.proofs.Fits.{params-few}
use Rattle.footprint_pieces.specs.Pieces.{AreCovered}
use Rattle.dep_quast.specs.Quasts.{trees_of}
use Rattle.k_partition.specs.PartitionClaims.{apart_claims, no_points, partition_claims, sound_claims}
use Rattle.k_partition.specs.PartitionPieces.{partition_pieces, CountsCredits}
use Rattle.k_partition.specs.TermLoads.{term_footprint}
use Rattle.k_partition.specs.View.{partition_of}
use Rattle.k_partition.proofs.CreditsValue.{credits-fit, credits-value, total-uses}
use Rattle.k_partition.proofs.PartitionBounds.{families-cover, partition-footprint-is, partition-splits}
use Rattle.k_partition.proofs.PartitionSound.{contexts-are-few, families-covered, holds-credits}
use Rattle.k_partition.proofs.partition_checker.check_partition.Goals as goal

pub returns-in_err-bound-clause-refused : goal.returns-in_err-bound-clause-refused
returns-in_err-bound-clause-refused c =
    let program = meaning c.args.program.now in
    let trees = trees_of c.args.quasts.now in
    let place = c.args.place.now in
    let term = partition_of c.args.term.now in
    let r : Refused = c.in_err-bound.field-0.0 in
    let refused : IsRefusal (partition_claims program trees place term) r =
    refused-first (sound_claims program trees place term) (apart_claims term.shape program trees place term) r c.in_err-bound.ensures.refused in
    search rules

pub families_apart-requires-clause-few : goal.families_apart-requires-clause-few
families_apart-requires-clause-few c =
    contexts-are-few c.contexts_are_few.ensures (meaning c.args.program.now) (trees_of c.args.quasts.now) (partition_of c.args.term.now) c.args.place.now c.params-params.ensures.kept.well_formed
    c.requires.trees_fit c.requires.trees_true c.requires.fits c.in_ok-bound.ensures.holds

pub returns-in_err-families_apart-clause-refused : goal.returns-in_err-families_apart-clause-refused
returns-in_err-families_apart-clause-refused c =
    let program = meaning c.args.program.now in
    let trees = trees_of c.args.quasts.now in
    let place = c.args.place.now in
    let term = partition_of c.args.term.now in
    let r : Refused = c.in_err-families_apart.field-0.0 in
    let refused : IsRefusal (partition_claims program trees place term) r =
    refused-later (sound_claims program trees place term) (apart_claims term.shape program trees place term) r c.in_ok-bound.ensures.holds c.in_err-families_apart.ensures.found in
    search rules

pub returns-clause-credited : goal.returns-clause-credited
returns-clause-credited c = λ values admitted.
    let program = meaning c.args.program.now in
    let trees = trees_of c.args.quasts.now in
    let term = partition_of c.args.term.now in
    credits-value program c.args.place.now term.credits c.in_ok-bound.bound.credits values c.params-params.ensures.kept.well_formed admitted c.right_claims_count.ensures
    (credits-fit c.args.program.now c.args.term.now.credits.items c.requires.credits)
    (holds-credits program trees term c.args.place.now c.params-params.ensures.kept.well_formed c.requires.trees_fit c.requires.trees_true c.requires.fits c.in_ok-bound.ensures.holds) c.in_ok-bound.ensures.total

pub returns-clause-parameters : goal.returns-clause-parameters
returns-clause-parameters c = (
  c.in_ok-bound.ensures.parameters,
  total-uses (length c.args.program.now.params) no_points (partition_of c.args.term.now).credits c.in_ok-bound.bound.credits (params-few c.args.program.now c.params-params.ensures.kept) (omega arith) tt
      (credits-fit c.args.program.now c.args.term.now.credits.items c.requires.credits) c.in_ok-bound.ensures.total,
)

pub returns-clause-holds : goal.returns-clause-holds
returns-clause-holds c =
    let program = meaning c.args.program.now in
    let trees = trees_of c.args.quasts.now in
    let place = c.args.place.now in
    let term = partition_of c.args.term.now in
    let apart : List Claim = apart_claims term.shape program trees place term in
    AllHold-append (sound_claims program trees place term) apart c.in_ok-bound.ensures.holds c.in_ok-families_apart.ensures.found

pub returns-clause-few : goal.returns-clause-few
returns-clause-few c =
    contexts-are-few c.contexts_are_few.ensures (meaning c.args.program.now) (trees_of c.args.quasts.now) (partition_of c.args.term.now) c.args.place.now c.params-params.ensures.kept.well_formed
    c.requires.trees_fit c.requires.trees_true c.requires.fits c.in_ok-bound.ensures.holds

pub returns-clause-covered : goal.returns-clause-covered
returns-clause-covered c =
    let program = meaning c.args.program.now in
    let trees = trees_of c.args.quasts.now in
    let term = partition_of c.args.term.now in
    λ values vertex admitted stands.
    families-cover program trees term term.families
    (families-covered c.family_pieces_cover.ensures program trees term c.args.place.now c.params-params.ensures.kept.well_formed c.requires.trees_fit c.requires.trees_true c.requires.fits c.in_ok-bound.ensures.holds)
    values vertex admitted stands

pub returns-clause-apart : goal.returns-clause-apart
returns-clause-apart c = λ values admitted.
    let program = meaning c.args.program.now in
    let trees = trees_of c.args.quasts.now in
    let term = partition_of c.args.term.now in
    let apart : List Claim = apart_claims term.shape program trees c.args.place.now term in
    let holds : AllHold (partition_claims program trees c.args.place.now term) =
    AllHold-append (sound_claims program trees c.args.place.now term) apart c.in_ok-bound.ensures.holds c.in_ok-families_apart.ensures.found in
    c.partitions_are_sound.ensures.apart program trees term c.args.place.now values c.params-params.ensures.kept.well_formed c.requires.trees_fit c.requires.trees_true c.requires.fits c.in_ok-families_apart.ensures.fit holds admitted

pub returns-clause-footprint : goal.returns-clause-footprint
returns-clause-footprint c =
    let program = meaning c.args.program.now in
    let trees = trees_of c.args.quasts.now in
    let term = partition_of c.args.term.now in
    let apart : List Claim = apart_claims term.shape program trees c.args.place.now term in
    let holds : AllHold (partition_claims program trees c.args.place.now term) =
    AllHold-append (sound_claims program trees c.args.place.now term) apart c.in_ok-bound.ensures.holds c.in_ok-families_apart.ensures.found in
    let covered : AreCovered program (term_footprint program term) (partition_pieces program trees term) = λ values vertex admitted stands.
    families-cover program trees term term.families
    (families-covered c.family_pieces_cover.ensures program trees term c.args.place.now c.params-params.ensures.kept.well_formed c.requires.trees_fit c.requires.trees_true c.requires.fits c.in_ok-bound.ensures.holds)
    values vertex admitted stands in
    let credited : CountsCredits program term c.in_ok-bound.bound.credits = λ values admitted.
    credits-value program c.args.place.now term.credits c.in_ok-bound.bound.credits values c.params-params.ensures.kept.well_formed admitted c.right_claims_count.ensures
    (credits-fit c.args.program.now c.args.term.now.credits.items c.requires.credits)
    (holds-credits program trees term c.args.place.now c.params-params.ensures.kept.well_formed c.requires.trees_fit c.requires.trees_true c.requires.fits c.in_ok-bound.ensures.holds) c.in_ok-bound.ensures.total in
    partition-footprint-is program term c.in_ok-bound.bound c.terms_have_the_value.ensures c.in_ok-bound.ensures.numbers c.den-count.ensures.legal c.den-credits.ensures.legal c.in_ok-bound.ensures.counts credited
    trees c.params-params.ensures.kept.well_formed c.in_ok-bound.ensures.sound c.sound_terms_are_loaded.ensures.loaded
    (λ values admitted. c.partitions_are_sound.ensures.apart program trees term c.args.place.now values c.params-params.ensures.kept.well_formed c.requires.trees_fit c.requires.trees_true c.requires.fits c.in_ok-families_apart.ensures.fit holds admitted)
    covered

pub returns-clause-splits : goal.returns-clause-splits
returns-clause-splits c =
    let program = meaning c.args.program.now in
    let trees = trees_of c.args.quasts.now in
    let term = partition_of c.args.term.now in
    let apart : List Claim = apart_claims term.shape program trees c.args.place.now term in
    let holds : AllHold (partition_claims program trees c.args.place.now term) =
    AllHold-append (sound_claims program trees c.args.place.now term) apart c.in_ok-bound.ensures.holds c.in_ok-families_apart.ensures.found in
    let credited : CountsCredits program term c.in_ok-bound.bound.credits = λ values admitted.
    credits-value program c.args.place.now term.credits c.in_ok-bound.bound.credits values c.params-params.ensures.kept.well_formed admitted c.right_claims_count.ensures
    (credits-fit c.args.program.now c.args.term.now.credits.items c.requires.credits)
    (holds-credits program trees term c.args.place.now c.params-params.ensures.kept.well_formed c.requires.trees_fit c.requires.trees_true c.requires.fits c.in_ok-bound.ensures.holds) c.in_ok-bound.ensures.total in
    partition-splits program term c.in_ok-bound.bound c.terms_have_the_value.ensures c.in_ok-bound.ensures.numbers c.den-count.ensures.legal c.den-credits.ensures.legal c.in_ok-bound.ensures.counts credited
    (c.terms_are_loaded_in_runs.ensures.split program term c.params-params.ensures.kept.well_formed c.in_ok-bound.ensures.sound
    (λ values admitted. c.partitions_are_sound.ensures.apart program trees term c.args.place.now values c.params-params.ensures.kept.well_formed c.requires.trees_fit c.requires.trees_true c.requires.fits c.in_ok-families_apart.ensures.fit holds admitted))
