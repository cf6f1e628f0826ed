use Rattle.std.proofs.Common.{subst, rules, List, ◌++◌, map}
use Rattle.affine_program.specs.Parts.{meaning}
use Rattle.claims.specs.Claims.{AllHold, IsRefusal, numbered}
use Rattle.domain_count.specs.CountClaims.{count_claims}
use Rattle.reuse_paths.specs.declared.family.Credit.{Credit}
use Rattle.dep_quast.specs.Quasts.{trees_of}
use Rattle.k_partition.specs.PartitionClaims.{inside_claims, credit_claims, unit_claims, cover_claims, family_claims_at, sound_claims}
use Rattle.k_partition.specs.View.{partition_of, credit_term_of}
use Rattle.k_partition.proofs.Phases.{stop-first, stop-second, stop-third, stop-fourth, stop-fifth, all-hold}
use Rattle.k_partition.proofs.sound_checker.check_sound.Goals as goal

pub returns-in_err-count-clause-refused : goal.returns-in_err-count-clause-refused
returns-in_err-count-clause-refused c =
    let program = meaning c.args.program.now in
    let trees = trees_of c.args.quasts.now in
    let place = c.args.place.now in
    let term = partition_of c.args.term.now in
    let refused : IsRefusal (sound_claims program trees place term) c.in_err-count.field-0.0 =
    stop-first (count_claims program term.nest term.count place) (inside_claims program place term) (numbered (credit_claims program place term.credits) 0 term.credits)
    (unit_claims place term ++ cover_claims place term) (numbered (family_claims_at program trees place term) 0 term.families) c.in_err-count.field-0.0 c.in_err-count.ensures.refused in
    search rules

pub returns-in_err-inside_shown-clause-refused : goal.returns-in_err-inside_shown-clause-refused
returns-in_err-inside_shown-clause-refused c =
    let program = meaning c.args.program.now in
    let trees = trees_of c.args.quasts.now in
    let place = c.args.place.now in
    let term = partition_of c.args.term.now in
    let refused : IsRefusal (sound_claims program trees place term) c.in_err-inside_shown.field-0.0 =
    stop-second (count_claims program term.nest term.count place) (inside_claims program place term) (numbered (credit_claims program place term.credits) 0 term.credits)
    (unit_claims place term ++ cover_claims place term) (numbered (family_claims_at program trees place term) 0 term.families) c.in_err-inside_shown.field-0.0 c.in_ok-count.ensures.holds
    c.in_err-inside_shown.ensures in
    search rules

pub returns-in_err-credits-clause-refused : goal.returns-in_err-credits-clause-refused
returns-in_err-credits-clause-refused c =
    let program = meaning c.args.program.now in
    let trees = trees_of c.args.quasts.now in
    let place = c.args.place.now in
    let term = partition_of c.args.term.now in
    let refused : IsRefusal (sound_claims program trees place term) c.in_err-credits.field-0.0 =
    stop-third (count_claims program term.nest term.count place) (inside_claims program place term) (numbered (credit_claims program place term.credits) 0 term.credits)
    (unit_claims place term ++ cover_claims place term) (numbered (family_claims_at program trees place term) 0 term.families) c.in_err-credits.field-0.0 c.in_ok-count.ensures.holds
    c.in_ok-inside_shown.ensures
    (subst (λ (credits : List Credit). IsRefusal (numbered (credit_claims program place (map credit_term_of credits)) 0 (map credit_term_of credits)) c.in_err-credits.field-0.0) c.as_slice.ensures.value c.in_err-credits.ensures.refused) in
    search rules

pub returns-in_err-coordinates_shown-clause-refused : goal.returns-in_err-coordinates_shown-clause-refused
returns-in_err-coordinates_shown-clause-refused c =
    let program = meaning c.args.program.now in
    let trees = trees_of c.args.quasts.now in
    let place = c.args.place.now in
    let term = partition_of c.args.term.now in
    let refused : IsRefusal (sound_claims program trees place term) c.in_err-coordinates_shown.field-0.0 =
    stop-fourth (count_claims program term.nest term.count place) (inside_claims program place term) (numbered (credit_claims program place term.credits) 0 term.credits)
    (unit_claims place term ++ cover_claims place term) (numbered (family_claims_at program trees place term) 0 term.families) c.in_err-coordinates_shown.field-0.0 c.in_ok-count.ensures.holds
    c.in_ok-inside_shown.ensures
    (subst (λ (credits : List Credit). AllHold (numbered (credit_claims program place (map credit_term_of credits)) 0 (map credit_term_of credits))) c.as_slice.ensures.value c.in_ok-credits.ensures.holds)
    c.in_err-coordinates_shown.ensures in
    search rules

pub returns-in_err-families_checked-clause-refused : goal.returns-in_err-families_checked-clause-refused
returns-in_err-families_checked-clause-refused c =
    let program = meaning c.args.program.now in
    let trees = trees_of c.args.quasts.now in
    let place = c.args.place.now in
    let term = partition_of c.args.term.now in
    let refused : IsRefusal (sound_claims program trees place term) c.in_err-families_checked.field-0.0 =
    stop-fifth (count_claims program term.nest term.count place) (inside_claims program place term) (numbered (credit_claims program place term.credits) 0 term.credits)
    (unit_claims place term ++ cover_claims place term) (numbered (family_claims_at program trees place term) 0 term.families) c.in_err-families_checked.field-0.0 c.in_ok-count.ensures.holds
    c.in_ok-inside_shown.ensures
    (subst (λ (credits : List Credit). AllHold (numbered (credit_claims program place (map credit_term_of credits)) 0 (map credit_term_of credits))) c.as_slice.ensures.value c.in_ok-credits.ensures.holds)
    c.in_ok-coordinates_shown.ensures
    c.in_err-families_checked.ensures.refused in
    search rules

-- all claims hold
whole : (c : goal.After-bound_of) → AllHold (sound_claims (meaning c.args.program.now) (trees_of c.args.quasts.now) c.args.place.now (partition_of c.args.term.now))
whole c =
    let program = meaning c.args.program.now in
    let trees = trees_of c.args.quasts.now in
    let place = c.args.place.now in
    let term = partition_of c.args.term.now in
    all-hold (count_claims program term.nest term.count place) (inside_claims program place term) (numbered (credit_claims program place term.credits) 0 term.credits)
    (unit_claims place term ++ cover_claims place term) (numbered (family_claims_at program trees place term) 0 term.families) c.in_ok-count.ensures.holds
    c.in_ok-inside_shown.ensures
    (subst (λ (credits : List Credit). AllHold (numbered (credit_claims program place (map credit_term_of credits)) 0 (map credit_term_of credits))) c.as_slice.ensures.value c.in_ok-credits.ensures.holds)
    c.in_ok-coordinates_shown.ensures
    c.in_ok-families_checked.ensures.holds

pub returns-clause-holds : goal.returns-clause-holds
returns-clause-holds c = whole c

pub returns-clause-sound : goal.returns-clause-sound
returns-clause-sound c =
    c.partitions_are_sound.ensures.sound (meaning c.args.program.now) (trees_of c.args.quasts.now) (partition_of c.args.term.now) c.args.place.now c.params-params.ensures.kept.well_formed
    c.requires.trees_fit c.requires.trees_true c.requires.fits (whole c)
