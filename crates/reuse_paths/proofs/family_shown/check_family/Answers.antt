use Rattle.std.proofs.Common.{List, map}
use Rattle.affine_program.specs.Parts.{meaning}
use Rattle.claims.proofs.Found.{decided-then}
use Rattle.reuse_paths.specs.Families.{CreditedNest, FamilyForms, credit_of, family_of}
use Rattle.reuse_paths.specs.FamilyClaims.{family_claims}
use Rattle.reuse_paths.specs.SoundFamilies.{IsSoundFamily}
use Rattle.dep_quast.specs.Quasts.{trees_of}
use Rattle.reuse_paths.proofs.family_shown.check_family.Goals as goal

pub returns-clause-sound : goal.returns-clause-sound
returns-clause-sound c =
    let program = meaning c.args.program.now in
    let trees = trees_of c.args.quasts.now in
    let credits : List CreditedNest = map credit_of c.args.credits.now in
    let family : FamilyForms = family_of c.args.family.now in
    decided-then (family_claims program trees c.args.statement c.args.nest.now c.args.matrix.now credits family c.args.place.now) c.family_shown.result
    (IsSoundFamily program c.args.statement c.args.nest.now credits family) c.family_shown.ensures
    (c.families_are_sound.ensures program trees c.args.statement c.args.nest.now c.args.matrix.now credits family c.args.place.now c.params-params.ensures.kept.well_formed c.requires.trees_fit c.requires.trees_true c.requires.fits)
