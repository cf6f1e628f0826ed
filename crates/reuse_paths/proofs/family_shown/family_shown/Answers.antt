use Rattle.std.proofs.Common.{List, map}
use Rattle.affine_program.specs.Parts.{meaning}
use Rattle.reuse_paths.specs.Families.{CreditedNest, FamilyForms, credit_of, family_of}
use Rattle.dep_quast.specs.Quasts.{trees_of}
use Rattle.reuse_paths.proofs.FamilyParts.{counted-reading}
use Rattle.reuse_paths.proofs.family_shown.family_shown.Goals as goal

pub counted_shown-requires-clause-fits : goal.counted_shown-requires-clause-fits
counted_shown-requires-clause-fits c =
    let program = meaning c.args.program.now in
    let trees = trees_of c.args.quasts.now in
    let credits : List CreditedNest = map credit_of c.args.credits.now in
    let family : FamilyForms = family_of c.args.family.now in
    counted-reading program trees credits family c.args.statement c.args.nest.now c.args.matrix.now c.requires.trees_fit c.requires.fits

pub nodes_shown-requires-clause-fits : goal.nodes_shown-requires-clause-fits
nodes_shown-requires-clause-fits c =
    let program = meaning c.args.program.now in
    let trees = trees_of c.args.quasts.now in
    let credits : List CreditedNest = map credit_of c.args.credits.now in
    let family : FamilyForms = family_of c.args.family.now in
    (counted-reading program trees credits family c.args.statement c.args.nest.now c.args.matrix.now c.requires.trees_fit c.requires.fits).setting
