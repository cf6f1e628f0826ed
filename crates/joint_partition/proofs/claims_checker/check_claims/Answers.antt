use Rattle.base_laws.proofs.Lists.{All-weaken}
use Rattle.affine_program.specs.Parts.{meaning}
use Rattle.dep_quast.specs.Quasts.{trees_of}
use Rattle.joint_partition.specs.FamiliesFit.{FitsFamily}
use Rattle.joint_partition.specs.JointFits.{JointFamilyFits}
use Rattle.joint_partition.specs.View.{joint_of}
use Rattle.joint_partition.proofs.FamiliesFit.{family-fits, pieces-fit}
use Rattle.joint_partition.proofs.FewRows.{has-pieces}
use Rattle.joint_partition.proofs.claims_checker.check_claims.Goals as goal

pub groups_apart-requires-clause-few : goal.groups_apart-requires-clause-few
groups_apart-requires-clause-few c = has-pieces (meaning c.args.program.now) (trees_of c.args.quasts.now) (joint_of c.args.term.now) c.args.place.now c.in_ok-families_shown.ensures

pub returns-clause-few : goal.returns-clause-few
returns-clause-few c = has-pieces (meaning c.args.program.now) (trees_of c.args.quasts.now) (joint_of c.args.term.now) c.args.place.now c.in_ok-families_shown.ensures

pub returns-clause-groups : goal.returns-clause-groups
returns-clause-groups c =
    let program = meaning c.args.program.now in
    let trees = trees_of c.args.quasts.now in
    let term = joint_of c.args.term.now in record {
      families = All-weaken (FitsFamily program trees term) (JointFamilyFits program trees term) term.families
          (λ family fits. family-fits program trees term c.requires.trees_fit c.requires.credits family fits) c.requires.families;
      pieces = pieces-fit program trees term term.families c.in_ok-groups_apart.ensures.fit;
      enough = c.requires.enough;
    }
