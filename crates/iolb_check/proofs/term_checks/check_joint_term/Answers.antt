use Rattle.std.proofs.Common.{rules, ◌≡◌, sym, subst, ℕ, List, length, arith}
use Rattle.affine_program.specs.Parts.{meaning}
use Rattle.claims.specs.Claims.{AllHold, IsRefusal}
use Rattle.claims.specs.declared.place.Step.{Step}
use Rattle.dep_quast.specs.Quasts.{trees_of}
use Rattle.joint_partition.specs.Claims.{joint_claims}
use Rattle.joint_partition.specs.JointLoads.{credited_count, image_count}
use Rattle.joint_partition.specs.View.{joint_of}
use Rattle.k_partition.specs.Numbers.{numbers_of}
use Rattle.poly_tree.specs.Expansion.{IsCanonical}
use Rattle.iolb_check.proofs.Terms.{whole}
use Rattle.iolb_check.proofs.term_checks.check_joint_term.Goals as goal

pub check_joint-requires-clause-fits : goal.check_joint-requires-clause-fits
check_joint-requires-clause-fits c = c.requires.fits.fits

pub check_joint-requires-clause-few : goal.check_joint-requires-clause-few
check_joint-requires-clause-few c = c.requires.fits.numbers

pub check_joint-requires-clause-positive : goal.check_joint-requires-clause-positive
check_joint-requires-clause-positive c = c.requires.fits.positive

pub returns-clause-holds : goal.returns-clause-holds
returns-clause-holds c =
    let program = c.args.program.now in
    let term = joint_of c.args.joint.now in
    let kept : program.assumed.vars ≡ length program.params = c.params-params.ensures.kept.assumed in
    let bound = c.in_ok-bound.bound in
    let counts = c.in_ok-bound.ensures.counts in
    record {
      paid = c.in_ok-bound.ensures.footprint;
      covered = c.in_ok-bound.ensures.covered;
      counted = (counts.images, counts.credited);
      counting = record {
        count = record {
          parameters = subst (λ (n : ℕ). IsCanonical n bound.count.tree) (sym kept) counts.canonical;
          whole = whole program (image_count term) bound.count kept counts.images;
        };
        credits = record {
          parameters = subst (λ (n : ℕ). IsCanonical n bound.credits.tree) (sym kept) counts.canonical_credits;
          whole = whole program (credited_count term) bound.credits kept counts.credited;
        };
        some_q = omega (arith, c.in_ok-bound.ensures.numbers.q, c.requires.fits.positive);
        some_den = c.joint_numbers_are_one.ensures.positive term (numbers_of bound) c.in_ok-bound.ensures.numbers;
      };
    }

pub returns-clause-pieces : goal.returns-clause-pieces
returns-clause-pieces c = (c.requires.fits.fits, c.in_ok-bound.ensures.few)

pub returns-clause-value : goal.returns-clause-value
returns-clause-value c = record { count = c.in_ok-bound.ensures.total; credits = c.in_ok-bound.ensures.credited; numbers = c.in_ok-bound.ensures.numbers }

pub returns-clause-sound : goal.returns-clause-sound
returns-clause-sound c = (c.in_ok-bound.ensures.sound, c.in_ok-bound.ensures.apart)

pub returns-in_err-bound-clause-refused : goal.returns-in_err-bound-clause-refused
returns-in_err-bound-clause-refused c =
    let refused =
    subst (λ (place : List Step). IsRefusal (joint_claims (meaning c.args.program.now) (trees_of c.args.quasts.now) place (joint_of c.args.joint.now)) c.in_err-bound.field-0.0) c.in-Ok.ensures
    c.in_err-bound.ensures.refused in
    search rules

pub returns-clause-accepted : goal.returns-clause-accepted
returns-clause-accepted c =
    subst (λ (place : List Step). AllHold (joint_claims (meaning c.args.program.now) (trees_of c.args.quasts.now) place (joint_of c.args.joint.now))) c.in-Ok.ensures c.in_ok-bound.ensures.holds
