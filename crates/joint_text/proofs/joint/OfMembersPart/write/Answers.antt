use Rattle.std.proofs.Common.{refl, List, [], ◌∷◌, arith}
use Rattle.std.specs.List.{AllByRecursion}
use Rattle.std.proofs.lemmas.List.{length-map}
use Rattle.json_parts.specs.Fields.{object_shape}
use Rattle.json_parts.proofs.Back.{made_read}
use Rattle.k_partition.specs.View.{credit_term_of}
use Rattle.json_parts.proofs.Related.{all-mapped, each-of}
use Rattle.certificate_fit.specs.Limits.{IsSmallCredit, IsSmallPolynomial, NameRows}
use Rattle.certificate_parts.specs.Nests.{IsSmallNest}
use Rattle.reuse_paths.specs.declared.family.Credit.{Credit}
use Rattle.joint_partition.specs.Limits.{IsSmallSplit}
use Rattle.joint_partition.specs.View.{family_of, part_of, split_of}
use Rattle.joint_text.specs.Joint.{IsCreditTerm, joint_fields, joint_made, joint_members, members_shape, written_joint}
use Rattle.joint_text.specs.Parts.{IsPart}
use Rattle.joint_text.proofs.joint.OfMembersPart.write.Goals as goal

-- credited nests within their limits, as they are written
credits-fit : (credits : List Credit) → AllByRecursion IsSmallCredit credits
    → AllByRecursion (λ (credit : Credit). IsSmallNest credit.nest × NameRows credit.sums.shown × AllByRecursion IsSmallPolynomial credit.sums.sums) credits
credits-fit [] all = tt
credits-fit (credit ∷ credits) all = (((all.0.bounds, all.0.variables), all.0.shown, all.0.sums), credits-fit credits all.1)

pub write_object-requires-clause-fit : goal.write_object-requires-clause-fit
write_object-requires-clause-fit c =
    let small = c.requires in
    let part = c.args.part.now in
    let many = length-map part.families.items family_of in (
      (omega arith, small.a),
      (
        small.apart,
        (
          (omega arith, small.b),
          (
            (credits-fit part.credits.items small.credits, small.few_credits),
            (
              each-of split_of IsSmallSplit part.distinct.items small.distinct,
              (
                record {
                  some = record { all = small.families; few = omega (arith, many, small.few_families); some = omega (arith, many, small.some_families) };
                  light = small.weights;
                },
                (record { all = small.parts; few = small.few_parts; some = small.some_parts }, ((small.some_q, small.q), tt)),
              ),
            ),
          ),
        ),
      ),
    )

pub returns-clause-read : goal.returns-clause-read
unfolding members_shape
returns-clause-read c = made_read (object_shape joint_fields) joint_made joint_members (written_joint c.args.part.now) refl c.in_ok-value.ensures.read

pub returns-clause-is : goal.returns-clause-is
returns-clause-is c =
    let are = c.in_ok-value.ensures.are in
    record {
      parts = all-mapped IsPart part_of _ c.args.part.now.parts.items are.1.1.1.1.1.1.0;
      distinct = refl;
      q = refl;
      a = refl;
      b = refl;
      credits = all-mapped IsCreditTerm credit_term_of _ c.args.part.now.credits.items are.1.1.1.0;
      families = refl;
      apart = refl;
    }
