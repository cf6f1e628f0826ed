use Rattle.std.proofs.Common.{◌≡◌, sym, ◌∙◌, ap, subst, ℕ, ◌+◌, List, ◌∷◌, length, map, drop, arith}
use Rattle.std.proofs.lemmas.List.{drop-map, length-map}
use Rattle.affine_program.specs.Parts.{meaning}
use Rattle.claims.specs.Claims.{Decides}
use Rattle.claims.proofs.Found.{decides-later}
use Rattle.joint_partition.specs.declared.term.Part.{Part}
use Rattle.joint_partition.specs.Claims.{apart_from, distinct_claims}
use Rattle.joint_partition.specs.Splits.{SplitTree}
use Rattle.joint_partition.specs.Term.{PartTerm}
use Rattle.joint_partition.specs.View.{SplitsFit, part_of, split_of}
use Rattle.joint_partition.proofs.SplitLists.{splits-enough}
use Rattle.joint_partition.proofs.distinct_shown.+distinct_shown.Goals as goal

pub split_at-requires : goal.split_at-requires
split_at-requires t c =
    let program = meaning c.args.program.now in
    let trees : List SplitTree = map split_of c.args.splits.now in
    let later : List PartTerm = map part_of c.in-Some.later.now in
    let fits : SplitsFit program (part_of c.in-Some.part.now ∷ later) trees = subst (λ (ps : List Part). SplitsFit program (map part_of ps) trees) c.in-Some.ensures.cases.0 c.requires.splits in
    omega (arith, splits-enough program (part_of c.in-Some.part.now) later trees fits.0, length-map c.in-Some.later.now part_of, length-map c.args.splits.now split_of)

pub returns : goal.returns
returns t c =
    let program = meaning c.args.program.now in
    let place = c.args.place.now in
    let index : ℕ = c.args.index in
    let trees : List SplitTree = map split_of c.args.splits.now in
    let part : PartTerm = part_of c.in-Some.part.now in
    let later : List PartTerm = map part_of c.in-Some.later.now in
    let many : length c.in-Some.later.now ≡ length later = sym (length-map c.in-Some.later.now part_of) in
    let behind : map split_of c.split_at.result.1.now ≡ drop (length later) trees =
    ap (map split_of) c.split_at.ensures.back ∙ sym (drop-map split_of (length c.in-Some.later.now) c.args.splits.now) ∙ ap (λ (n : ℕ). drop n trees) many in
    let rest : Decides (distinct_claims program place (index + length later) later (drop (length later) trees)) c.distinct_shown.result =
    subst (λ (n : ℕ). Decides (distinct_claims program place (index + n) later (drop (length later) trees)) c.distinct_shown.result) many
    (subst (λ (ts : List SplitTree). Decides (distinct_claims program place (index + length c.in-Some.later.now) later ts) c.distinct_shown.result) behind c.distinct_shown.ensures) in
    subst (λ (ps : List Part). Decides (distinct_claims program place index (map part_of ps) trees) c.distinct_shown.result) (sym c.in-Some.ensures.cases.0)
    (decides-later (apart_from program place index part later trees) (distinct_claims program place (index + length later) later (drop (length later) trees)) c.distinct_shown.result c.in_ok-later_shown.ensures rest)
