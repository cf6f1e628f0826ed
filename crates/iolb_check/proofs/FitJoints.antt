-- Where what is asked of a joint term holds, it fits a program.
use Rattle.std.proofs.Common.{◌≡◌, sym, ◌∙◌, subst, ℕ, suc, ◌+◌, ◌<◌, ◌≤◌, List, [], ◌∷◌, ◌++◌, length, map, arith}
use Rattle.std.specs.Prelude.{slice_index_or, codes}
use Rattle.std.specs.List.{AllByRecursion}
use Rattle.base_laws.proofs.Lists.{All-weaken}
use Rattle.iolb_model.specs.Program.{AffineProgram}
use Rattle.iolb_model.specs.declared.limits.TheConstants.{NEST_VARIABLES}
use Rattle.affine_form.specs.Rows.{IsSmallOver}
use Rattle.affine_program.specs.Domain.{depth_of}
use Rattle.affine_program.specs.Parts.{ProgramParts, meaning}
use Rattle.claims.specs.Claims.{Claim, AllHold, numbered}
use Rattle.claims.specs.declared.place.Step.{Step}
use Rattle.claims.specs.declared.place.Step.TheVariants.{Index, Key}
use Rattle.claims.proofs.Laws.{AllHold-left, AllHold-right}
use Rattle.dep_quast.specs.Tree.{SelectionTree}
use Rattle.dep_quast.specs.Trees.{RowsFit}
use Rattle.reuse_paths.specs.declared.family.Credit.{Credit}
use Rattle.reuse_paths.specs.WalkFits.{CreditFits}
use Rattle.joint_partition.specs.declared.limits.TheConstants.{GROUPS, LABELINGS}
use Rattle.joint_partition.specs.declared.term.Joint.{Joint}
use Rattle.joint_partition.specs.declared.term.Part.{Part}
use Rattle.joint_partition.specs.FamiliesFit.{FitsFamily}
use Rattle.joint_partition.specs.JointNumbers.{FitsNumbers}
use Rattle.joint_partition.specs.JointWords.{dimensions_of}
use Rattle.joint_partition.specs.Limits.{IsSmallJoint, IsSmallJointFamily, IsSmallPart}
use Rattle.joint_partition.specs.Term.{JointFamily, JointTerm, PartTerm, credited_nests}
use Rattle.joint_partition.specs.View.{FitsPart, FitsPoints, joint_of, part_of}
use Rattle.certificate_fit.specs.FamilyFit.{credit_count_fit, credit_fit, credit_nest_fit}
use Rattle.certificate_fit.specs.FamilyViews.{credit_at as held_credit}
use Rattle.certificate_fit.specs.Limits.{AreSmallBounds, IsSmallCredit}
use Rattle.certificate_fit.specs.TreeFit.{trees_fit}
use Rattle.certificate_fit.proofs.FamilyParts.{credit-counts, credit-fits, credits-count, credits-fit}
use Rattle.certificate_fit.proofs.ReadTrees.{columns-many}
use Rattle.certificate_fit.proofs.TreeParts.{forms-over}
use Rattle.iolb_check.specs.Fit.{JointTermFits}
use Rattle.iolb_check.specs.JointFit.{apart_front_fit, distinct_fit, group_family_at, inverse_fit, joint_fit, map_fit, nest_of_part, part_at, part_fit}
use Rattle.iolb_check.specs.PartitionFit.{credit_at}
use Rattle.iolb_check.proofs.FitJointWalks.{families-fit}
use Rattle.iolb_check.proofs.FitPartitions.{credits-held, credits-same}
use Rattle.iolb_check.proofs.FitSplits.{splits-in}
use Rattle.iolb_check.proofs.JointTargets.{groups-many}

-- the maps have few forms
dimensions-few : (parts : List Part) → AllByRecursion IsSmallPart parts → length (slice_index_or (map (λ (part : PartTerm). part.image) (map part_of parts)) 0 []) ≤ NEST_VARIABLES
dimensions-few [] small = omega arith
dimensions-few (part ∷ parts) small = small.0.few_image

-- ---- parts

module _ (program : ProgramParts) (dimensions : ℕ) (few : dimensions ≤ NEST_VARIABLES) where
  part-fits : (place : List Step) (part : Part) → IsSmallPart part → AllHold (part_fit (meaning program) dimensions place (part_of part)) → FitsPart program dimensions part
  part-fits place part small h =
      let P : AffineProgram = meaning program in
      let term : PartTerm = part_of part in
      let vars : ℕ = length P.parameters + depth_of P part.statement in
      let inverse : List Claim = inverse_fit P dimensions place term in
      let map_claims : List Claim = map_fit P dimensions place term in
      let nest : List Claim = credit_nest_fit P place (nest_of_part term) in
      let count : List Claim = credit_count_fit P place (nest_of_part term) term.count in
      let of_inverse : AllHold inverse = AllHold-left inverse (map_claims ++ (nest ++ count)) h in
      let behind : AllHold (map_claims ++ (nest ++ count)) = AllHold-right inverse (map_claims ++ (nest ++ count)) h in
      let of_map : AllHold map_claims = AllHold-left map_claims (nest ++ count) behind in
      let as_credit : AllHold (credit_fit P place (nest_of_part term) term.count) = AllHold-right map_claims (nest ++ count) behind in
      let points = credit-fits P place (nest_of_part term) term.count small.bounds as_credit in
      let over : AllByRecursion (IsSmallOver vars) part.image.items = forms-over vars (place ++ Key (codes "map") ∷ []) 0 part.image.items small.image of_map.1 in record {
        fits = record {
          there = points.there;
          each = points.each;
          bounds = points.bounds;
          long = of_map.0;
          over = subst (λ (n : ℕ). AllByRecursion (IsSmallOver (length P.parameters + n)) part.image.items) (sym points.each) over;
          inside = of_inverse.0;
          scale = small.some_scale;
        };
        count = credit-counts program place (nest_of_part term) term.count small.variables small.bounds as_credit;
        few = few;
        rows = of_inverse.1.0 ∙ sym points.each;
        columns = columns-many part.inverse.matrix.rows part.inverse.matrix.columns dimensions of_inverse.1.1.0;
      }

  parts-fit : (place : List Step) (index : ℕ) (parts : List Part) → AllByRecursion IsSmallPart parts → AllHold (numbered (part_at (meaning program) dimensions place) index (map part_of parts))
      → AllByRecursion (FitsPart program dimensions) parts
  parts-fit place index [] small h = tt
  parts-fit place index (part ∷ parts) small h =
      let own : List Claim = part_at (meaning program) dimensions place index (part_of part) in
      let rest : List Claim = numbered (part_at (meaning program) dimensions place) (suc index) (map part_of parts) in
      (part-fits (place ++ Index index ∷ []) part small.0 (AllHold-left own rest h), parts-fit place (suc index) parts small.1 (AllHold-right own rest h))

  -- their statements are there, and their nests are as deep as these
  parts-there : (parts : List Part) → AllByRecursion (FitsPart program dimensions) parts → AllByRecursion (λ (part : PartTerm). part.statement < length (meaning program).statements) (map part_of parts)
  parts-there [] h = tt
  parts-there (part ∷ parts) h = (h.0.fits.there, parts-there parts h.1)

  parts-deep : (parts : List Part) → AllByRecursion (FitsPart program dimensions) parts
      → AllByRecursion (λ (part : PartTerm). length part.nest ≡ depth_of (meaning program) part.statement) (map part_of parts)
  parts-deep [] h = tt
  parts-deep (part ∷ parts) h = (h.0.fits.each, parts-deep parts h.1)

-- ---- terms

numbers-fit : (joint : Joint) → IsSmallJoint joint → FitsNumbers (joint_of joint)
numbers-fit joint small = record {
  light = small.weights;
  labelings = All-weaken IsSmallJointFamily (λ (family : JointFamily). length family.labels ≤ LABELINGS) (joint_of joint).families (λ family h. h.few_labels) small.families;
  groups = All-weaken IsSmallJointFamily (λ (family : JointFamily). family.group < GROUPS) (joint_of joint).families (λ family h. h.group) small.families;
}

module _ (program : ProgramParts) (trees : List (List SelectionTree)) (fit : AllHold (trees_fit (meaning program) trees)) (rows : RowsFit (meaning program) 0 trees) (place : List Step) (joint : Joint)
    (small : IsSmallJoint joint) (h : AllHold (joint_fit (meaning program) trees place (joint_of joint))) where
  abbrev P : AffineProgram
  P = meaning program

  abbrev term : JointTerm
  term = joint_of joint

  abbrev families-claims : List Claim
  families-claims = numbered (group_family_at P trees term (place ++ Key (codes "families") ∷ [])) 0 term.families

  abbrev parts-claims : List Claim
  parts-claims = numbered (part_at P (dimensions_of term) (place ++ Key (codes "parts") ∷ [])) 0 term.parts

  abbrev credits-claims : List Claim
  credits-claims = numbered (credit_at P (place ++ Key (codes "credits") ∷ [])) 0 term.credits

  abbrev distinct-claims : List Claim
  distinct-claims = distinct_fit P (place ++ Key (codes "distinct") ∷ []) term

  in-front : AllHold (apart_front_fit P trees place term)
  in-front = AllHold-left (apart_front_fit P trees place term) (families-claims ++ parts-claims) h

  behind : AllHold (families-claims ++ parts-claims)
  behind = AllHold-right (apart_front_fit P trees place term) (families-claims ++ parts-claims) h

  in-distinct : AllHold distinct-claims
  in-distinct = AllHold-right credits-claims distinct-claims in-front.1

  -- the claims of credits, of what the code holds
  held-credits : AllHold (numbered (held_credit P (place ++ Key (codes "credits") ∷ [])) 0 joint.credits.items)
  held-credits = subst AllHold (credits-same P (place ++ Key (codes "credits") ∷ []) 0 joint.credits.items) (AllHold-left credits-claims distinct-claims in-front.1)

  nest-small : (credit : Credit) → IsSmallCredit credit → (length credit.nest ≤ NEST_VARIABLES) × AreSmallBounds credit.nest
  nest-small credit few = (few.variables, few.bounds)

  few : dimensions_of term ≤ NEST_VARIABLES
  few = dimensions-few joint.parts.items small.parts

  parts : AllByRecursion (FitsPart program (dimensions_of term)) joint.parts.items
  parts = parts-fit program (dimensions_of term) few (place ++ Key (codes "parts") ∷ []) 0 joint.parts.items small.parts (AllHold-right families-claims parts-claims behind)

  points : FitsPoints program joint
  points = record {
    parts = parts;
    splits = splits-in P (place ++ Key (codes "distinct") ∷ []) term.parts term.distinct (parts-deep program (dimensions_of term) few joint.parts.items parts) in-distinct.0 small.distinct in-distinct.1;
    credits = credits-count program (place ++ Key (codes "credits") ∷ []) IsSmallCredit nest-small 0 joint.credits.items small.credits held-credits;
    few = few;
    light = omega (arith, small.weights);
  }

  credited : AllByRecursion (CreditFits P) (credited_nests term)
  credited =
      subst (AllByRecursion (CreditFits P)) (credits-held joint.credits.items)
      (credits-fit program (place ++ Key (codes "credits") ∷ []) IsSmallCredit nest-small 0 joint.credits.items small.credits held-credits)

  families : AllByRecursion (FitsFamily P trees term) term.families
  families =
      families-fit P trees fit rows term (parts-there program (dimensions_of term) few joint.parts.items parts) (place ++ Key (codes "families") ∷ []) 0 term.families small.families
      (AllHold-left families-claims parts-claims behind)

  pub joint-fits : JointTermFits program trees joint
  joint-fits = record {
    fits = record {
      points = points;
      trees_fit = rows;
      credits = credited;
      families = families;
      enough = omega (arith, in-front.0, groups-many P trees term term.families families);
    };
    numbers = numbers-fit joint small;
    positive = small.some_q;
  }
