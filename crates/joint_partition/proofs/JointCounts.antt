-- The polynomials of a joint term's points count them.
use Rattle.std.proofs.Common.{◌≡◌, sym, ◌∙◌, subst, ℕ, suc, ◌≤◌, List, [], ◌∷◌, ◌++◌, length, map, take, sum_by, arith}
use Rattle.std.specs.List.{AllByRecursion}
use Rattle.std.proofs.Math.IntN.{ℤ, pos, ◌*ℤ◌}
use Rattle.std.proofs.lemmas.List.{take-map}
use Rattle.iolb_model.specs.Program.{AffineProgram}
use Rattle.iolb_model.specs.Form.{AffineForm}
use Rattle.iolb_model.specs.declared.limits.TheConstants.{NEST_VARIABLES}
use Rattle.affine_form.specs.Rows.{BoundsFit}
use Rattle.affine_program.specs.Parts.{ProgramParts, meaning}
use Rattle.claims.specs.Claims.{AllHold, Claim, numbered}
use Rattle.claims.specs.declared.place.Step.{Step}
use Rattle.claims.specs.declared.place.Step.TheVariants.{Key}
use Rattle.claims.proofs.Laws.{AllHold-append, AllHold-left, AllHold-right}
use Rattle.dep_quast.proofs.Fits.{params-few}
use Rattle.domain_count.specs.Claims.{SumClaims}
use Rattle.domain_count.specs.Count.{RightClaimsCount}
use Rattle.domain_count.specs.CountClaims.{count_claims}
use Rattle.domain_count.specs.Points.{count}
use Rattle.domain_count.proofs.Claimed.{claims-count, count-claims}
use Rattle.k_partition.specs.PartitionClaims.{HasCreditsTotal, credit_claims, credit_place, no_points}
use Rattle.k_partition.specs.Term.{CreditTerm}
use Rattle.k_partition.proofs.CreditsValue.{credits-fit, credits-value, total-uses}
use Rattle.k_partition.proofs.TermCovers.{summed}
use Rattle.poly_tree.specs.Poly.{numerator_at}
use Rattle.reuse_paths.specs.Families.{CreditedNest}
use Rattle.joint_partition.specs.declared.term.Part.{Part}
use Rattle.joint_partition.specs.Claims.{count_of, cover_claims, distinct_claims, inside_claims, member_at, part_claims, parts_claims, total_claim, unit_claims}
use Rattle.joint_partition.specs.JointCounts.{JointPointsAreCounted}
use Rattle.joint_partition.specs.Term.{JointTerm, PartTerm}
use Rattle.joint_partition.specs.View.{FitsPart, joint_of, part_of}
use Rattle.std.specs.Prelude.{codes}

-- ---- the claims of parts, as those of credits

-- claims of a count hold wherever they stand
count-moved : (program : AffineProgram) (nest : List (AffineForm × AffineForm)) (claims : SumClaims) (place other : List Step)
    → AllHold (count_claims program nest claims place) → AllHold (count_claims program nest claims other)
count-moved program nest claims place other h = let given = claims-count program nest claims place h in count-claims program nest claims other given.0 given.1

part-as-credit : (program : AffineProgram) (place other : List Step) (all : List PartTerm) (index : ℕ) (part : PartTerm) → AllHold (part_claims program place all index part)
    → AllHold (credit_claims program other (map count_of all) index (count_of part))
part-as-credit program place other all index part h =
    let here : List Step = member_at place (codes "parts") index in
    let counts : List Claim = count_claims program part.nest part.count here in
    let total : List Claim = total_claim program here all index in
    let both : AllHold (counts ++ total) =
    AllHold-left (counts ++ total) (inside_claims program here part) (AllHold-left (counts ++ total ++ inside_claims program here part) (unit_claims program here part) h) in
    let has : HasCreditsTotal (length program.parameters) (map count_of (take (suc index) all)) = (AllHold-right counts total both).0 in
    AllHold-append (count_claims program part.nest part.count (credit_place other index))
    (record { condition = 2; place = credit_place other index ++ Key (codes "sums") ∷ []; statement = HasCreditsTotal (length program.parameters) (take (suc index) (map count_of all)) } ∷ [])
    (count-moved program part.nest part.count here (credit_place other index) (AllHold-left counts total both))
    (subst (HasCreditsTotal (length program.parameters)) (sym (take-map count_of (suc index) all)) has, tt)

parts-as-credits : (program : AffineProgram) (place other : List Step) (all : List PartTerm) (index : ℕ) (parts : List PartTerm) → AllHold (numbered (part_claims program place all) index parts)
    → AllHold (numbered (credit_claims program other (map count_of all)) index (map count_of parts))
parts-as-credits program place other all index [] h = tt
parts-as-credits program place other all index (part ∷ parts) h =
    let own : List Claim = part_claims program place all index part in
    let later : List Claim = numbered (part_claims program place all) (suc index) parts in
    AllHold-append (credit_claims program other (map count_of all) index (count_of part)) (numbered (credit_claims program other (map count_of all)) (suc index) (map count_of parts))
    (part-as-credit program place other all index part (AllHold-left own later h)) (parts-as-credits program place other all (suc index) parts (AllHold-right own later h))

-- parts that the code holds fit, as credits
parts-fit : (program : ProgramParts) (dimensions : ℕ) (parts : List Part) → AllByRecursion (FitsPart program dimensions) parts
    → AllByRecursion (λ (credit : CreditTerm). (length credit.nest.nest ≤ NEST_VARIABLES) × BoundsFit (length program.params) credit.nest.nest) (map count_of (map part_of parts))
parts-fit program dimensions [] h = tt
parts-fit program dimensions (part ∷ parts) h = ((h.0.count.few, h.0.count.bounds), parts-fit program dimensions parts h.1)

-- ---- their values

points-are : (values : List ℤ) (parts : List PartTerm)
    → sum_by (λ (nest : CreditedNest). count nest.nest values) (map (λ (credit : CreditTerm). credit.nest) (map count_of parts)) ≡ sum_by (λ (part : PartTerm). count part.nest values) parts
points-are values parts =
    summed (λ (nest : CreditedNest). count nest.nest values) (λ (credit : CreditTerm). credit.nest) (map count_of parts)
    ∙ summed (λ (credit : CreditTerm). count credit.nest.nest values) count_of parts

pub joint-points-are-counted : RightClaimsCount → JointPointsAreCounted
joint-points-are-counted law program joint place count credits is fits holds total total_credits = record {
  images = λ values admitted.
      subst (λ (n : ℕ). numerator_at count values ≡ pos n *ℤ pos count.denominator) (points-are values term.parts)
      (credits-value (meaning program) place (map count_of term.parts) count values is.well_formed admitted law (parts-fit program _ joint.parts.items fits.parts)
      (parts-as-credits (meaning program) place place term.parts 0 term.parts holds-parts) total);
  credited = λ values admitted.
      credits-value (meaning program) place term.credits credits values is.well_formed admitted law (credits-fit program joint.credits.items fits.credits) holds-credits total_credits;
  canonical = total-uses (length program.params) no_points (map count_of term.parts) count (params-few program is) (omega arith) tt (parts-fit program _ joint.parts.items fits.parts) total;
  canonical_credits = total-uses (length program.params) no_points term.credits credits (params-few program is) (omega arith) tt (credits-fit program joint.credits.items fits.credits) total_credits;
} where
  term : JointTerm
  term = joint_of joint

  parts : List Claim
  parts = parts_claims (meaning program) place term

  images : List Claim
  images = distinct_claims (meaning program) place 0 term.parts term.distinct

  credited : List Claim
  credited = numbered (credit_claims (meaning program) place term.credits) 0 term.credits

  before-cover : AllHold (parts ++ images ++ credited)
  before-cover = AllHold-left (parts ++ images ++ credited) (cover_claims place term) holds

  holds-parts : AllHold parts
  holds-parts = AllHold-left parts images (AllHold-left (parts ++ images) credited before-cover)

  holds-credits : AllHold credited
  holds-credits = AllHold-right (parts ++ images) credited before-cover
