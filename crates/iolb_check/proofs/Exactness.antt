-- A certificate isn't both accepted and refused; what is accepted has values, and gives one bound.
use Rattle.std.specs.Prelude.{codes}
use Rattle.std.proofs.Common.{◌≡◌, refl, sym, ◌∙◌, ap, subst, ℕ, suc, List, [], ◌∷◌, ◌++◌, get_or, length, map, take, arith}
use Rattle.std.proofs.Math.Seq.{take-length}
use Rattle.base_laws.proofs.Lists.{cons-same}
use Rattle.iolb_model.specs.Program.{AffineProgram}
use Rattle.claims.specs.Claims.{Claim, AllHold, numbered}
use Rattle.claims.specs.declared.place.Step.{Step}
use Rattle.claims.specs.declared.place.Step.TheVariants.{Key, Index}
use Rattle.claims.proofs.Laws.{AllHold-left, AllHold-right, accepted-stand, refused-one}
use Rattle.claims.proofs.Members.{numbered-member}
use Rattle.dep_quast.specs.Tree.{SelectionTree}
use Rattle.domain_count.specs.CountClaims.{count_claims, sums_claims}
use Rattle.domain_count.proofs.Claimed.{claims-count, right-claims-give-one, sums-give, sums-same}
use Rattle.joint_partition.specs.Claims.{apart_claims_of, count_of, cover_claims as joint_cover_claims, distinct_claims, families_claims, inside_claims as part_inside_claims, member_at, part_claims, parts_claims, total_claim, unit_claims as part_unit_claims}
use Rattle.joint_partition.specs.Term.{JointTerm, PartTerm}
use Rattle.joint_partition.proofs.LowestTerms.{joint-numbers-are-one, joint-numbers-there}
use Rattle.k_partition.proofs.CreditSums.{total-same}
use Rattle.k_partition.specs.declared.term.PartitionBound.{PartitionBound}
use Rattle.k_partition.specs.Numbers.{factor_over, factor_under, numbers_of}
use Rattle.k_partition.specs.PartitionClaims.{HasCreditsTotal, apart_claims, cover_claims, credit_claims, credit_place, family_claims_at, inside_claims, no_points, point_claims, sound_claims, unit_claims}
use Rattle.k_partition.specs.Term.{CreditTerm, PartitionTerm}
use Rattle.k_partition.specs.TermLoads.{weight_of}
use Rattle.poly_tree.specs.Poly.{Quotient}
use Rattle.dep_quast.specs.Quasts.{tree_for}
use Rattle.dep_quast.specs.Trees.{rows_claims}
use Rattle.wavefront.specs.ColdClaims.{instance_claims}
use Rattle.wavefront.specs.FrontClaims.{front_counts, wave_claims}
use Rattle.wavefront.specs.FrontTerm.{WavefrontTerm, outer_nest}
use Rattle.wavefront.specs.Term.{ColdTerm}
use Rattle.iolb_check.specs.Claims.{TermClaim, cold, partition, front, joint, cold_term, front_term, BranchClaim}
use Rattle.iolb_check.specs.declared.bound.Value.{Value}
use Rattle.iolb_check.specs.declared.bound.Value.TheVariants as values
use Rattle.iolb_check.specs.Conditions.{conditions, branch_claims, disjoint_claims, term_claims, term_claims_at, terms_claims, terms_place, IsJointValue, IsPartitionValue, IsValueOf, AreValuesOf, AreBranchValues}
use Rattle.iolb_check.specs.Exact.{RefusalsAreOne, ValidCertificatesGiveOne, ValidCertificatesHaveValues, ValidCertificatesStand}
use Rattle.iolb_check.specs.TermFit.{certificate_fit}

-- two bounds of a partition term are one
bound-same : (program : AffineProgram) (term : PartitionTerm) (one other : PartitionBound) → IsPartitionValue program term one → IsPartitionValue program term other → one ≡ other
bound-same program term one other h g =
    let count : one.count ≡ other.count = right-claims-give-one program term.nest term.count one.count other.count h.count g.count in
    let credits : one.credits ≡ other.credits =
    total-same (length program.parameters) no_points term.credits one.credits other.credits (omega arith) h.credits g.credits in
    let a : one.a ≡ other.a = h.numbers.a ∙ sym g.numbers.a in
    let b : one.b ≡ other.b = h.numbers.b ∙ sym g.numbers.b in
    let q : one.q ≡ other.q = h.numbers.q ∙ sym g.numbers.q in
    let m : one.m ≡ other.m = h.numbers.m ∙ sym g.numbers.m in
    let num : one.num ≡ other.num = h.numbers.num ∙ sym g.numbers.num in
    let den : one.den ≡ other.den = h.numbers.den ∙ sym g.numbers.den in
    λ i. record { count = count i; credits = credits i; a = a i; b = b i; q = q i; m = m i; num = num i; den = den i }

-- so are two of a joint term
joint-bound-same : (program : AffineProgram) (term : JointTerm) (one other : PartitionBound) → IsJointValue program term one → IsJointValue program term other → one ≡ other
joint-bound-same program term one other h g =
    let count : one.count ≡ other.count = total-same (length program.parameters) no_points (map count_of term.parts) one.count other.count (omega arith) h.count g.count in
    let credits : one.credits ≡ other.credits = total-same (length program.parameters) no_points term.credits one.credits other.credits (omega arith) h.credits g.credits in
    let numbers : numbers_of one ≡ numbers_of other = joint-numbers-are-one term (numbers_of one) (numbers_of other) h.numbers g.numbers in
    λ i. record {
      count = count i;
      credits = credits i;
      a = (numbers i).a;
      b = (numbers i).b;
      q = (numbers i).q;
      m = (numbers i).m;
      num = (numbers i).num;
      den = (numbers i).den;
    }

value-same : (program : AffineProgram) (term : TermClaim) (one other : Value) → IsValueOf program term one → IsValueOf program term other → one ≡ other
value-same program (cold claim sums) (values.Cold one) (values.Cold other) h g =
    ap values.Cold (right-claims-give-one program claim.nest (cold_term claim sums).count one other h g)
value-same program (cold claim sums) (values.Cold one) (values.Partition bound) h g = absurd g
value-same program (cold claim sums) (values.Cold one) (values.Wavefront pairs outer) h g = absurd g
value-same program (cold claim sums) (values.Cold one) (values.Joint bound) h g = absurd g
value-same program (cold claim sums) (values.Partition bound) other h g = absurd h
value-same program (cold claim sums) (values.Wavefront pairs outer) other h g = absurd h
value-same program (cold claim sums) (values.Joint bound) other h g = absurd h
value-same program (partition term) (values.Cold one) other h g = absurd h
value-same program (partition term) (values.Partition one) (values.Cold other) h g = absurd g
value-same program (partition term) (values.Partition one) (values.Partition other) h g = ap values.Partition (bound-same program term one other h g)
value-same program (partition term) (values.Partition one) (values.Wavefront pairs outer) h g = absurd g
value-same program (partition term) (values.Partition one) (values.Joint other) h g = absurd g
value-same program (partition term) (values.Wavefront pairs outer) other h g = absurd h
value-same program (partition term) (values.Joint bound) other h g = absurd h
value-same program (front claim sums outer_sums) (values.Cold one) other h g = absurd h
value-same program (front claim sums outer_sums) (values.Partition bound) other h g = absurd h
value-same program (front claim sums outer_sums) (values.Wavefront pairs outer) (values.Cold other) h g = absurd g
value-same program (front claim sums outer_sums) (values.Wavefront pairs outer) (values.Partition other) h g = absurd g
value-same program (front claim sums outer_sums) (values.Wavefront pairs outer) (values.Joint other) h g = absurd g
value-same program (front claim sums outer_sums) (values.Wavefront pairs outer) (values.Wavefront others more) h g =
    ap (λ (p : Quotient). values.Wavefront p outer) (right-claims-give-one program claim.nest (front_term claim sums outer_sums).count pairs others h.0 g.0)
    ∙ ap (values.Wavefront others) (sums-same (length program.parameters) (outer_nest (front_term claim sums outer_sums)) outer_sums outer more h.1 g.1)
value-same program (front claim sums outer_sums) (values.Joint bound) other h g = absurd h
value-same program (joint term) (values.Cold count) other h g = absurd h
value-same program (joint term) (values.Partition bound) other h g = absurd h
value-same program (joint term) (values.Wavefront pairs outer) other h g = absurd h
value-same program (joint term) (values.Joint one) (values.Cold other) h g = absurd g
value-same program (joint term) (values.Joint one) (values.Partition other) h g = absurd g
value-same program (joint term) (values.Joint one) (values.Wavefront pairs outer) h g = absurd g
value-same program (joint term) (values.Joint one) (values.Joint other) h g = ap values.Joint (joint-bound-same program term one other h g)

values-same : (program : AffineProgram) (terms : List TermClaim) (one other : List Value) → AreValuesOf program terms one → AreValuesOf program terms other → one ≡ other
values-same program [] one other h g = h ∙ sym g
values-same program (t ∷ terms) [] other h g = absurd h
values-same program (t ∷ terms) (v ∷ one) [] h g = absurd g
values-same program (t ∷ terms) (v ∷ one) (w ∷ other) h g = cons-same _ _ _ _ (value-same program t v w h.0 g.0) (values-same program terms one other h.1 g.1)

branches-same : (program : AffineProgram) (branches : List BranchClaim) (one other : List (List Value)) → AreBranchValues program branches one → AreBranchValues program branches other → one ≡ other
branches-same program [] one other h g = h ∙ sym g
branches-same program (b ∷ branches) [] other h g = absurd h
branches-same program (b ∷ branches) (v ∷ one) [] h g = absurd g
branches-same program (b ∷ branches) (v ∷ one) (w ∷ other) h g = cons-same _ _ _ _ (values-same program b.terms v w h.0 g.0) (branches-same program branches one other h.1 g.1)

-- ---- values, where the claims hold

-- the counts of credits have a sum, where the claims about each of them hold
credits-total : (program : AffineProgram) (place : List Step) (credits : List CreditTerm) → AllHold (numbered (credit_claims program place credits) 0 credits)
    → HasCreditsTotal (length program.parameters) credits
credits-total program place [] h = (no_points, refl)
credits-total program place (credit ∷ credits) h =
    let last : ℕ = length credits in
    let all : List CreditTerm = credit ∷ credits in
    let here = numbered-member (credit_claims program place all) all last credit (omega arith) h in
    let sum = AllHold-right (count_claims program (get_or all last credit).nest.nest (get_or all last credit).count (credit_place place last))
    (record { condition = 2; place = credit_place place last ++ Key (codes "sums") ∷ []; statement = HasCreditsTotal (length program.parameters) (take (suc last) all) } ∷ []) here in
    subst (HasCreditsTotal (length program.parameters)) (take-length all) sum.0

-- the counts of parts have a sum too
parts-total : (program : AffineProgram) (place : List Step) (parts : List PartTerm) → AllHold (numbered (part_claims program place parts) 0 parts)
    → HasCreditsTotal (length program.parameters) (map count_of parts)
parts-total program place [] h = (no_points, refl)
parts-total program place (part ∷ parts) h =
    let last : ℕ = length parts in
    let all : List PartTerm = part ∷ parts in
    let own : PartTerm = get_or all last part in
    let at : List Step = member_at place (codes "parts") last in
    let counts : List Claim = count_claims program own.nest own.count at in
    let total : List Claim = total_claim program at all last in
    let inside : List Claim = part_inside_claims program at own in
    let here = numbered-member (part_claims program place all) all last part (omega arith) h in
    let sum = AllHold-right counts total (AllHold-left (counts ++ total) inside (AllHold-left (counts ++ total ++ inside) (part_unit_claims program at own) here)) in
    subst (λ (ps : List PartTerm). HasCreditsTotal (length program.parameters) (map count_of ps)) (take-length all) sum.0

value-there : (program : AffineProgram) (trees : List (List SelectionTree)) (place : List Step) (term : TermClaim) → AllHold (term_claims program trees place term)
    → (value : Value) × IsValueOf program term value
value-there program trees place (cold claim sums) h =
    let at : List Step = place ++ Key (codes "cold") ∷ [] in
    let term : ColdTerm = cold_term claim sums in
    let count = claims-count program claim.nest term.count at
    (AllHold-left (count_claims program term.nest term.count at) (instance_claims program at (tree_for trees term.reader) term) h) in
    (values.Cold count.0, count.1)
value-there program trees place (partition term) h =
    let at : List Step = place ++ Key (codes "partition") ∷ [] in
    let counts : List Claim = count_claims program term.nest term.count at in
    let points : List Claim = point_claims program at term in
    let cover : List Claim = unit_claims at term ++ cover_claims at term in
    let families : List Claim = numbered (family_claims_at program trees at term) 0 term.families in
    let first : AllHold (counts ++ points) =
    AllHold-left (counts ++ points) cover (AllHold-left (counts ++ points ++ cover) families
    (AllHold-left (sound_claims program trees at term) (apart_claims term.shape program trees at term) h)) in
    let count = claims-count program term.nest term.count at (AllHold-left counts points first) in
    let credits = credits-total program at term.credits
    (AllHold-right (inside_claims program at term) (numbered (credit_claims program at term.credits) 0 term.credits) (AllHold-right counts points first)) in (
      values.Partition (record {
        count = count.0;
        credits = credits.0;
        a = term.a;
        b = term.b;
        q = term.q;
        m = weight_of term;
        num = factor_over term.shape term;
        den = factor_under term.shape term;
      }),
      record {
        count = count.1;
        credits = credits.1;
        numbers = record { a = refl; b = refl; q = refl; m = refl; num = refl; den = refl };
      },
    )
value-there program trees place (front claim sums outer_sums) h =
    let at : List Step = place ++ Key (codes "wavefront") ∷ [] in
    let term : WavefrontTerm = front_term claim sums outer_sums in
    let counts : List Claim = count_claims program term.nest term.count at in
    let outer : List Claim = sums_claims program (outer_nest term) outer_sums at (codes "outer_sums") in
    let both : AllHold (counts ++ outer) = AllHold-left (front_counts program at term) (wave_claims program at trees term) h in
    let pairs = claims-count program term.nest term.count at (AllHold-left counts outer both) in
    let fronts = sums-give (length program.parameters) (outer_nest term) outer_sums at (codes "outer_sums") (AllHold-right counts outer both) in
    (values.Wavefront pairs.0 fronts.0, (pairs.1, fronts.1))
value-there program trees place (joint term) h =
    let at : List Step = place ++ Key (codes "joint") ∷ [] in
    let parts : List Claim = parts_claims program at term in
    let images : List Claim = distinct_claims program at 0 term.parts term.distinct in
    let credited : List Claim = numbered (credit_claims program at term.credits) 0 term.credits in
    let cover : List Claim = joint_cover_claims at term in
    let families : List Claim = families_claims program trees at term in
    let points : AllHold (parts ++ images ++ credited ++ cover) =
    AllHold-left (parts ++ images ++ credited ++ cover) families (AllHold-left (parts ++ images ++ credited ++ cover ++ families) (apart_claims_of program trees at term) h) in
    let some : AllHold (parts ++ images ++ credited) = AllHold-left (parts ++ images ++ credited) cover points in
    let count = parts-total program at term.parts (AllHold-left parts images (AllHold-left (parts ++ images) credited some)) in
    let credits = credits-total program at term.credits (AllHold-right (parts ++ images) credited some) in
    let numbers = joint-numbers-there term in (
      values.Joint (record {
        count = count.0;
        credits = credits.0;
        a = numbers.0.a;
        b = numbers.0.b;
        q = numbers.0.q;
        m = numbers.0.m;
        num = numbers.0.num;
        den = numbers.0.den;
      }),
      record { count = count.1; credits = credits.1; numbers = numbers.1 },
    )

values-there : (program : AffineProgram) (trees : List (List SelectionTree)) (place : List Step) (index : ℕ) (terms : List TermClaim)
    → AllHold (numbered (term_claims_at program trees place) index terms) → (values : List Value) × AreValuesOf program terms values
values-there program trees place index [] h = ([], refl)
values-there program trees place index (term ∷ terms) h =
    let here : List Claim = term_claims_at program trees place index term in
    let others : List Claim = numbered (term_claims_at program trees place) (suc index) terms in
    let first = value-there program trees (place ++ Index index ∷ []) term (AllHold-left here others h) in
    let rest = values-there program trees place (suc index) terms (AllHold-right here others h) in
    (first.0 ∷ rest.0, (first.1, rest.1))

branches-there : (program : AffineProgram) (trees : List (List SelectionTree)) (index : ℕ) (branches : List BranchClaim)
    → AllHold (numbered (branch_claims program trees) index branches) → (values : List (List Value)) × AreBranchValues program branches values
branches-there program trees index [] h = ([], refl)
branches-there program trees index (branch ∷ branches) h =
    let here : List Claim = branch_claims program trees index branch in
    let others : List Claim = numbered (branch_claims program trees) (suc index) branches in
    let first = values-there program trees (terms_place index) 0 branch.terms
    (AllHold-left (terms_claims program trees (terms_place index) branch.terms) (disjoint_claims program trees index branch) (AllHold-left here others h)) in
    let rest = branches-there program trees (suc index) branches (AllHold-right here others h) in
    (first.0 ∷ rest.0, (first.1, rest.1))

-- ---- the laws

pub valid-certificates-stand : ValidCertificatesStand
valid-certificates-stand program certificate failed holds fails = accepted-stand (conditions program certificate) failed holds fails

pub valid-certificates-have-values : ValidCertificatesHaveValues
valid-certificates-have-values program certificate holds =
    let given = branches-there program certificate.trees 0 certificate.branches
    (AllHold-right (certificate_fit program certificate ++ rows_claims program 0 certificate.trees) (numbered (branch_claims program certificate.trees) 0 certificate.branches) holds) in
    (given.0, record { accepted = holds; valued = given.1 })

pub valid-certificates-give-one : ValidCertificatesGiveOne
valid-certificates-give-one program certificate one two h g = branches-same program certificate.branches one two h.valued g.valued

pub refusals-once : RefusalsAreOne
refusals-once program certificate one two f g = refused-one (conditions program certificate) one two f g
