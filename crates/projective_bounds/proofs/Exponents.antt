-- The exponent of the whole domain's term is least, and no condition of a certificate fails.
use Rattle.std.proofs.Common.{◌≡◌, refl, sym, ◌∙◌, ap, ℕ, ◌+◌, ◌*◌, ◌≤◌, List, [], ◌∷◌, map, sum, arith}
use Rattle.std.specs.Prelude.{sum_by}
use Rattle.std.proofs.Math.Nat.{mul-le-mul_right}
use Rattle.std.proofs.lemmas.List.Sums.{sum_by-cons}
use Rattle.iolb_model.specs.Program.{AffineProgram}
use Rattle.claims.proofs.Laws.{accepted-stand}
use Rattle.cover_lp.proofs.Duality.{dual}
use Rattle.cover_lp.proofs.Reach.{pairs-in-reach}
use Rattle.affine_program.specs.Domain.{depth_of}
use Rattle.reuse_paths.specs.Families.{FamilyForms}
use Rattle.dep_quast.specs.Quasts.{trees_of}
use Rattle.k_partition.specs.Term.{PartitionTerm}
use Rattle.k_partition.specs.View.{partition_of}
use Rattle.iolb_check.specs.Claims.{claim_of_certificate}
use Rattle.iolb_check.specs.Conditions.{conditions}
use Rattle.projective.specs.Projective.{projection_sets}
use Rattle.projective_bounds.proofs.Small.{weights-all}
use Rattle.projective_bounds.specs.Certified.{family_weights}
use Rattle.projective_bounds.specs.Laws.{CertifiedAreAccepted, CertifiedHaveLeastExponents, CoversInReachHaveLeast}

weights-sum : (families : List FamilyForms) → sum (map (λ (family : FamilyForms). family.weight) families) ≡ sum_by (λ (family : FamilyForms). family.weight) families
weights-sum [] = refl
weights-sum (family ∷ families) =
    sum_by-cons (λ (n : ℕ). n) family.weight (map (λ (f : FamilyForms). f.weight) families)
    ∙ ap (λ (n : ℕ). family.weight + n) (weights-sum families)
    ∙ sym (sum_by-cons (λ (f : FamilyForms). f.weight) family families)

pub least : CertifiedHaveLeastExponents
least program certificate is other others some covers =
    let P : AffineProgram = program in
    let term : PartitionTerm = partition_of is.whole.term in
    let pair = is.cover.least.is_pair in
    let most : sum (family_weights term) ≤ sum is.weights =
    omega (
      arith,
      weights-sum term.families,
      ap (sum_by (λ (family : FamilyForms). family.weight)) is.whole.whole.families,
      weights-all P (trees_of certificate.quasts) 0 (projection_sets P) is.weights,
    ) in
    let scaled : sum (family_weights term) * other ≤ sum is.weights * other = mul-le-mul_right other most in
    let packed : sum is.packing * other ≤ is.q * sum others = dual (projection_sets P) (depth_of P 0) other is.q others is.packing covers pair.packs in
    omega (arith, scaled, packed, ap (λ (n : ℕ). n * other) pair.equal, ap (λ (n : ℕ). n * sum others) is.whole.whole.cover)

pub accepted : CertifiedAreAccepted
accepted program certificate is failed fails = accepted-stand (conditions program (claim_of_certificate certificate)) failed is.meets fails

-- the least pair is a least cover in reach
pub in-reach : CoversInReachHaveLeast
in-reach program has =
    let found = pairs-in-reach (projection_sets program) (depth_of program 0) has.q has.weights has.packing has.pair in
    (found.0, found.1, found.2, record { least = found.3; few = found.4.few; light = found.4.light })
