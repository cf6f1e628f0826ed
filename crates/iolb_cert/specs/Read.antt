-- What the text of a certificate says, and which certificate it has.
use Rattle.std.specs.Prelude.{◌≡◌, ℕ, List}
use Rattle.iolb_model.specs.Form.{AffineForm}
use Rattle.iolb_model.specs.Polynomial.{Polynomial}
use Rattle.affine_form.specs.Matrix.{IntegerMatrix}
use Rattle.affine_form.specs.Multipliers.{FarkasMultipliers}
use Rattle.dep_quast.specs.Tree.{SelectionTree}
use Rattle.k_partition.specs.declared.term.Shape.{Shape}
use Rattle.k_partition.specs.Term.{PartitionTerm}
use Rattle.poly_tree.specs.Poly.{Quotient}
use Rattle.reuse_paths.specs.Families.{FamilyForms}
use Rattle.iolb_check.specs.Claims.{ColdClaim, FrontClaim, TermClaim, cold, partition, front, joint, BranchClaim, CertificateClaim}
use Rattle.certificate_parts.specs.Credits.{WrittenCredit}
use Rattle.json_parts.specs.Related.{AreAll}
use Rattle.certificate_parts.specs.Polynomials.{ArePolynomials}
use Rattle.joint_text.specs.Joint.{IsCreditTerm, IsJoint, WrittenJoint}

-- a cold term: what it claims, and its polynomials as they are written
pub record WrittenCold : Type 0 where
  pub claim : ColdClaim
  pub sums : List Polynomial

-- what a partition term claims, but for its polynomials and its credits
pub record PartitionClaim : Type 0 where
  pub statement : ℕ
  pub nest : List (AffineForm × AffineForm)
  pub shown : List FarkasMultipliers
  pub inside : List FarkasMultipliers
  pub matrix : IntegerMatrix
  pub inverse : IntegerMatrix
  pub q : ℕ
  pub shape : Shape
  pub a : ℕ
  pub b : ℕ
  pub families : List FamilyForms
  pub apart : List FarkasMultipliers

-- a partition term, with the polynomials of its points, and its credits
pub record WrittenPartition : Type 0 where
  pub claim : PartitionClaim
  pub sums : List Polynomial
  pub credits : List WrittenCredit

-- a wavefront term, with the polynomials of its points and those of its outer variables
pub record WrittenFront : Type 0 where
  pub claim : FrontClaim
  pub sums : List Polynomial
  pub outer_sums : List Polynomial

pub data WrittenTerm : Type 0 where
  as_cold : WrittenCold → WrittenTerm
  as_partition : WrittenPartition → WrittenTerm
  as_front : WrittenFront → WrittenTerm
  as_joint : WrittenJoint → WrittenTerm

pub record WrittenBranch : Type 0 where
  pub terms : List WrittenTerm
  pub disjoint : List FarkasMultipliers

pub record WrittenCertificate : Type 0 where
  pub branches : List WrittenBranch
  pub trees : List (List SelectionTree)

-- these claims with these polynomials are those that are written
pub record IsCold (written : WrittenCold) (claim : ColdClaim) (polynomials : List Quotient) : Type 0 where
  pub claims : claim ≡ written.claim
  pub sums : ArePolynomials written.sums polynomials

-- what is claimed of a partition term, but for its polynomials and its credits
abbrev pub claim_of_partition : PartitionTerm → PartitionClaim
claim_of_partition term = record {
  statement = term.statement;
  nest = term.nest;
  shown = term.count.shown;
  inside = term.inside;
  matrix = term.matrix;
  inverse = term.inverse;
  q = term.q;
  shape = term.shape;
  a = term.a;
  b = term.b;
  families = term.families;
  apart = term.apart;
}

pub record IsPartition (written : WrittenPartition) (term : PartitionTerm) : Type 0 where
  pub claims : claim_of_partition term ≡ written.claim
  pub sums : ArePolynomials written.sums term.count.sums
  pub credits : AreAll IsCreditTerm written.credits term.credits

pub record IsFront (written : WrittenFront) (claim : FrontClaim) (polynomials outer_polynomials : List Quotient) : Type 0 where
  pub claims : claim ≡ written.claim
  pub sums : ArePolynomials written.sums polynomials
  pub outer_sums : ArePolynomials written.outer_sums outer_polynomials

-- the term of the kind that is written, with what is written
abbrev pub IsTerm : WrittenTerm → TermClaim → Type 0
IsTerm (as_cold written) (cold claim sums) = IsCold written claim sums
IsTerm (as_partition written) (partition term) = IsPartition written term
IsTerm (as_front written) (front claim sums outer_sums) = IsFront written claim sums outer_sums
IsTerm (as_joint written) (joint term) = IsJoint written term
IsTerm (as_cold written) (partition term) = ⊥
IsTerm (as_cold written) (front claim sums outer_sums) = ⊥
IsTerm (as_cold written) (joint term) = ⊥
IsTerm (as_partition written) (cold claim sums) = ⊥
IsTerm (as_partition written) (front claim sums outer_sums) = ⊥
IsTerm (as_partition written) (joint term) = ⊥
IsTerm (as_front written) (cold claim sums) = ⊥
IsTerm (as_front written) (partition term) = ⊥
IsTerm (as_front written) (joint term) = ⊥
IsTerm (as_joint written) (cold claim sums) = ⊥
IsTerm (as_joint written) (partition term) = ⊥
IsTerm (as_joint written) (front claim sums outer_sums) = ⊥

-- the branch that is written
abbrev pub IsBranch : WrittenBranch → BranchClaim → Type 0
IsBranch written branch = AreAll IsTerm written.terms branch.terms × (branch.disjoint ≡ written.disjoint)

-- the certificate that is written
abbrev pub IsCertificate : WrittenCertificate → CertificateClaim → Type 0
IsCertificate written certificate = (certificate.trees ≡ written.trees) × AreAll IsBranch written.branches certificate.branches
