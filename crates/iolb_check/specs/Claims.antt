-- What a certificate claims: its parts as plain lists and trees.
use Rattle.std.specs.Prelude.{ℕ, List, map, Option, option_map}
use Rattle.iolb_model.specs.Form.{AffineForm}
use Rattle.affine_form.specs.Matrix.{IntegerMatrix}
use Rattle.affine_form.specs.Multipliers.{FarkasMultipliers}
use Rattle.poly_tree.specs.Poly.{Quotient}
use Rattle.dep_quast.specs.Tree.{SelectionTree}
use Rattle.joint_partition.specs.Term.{JointTerm}
use Rattle.joint_partition.specs.View.{joint_of}
use Rattle.k_partition.specs.Term.{PartitionTerm}
use Rattle.k_partition.specs.View.{partition_of}
use Rattle.reuse_paths.specs.LeafClaims.{LeafClaim, claim_of}
use Rattle.dep_quast.specs.Quasts.{trees_of}
use Rattle.reuse_paths.specs.Walks.{SpotForms, ReachClaim, spot_of, reach_of}
use Rattle.wavefront.specs.declared.cold.Cold.{Cold}
use Rattle.wavefront.specs.declared.front.Wavefront.{Wavefront}
use Rattle.wavefront.specs.FrontTerm.{WavefrontTerm}
use Rattle.wavefront.specs.Term.{ColdTerm}
use Rattle.iolb_check.specs.declared.term.Term.{Term}
use Rattle.iolb_check.specs.declared.term.Term.TheVariants as terms
use Rattle.iolb_check.specs.declared.term.Branch.{Branch}
use Rattle.iolb_check.specs.Limits.{CertificateParts}

-- what a cold term claims, but for its polynomials
pub record ColdClaim : Type 0 where
  pub statement : ℕ
  pub read : ℕ
  pub nest : List (AffineForm × AffineForm)
  pub shown : List FarkasMultipliers
  pub point : List AffineForm
  pub inside : List FarkasMultipliers
  pub matrix : IntegerMatrix
  pub scale : ℕ
  pub leaves : List LeafClaim

-- what a wavefront term claims, but for its polynomials
pub record FrontClaim : Type 0 where
  pub nest : List (AffineForm × AffineForm)
  pub outer : ℕ
  pub shown : List FarkasMultipliers
  pub vertex : SpotForms
  pub user : SpotForms
  pub read : ℕ
  pub source : Option SpotForms
  pub inside : List FarkasMultipliers
  pub matrix : IntegerMatrix
  pub scale : ℕ
  pub edge : List LeafClaim
  pub reach : Option ReachClaim
  pub back : ReachClaim

-- what a term claims, with its polynomials: those of a wavefront term's points, and those of its outer variables'
pub data TermClaim : Type 0 where
  cold : ColdClaim → List Quotient → TermClaim
  partition : PartitionTerm → TermClaim
  front : FrontClaim → List Quotient → List Quotient → TermClaim
  joint : JointTerm → TermClaim

-- a cold term of these claims with these polynomials
abbrev pub cold_term : ColdClaim → List Quotient → ColdTerm
cold_term claim sums = record {
  reader = record { statement = claim.statement; read = claim.read };
  nest = claim.nest;
  count = record { shown = claim.shown; sums = sums };
  point = claim.point;
  inside = claim.inside;
  matrix = claim.matrix;
  scale = claim.scale;
  leaves = claim.leaves;
}

-- a wavefront term of these claims with these polynomials
abbrev pub front_term : FrontClaim → List Quotient → List Quotient → WavefrontTerm
front_term claim sums outer_sums = record {
  nest = claim.nest;
  outer = claim.outer;
  count = record { shown = claim.shown; sums = sums };
  outer_sums = outer_sums;
  vertex = claim.vertex;
  user = claim.user;
  read = claim.read;
  source = claim.source;
  inside = claim.inside;
  matrix = claim.matrix;
  scale = claim.scale;
  edge = claim.edge;
  reach = claim.reach;
  back = claim.back;
}

pub record BranchClaim : Type 0 where
  pub terms : List TermClaim
  pub disjoint : List FarkasMultipliers

-- the source trees of each statement's reads, and the branches
pub record CertificateClaim : Type 0 where
  pub trees : List (List SelectionTree)
  pub branches : List BranchClaim

-- ---- what the parts of the code claim

abbrev pub claim_of_cold : Cold → ColdClaim
claim_of_cold term = record {
  statement = term.statement;
  read = term.read;
  nest = term.nest;
  shown = term.sums.shown;
  point = term.point.items;
  inside = term.inside.items;
  matrix = term.inverse.matrix;
  scale = term.inverse.scale;
  leaves = map claim_of term.leaves.items;
}

abbrev pub claim_of_front : Wavefront → FrontClaim
claim_of_front term = record {
  nest = term.nest;
  outer = term.outer;
  shown = term.sums.shown;
  vertex = spot_of term.vertex;
  user = spot_of term.user;
  read = term.read;
  source = option_map spot_of term.source;
  inside = term.inside.items;
  matrix = term.inverse.matrix;
  scale = term.inverse.scale;
  edge = map claim_of term.edge.items;
  reach = option_map reach_of term.reach;
  back = reach_of term.back;
}

abbrev pub claim_of_term : Term → TermClaim
claim_of_term (terms.Cold term) = cold (claim_of_cold term) term.sums.sums
claim_of_term (terms.Partition term) = partition (partition_of term)
claim_of_term (terms.Wavefront term) = front (claim_of_front term) term.sums.sums term.outer_sums.items
claim_of_term (terms.Joint term) = joint (joint_of term)

abbrev pub claim_of_branch : Branch → BranchClaim
claim_of_branch branch = record { terms = map claim_of_term branch.terms.items; disjoint = branch.disjoint.items }

abbrev pub claim_of_certificate : CertificateParts → CertificateClaim
claim_of_certificate parts = record { trees = trees_of parts.quasts; branches = map claim_of_branch parts.branches }
