-- The limits of certificates, beside those of their parts.
use Rattle.std.specs.Prelude.{◌+◌, ◌≤◌, List, length, map, option_map}
use Rattle.std.specs.List.{AllByRecursion}
use Rattle.dep_quast.specs.Tree.{tree_of}
use Rattle.joint_partition.specs.Limits.{IsSmallJoint}
use Rattle.k_partition.specs.declared.term.Partition.{Partition}
use Rattle.k_partition.specs.TermLoads.{weight_of}
use Rattle.k_partition.specs.View.{partition_of}
use Rattle.reuse_paths.specs.Families.{family_of}
use Rattle.reuse_paths.specs.LeafClaims.{claim_of}
use Rattle.dep_quast.specs.declared.quasts.Quasts.{Quasts}
use Rattle.reuse_paths.specs.Walks.{spot_of, reach_of}
use Rattle.certificate_fit.specs.Limits.{AreSmall, AreSmallBounds, NameRows, IsSmallPolynomial, IsSmallTree, IsSmallCredit, IsSmallEntry, IsSmallFamily, IsSmallReach, IsSmallSpot, IsSmallWay}
use Rattle.wavefront.specs.declared.cold.Cold.{Cold}
use Rattle.wavefront.specs.declared.front.Wavefront.{Wavefront}
use Rattle.iolb_check.specs.declared.term.Term.{Term}
use Rattle.iolb_check.specs.declared.term.Term.TheVariants as terms
use Rattle.iolb_check.specs.declared.term.Branch.{Branch}
use Rattle.iolb_model.specs.declared.limits.TheConstants.{NEST_VARIABLES, SCALE, TERMS, BRANCHES, WEIGHT, WEIGHTS, STRETCH, STRETCH_MORE, CREDITS, FAMILIES}

-- ---- terms

-- a cold term: at most 6 variables, and a scale from 1 to 2^20
pub record IsSmallCold (cold : Cold) : Type 0 where
  pub variables : length cold.nest ≤ NEST_VARIABLES
  pub bounds : AreSmallBounds cold.nest
  pub shown : NameRows cold.sums.shown
  pub sums : AllByRecursion IsSmallPolynomial cold.sums.sums
  pub point : AreSmall cold.point.items
  pub inside : NameRows cold.inside.items
  pub some_scale : 1 ≤ cold.inverse.scale
  pub scale : cold.inverse.scale ≤ SCALE
  pub leaves : AllByRecursion IsSmallEntry (map claim_of cold.leaves.items)

-- a wavefront term: the same limits, and those of its spots and walks
pub record IsSmallFront (front : Wavefront) : Type 0 where
  pub variables : length front.nest ≤ NEST_VARIABLES
  pub bounds : AreSmallBounds front.nest
  pub shown : NameRows front.sums.shown
  pub sums : AllByRecursion IsSmallPolynomial front.sums.sums
  pub outer_sums : AllByRecursion IsSmallPolynomial front.outer_sums.items
  pub vertex : AreSmall front.vertex.point.items
  pub user : AreSmall front.user.point.items
  pub source : IsSmallSpot (option_map spot_of front.source)
  pub inside : NameRows front.inside.items
  pub some_scale : 1 ≤ front.inverse.scale
  pub scale : front.inverse.scale ≤ SCALE
  pub edge : AllByRecursion IsSmallEntry (map claim_of front.edge.items)
  pub reach : IsSmallWay (option_map reach_of front.reach)
  pub back : IsSmallReach (reach_of front.back)

-- A partition term: at most 6 variables; a cover of 1 to 12 times; a from 0 to 64 and b from 0 to 2^20, not both 0; at most 4
-- credits, and 1 to 6 families, of weights that are 24 together at most.
pub record IsSmallPartition (partition : Partition) : Type 0 where
  pub variables : length partition.nest ≤ NEST_VARIABLES
  pub bounds : AreSmallBounds partition.nest
  pub shown : NameRows partition.sums.shown
  pub sums : AllByRecursion IsSmallPolynomial partition.sums.sums
  pub inside : NameRows partition.inside.items
  pub some_q : 1 ≤ partition.q
  pub q : partition.q ≤ WEIGHT
  pub a : partition.a ≤ STRETCH
  pub b : partition.b ≤ STRETCH_MORE
  pub some_events : 1 ≤ partition.a + partition.b
  pub few_credits : length partition.credits.items ≤ CREDITS
  pub credits : AllByRecursion IsSmallCredit partition.credits.items
  pub some_families : 1 ≤ length partition.families.items
  pub few_families : length partition.families.items ≤ FAMILIES
  pub families : AllByRecursion IsSmallFamily (map family_of partition.families.items)
  pub weights : weight_of (partition_of partition) ≤ WEIGHTS
  pub apart : NameRows partition.apart.items

abbrev pub IsSmallTerm : Term → Type 0
IsSmallTerm (terms.Cold cold) = IsSmallCold cold
IsSmallTerm (terms.Partition partition) = IsSmallPartition partition
IsSmallTerm (terms.Wavefront front) = IsSmallFront front
IsSmallTerm (terms.Joint joint) = IsSmallJoint joint

-- a branch: 16 terms at most
pub record IsSmallBranch (branch : Branch) : Type 0 where
  pub few : length branch.terms.items ≤ TERMS
  pub terms : AllByRecursion IsSmallTerm branch.terms.items
  pub disjoint : NameRows branch.disjoint.items

-- ---- certificates

-- the parts of a certificate
pub record CertificateParts : Type 0 where
  pub quasts : Quasts
  pub branches : List Branch

-- a certificate is within its limits: each tree and each branch is, and there are at most 8 branches
pub record IsWithinLimits (parts : CertificateParts) : Type 0 where
  pub trees : AllByRecursion (λ row. AllByRecursion (λ quast. IsSmallTree (tree_of quast)) row.items) parts.quasts.rows.items
  pub few : length parts.branches ≤ BRANCHES
  pub branches : AllByRecursion IsSmallBranch parts.branches
