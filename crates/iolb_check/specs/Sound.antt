-- What an accepted certificate says of its terms.
use Rattle.std.specs.Prelude.{List, map}
use Rattle.std.specs.List.{AllByRecursion, AllZip}
use Rattle.iolb_model.specs.Footprint.{AreApartFootprints, CostsItsValue, Footprint}
use Rattle.affine_program.specs.Parts.{ProgramParts, meaning}
use Rattle.domain_count.specs.Count.{CountsPoints}
use Rattle.joint_partition.specs.JointCounts.{CountsCredited, CountsImages}
use Rattle.joint_partition.specs.JointLoads.{joint_footprint}
use Rattle.joint_partition.specs.JointWords.{AreGroupsApartWhere, IsSoundJointTerm}
use Rattle.joint_partition.specs.View.{joint_of}
use Rattle.k_partition.specs.PartitionPieces.{CountsCredits}
use Rattle.k_partition.specs.ReusedWords.{IsSoundTerm}
use Rattle.k_partition.specs.TermLoads.{AreApartWhere, term_footprint}
use Rattle.k_partition.specs.View.{partition_of}
use Rattle.wavefront.specs.Fronts.{IsSoundFront, front_footprint}
use Rattle.wavefront.specs.FrontTerm.{outer_nest}
use Rattle.wavefront.specs.Loads.{IsSoundCold, footprint_of as cold_footprint}
use Rattle.wavefront.specs.View.{front_of, term_of as cold_of}
use Rattle.iolb_check.specs.declared.bound.Value.{Value}
use Rattle.iolb_check.specs.declared.bound.Value.TheVariants as values
use Rattle.iolb_check.specs.declared.term.Term.{Term}
use Rattle.iolb_check.specs.declared.term.Term.TheVariants as terms
use Rattle.iolb_check.specs.declared.term.Branch.{Branch}
use Rattle.iolb_check.specs.Bounds.{term_of}

-- A term is sound at all admitted parameter values, of any size. The points of a cold term are instances which read
-- different input cells; those of a partition term are instances, its families' walks keep their labels and its sets cover
-- the coordinates, and no two families have a word in common where its shape asks for it; the vertices of a wavefront term
-- are instances, and its words are there when they are computed and are used behind them. The points of a joint term are instances
-- with different images, its families' walks keep their labels and its sets cover the coordinates, and no two families of different
-- groups have a word in common.
abbrev pub IsSound : ProgramParts → Term → Type 0
IsSound program (terms.Cold cold) = IsSoundCold (meaning program) (cold_of cold)
IsSound program (terms.Partition partition) = IsSoundTerm (meaning program) (partition_of partition) × AreApartWhere (meaning program) (partition_of partition)
IsSound program (terms.Wavefront front) = IsSoundFront (meaning program) (front_of front)
IsSound program (terms.Joint joint) = IsSoundJointTerm (meaning program) (joint_of joint) × AreGroupsApartWhere (meaning program) (joint_of joint)

-- The footprint of a term, by its kind: the vertices of the input cells that a cold term's points read, of the words that a
-- partition or joint term's families take, and of a wavefront term's words.
abbrev pub term_vertices : ProgramParts → Term → Footprint
term_vertices program (terms.Cold cold) = cold_footprint (meaning program) (cold_of cold)
term_vertices program (terms.Partition partition) = term_footprint (meaning program) (partition_of partition)
term_vertices program (terms.Wavefront front) = front_footprint (meaning program) (front_of front)
term_vertices program (terms.Joint joint) = joint_footprint (meaning program) (joint_of joint)

-- at all admitted parameter values the footprints of a branch's terms are pairwise disjoint
abbrev pub AreApartTerms : ProgramParts → Branch → Type 0
AreApartTerms program branch = AreApartFootprints (meaning program) (map (term_vertices program) branch.terms.items)

-- A branch is sound: each of its terms is, and no two of them have a vertex of their footprints in common.
pub record IsSoundBranch (program : ProgramParts) (branch : Branch) : Type 0 where
  pub terms : AllByRecursion (IsSound program) branch.terms.items
  pub apart : AreApartTerms program branch

-- ---- of the values that it is given

-- A term costs its value in loads of its footprint.
abbrev pub IsPaid : ProgramParts → Term → Value → Type 0
IsPaid program term value = CostsItsValue (meaning program) (term_of value) (term_vertices program term)

-- The counts of a term's value are numbers of points at all admitted parameter values, of any size: of the nest of a cold
-- term; of that of a partition term, and of its credits' nests together; of that of a wavefront term, and of its outer
-- variables; and of the nests of a joint term's parts together, and of its credits' nests.
abbrev pub IsCounted : ProgramParts → Term → Value → Type 0
IsCounted program (terms.Cold cold) (values.Cold count) = CountsPoints (meaning program) cold.nest count
IsCounted program (terms.Cold cold) (values.Partition bound) = ⊥
IsCounted program (terms.Cold cold) (values.Wavefront pairs outer) = ⊥
IsCounted program (terms.Cold cold) (values.Joint bound) = ⊥
IsCounted program (terms.Partition partition) (values.Cold count) = ⊥
IsCounted program (terms.Partition partition) (values.Partition bound) =
    CountsPoints (meaning program) partition.nest bound.count × CountsCredits (meaning program) (partition_of partition) bound.credits
IsCounted program (terms.Partition partition) (values.Wavefront pairs outer) = ⊥
IsCounted program (terms.Partition partition) (values.Joint bound) = ⊥
IsCounted program (terms.Wavefront front) (values.Cold count) = ⊥
IsCounted program (terms.Wavefront front) (values.Partition bound) = ⊥
IsCounted program (terms.Wavefront front) (values.Wavefront pairs outer) =
    CountsPoints (meaning program) front.nest pairs × CountsPoints (meaning program) (outer_nest (front_of front)) outer
IsCounted program (terms.Wavefront front) (values.Joint bound) = ⊥
IsCounted program (terms.Joint joint) (values.Cold count) = ⊥
IsCounted program (terms.Joint joint) (values.Partition bound) = ⊥
IsCounted program (terms.Joint joint) (values.Wavefront pairs outer) = ⊥
IsCounted program (terms.Joint joint) (values.Joint bound) =
    CountsImages (meaning program) (joint_of joint) bound.count × CountsCredited (meaning program) (joint_of joint) bound.credits

-- the values of a branch are, one for each of its terms
abbrev pub ArePaid : ProgramParts → Branch → List Value → Type 0
ArePaid program branch values = AllZip (IsPaid program) branch.terms.items values

abbrev pub AreCounted : ProgramParts → Branch → List Value → Type 0
AreCounted program branch values = AllZip (IsCounted program) branch.terms.items values
