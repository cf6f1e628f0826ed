-- How deep the values nest that are written of joint terms, and that they have no floats.
use Rattle.std.proofs.Common.{ℕ, zero, suc, ◌+◌, List, map, arith}
use Rattle.std.specs.List.{AllByRecursion}
use Rattle.certificate_parts.specs.Polynomials.{polynomial_data}
use Rattle.certificate_parts.proofs.Plain.{IsPlain, more, plain-all, plain-all_multipliers, plain-form, plain-forms, plain-inverse, plain-list, plain-map, plain-member, plain-multipliers, plain-natural, plain-nest, plain-none, plain-object, plain-one, plain-polynomial}
use Rattle.certificate_parts.proofs.PlainFamilies.{plain-credits, plain-labels, plain-set}
use Rattle.certificate_parts.proofs.PlainWalks.{plain-nodes, plain-walk}
use Rattle.certificate_parts.specs.Reaches.{region_shape}
use Rattle.certificate_parts.specs.Walks.{walk_data}
use Rattle.json_parts.specs.Written.{or_null}
use Rattle.joint_partition.specs.Limits.{IsNestedSplit, IsSmallJointFamily, IsSmallSplit, IsSmallStart, IsSmallWay}
use Rattle.joint_partition.specs.Splits.{SplitTree, empty, split}
use Rattle.joint_partition.specs.Term.{JointFamily, LabelForms, StartTerm, WayTerm}
use Rattle.joint_text.specs.Families.{families_shape, family_shape, labeling_shape, start_shape, way_shape}
use Rattle.joint_text.specs.Joint.{WrittenJoint, joint_shape, members_shape}
use Rattle.joint_text.specs.Parts.{WrittenPart, part_shape}
use Rattle.joint_text.specs.Splits.{split_data, split_shape}

plain-split : (nested : ℕ) (tree : SplitTree) → IsNestedSplit nested tree → IsPlain (nested + 2) (split_data tree)
plain-split nested (empty shown) h = more 2 (nested + 2) (split_data (empty shown)) (omega arith) (plain-one 1 _ _ (plain-multipliers shown))
plain-split zero (split form above below) h = absurd h
plain-split (suc nested) (split form above below) h =
    more (suc (nested + 2)) (suc nested + 2) (split_data (split form above below)) (omega arith)
    (plain-object (nested + 2) _ (plain-member 1 (nested + 2) _ _ _ (omega arith) (plain-form form)
    (plain-member (nested + 2) (nested + 2) _ _ _ (omega arith) (plain-split nested below h.2)
    (plain-member (nested + 2) (nested + 2) _ _ _ (omega arith) (plain-split nested above h.1) (plain-none (nested + 2))))))

plain-small_split : (tree : SplitTree) → IsSmallSplit tree → IsPlain 18 (split_data tree)
plain-small_split tree small = more (16 + 2) 18 (split_data tree) (omega arith) (plain-split 16 tree small.nested)

plain-part : (part : WrittenPart) → IsPlain 5 (part_shape.data_of part)
unfolding part_shape
plain-part part =
    plain-object 4 _ (plain-member 2 4 _ _ _ (omega arith) (plain-all_multipliers part.inside)
    (plain-member 3 4 _ _ _ (omega arith) (plain-inverse (part.matrix, part.scale))
    (plain-member 2 4 _ _ _ (omega arith) (plain-forms part.image)
    (plain-member 3 4 _ _ _ (omega arith) (plain-nest part.nest)
    (plain-member 2 4 _ _ _ (omega arith) (plain-all_multipliers part.shown)
    (plain-member 0 4 _ _ _ (omega arith) (plain-natural part.statement)
    (plain-member 4 4 _ _ _ (omega arith) (plain-map 3 polynomial_data part.sums plain-polynomial) (plain-none 4))))))))

-- ---- families

plain-labeling : (labels : LabelForms) → IsPlain 4 (labeling_shape.data_of labels)
unfolding labeling_shape
plain-labeling labels =
    plain-object 3 _ (plain-member 3 3 _ _ _ (omega arith) (plain-labels labels.inputs) (plain-member 3 3 _ _ _ (omega arith) (plain-labels labels.nodes) (plain-none 3)))

plain-way : (way : WayTerm) → IsSmallWay way → IsPlain 24 (way_shape.data_of way)
unfolding way_shape
plain-way way small =
    plain-object 23 _ (plain-member 0 23 _ _ _ (omega arith) (plain-natural way.labels)
    (plain-member 23 23 _ _ _ (omega arith) (plain-list 22 (map (or_null region_shape.data_of) way.regions) (plain-nodes way.regions small)) (plain-none 23)))

plain-start : (start : StartTerm) → IsSmallStart start → IsPlain 22 (start_shape.data_of start)
unfolding start_shape
plain-start start small =
    plain-object 21 _ (plain-member 21 21 _ _ _ (omega arith) (more (16 + 5) 21 (walk_data start.tree) (omega arith) (plain-walk 16 start.tree small.nested))
    (plain-member 0 21 _ _ _ (omega arith) (plain-natural start.way) (plain-none 21)))

plain-starts : (starts : List StartTerm) → AllByRecursion IsSmallStart starts → AllByRecursion (IsPlain 22) (map start_shape.data_of starts)
unfolding start_shape
plain-starts starts small = plain-all 22 start_shape plain-start starts small

plain-ways : (ways : List WayTerm) → AllByRecursion IsSmallWay ways → AllByRecursion (IsPlain 24) (map way_shape.data_of ways)
unfolding way_shape
plain-ways ways small = plain-all 24 way_shape plain-way ways small

plain-family : (family : JointFamily) → IsSmallJointFamily family → IsPlain 26 (family_shape.data_of family)
unfolding family_shape
plain-family family small =
    plain-object 25 _ (plain-member 0 25 _ _ _ (omega arith) (plain-natural family.group)
    (plain-member 5 25 _ _ _ (omega arith) (plain-map 4 labeling_shape.data_of family.labels plain-labeling)
    (plain-member 0 25 _ _ _ (omega arith) (plain-natural family.scale)
    (plain-member 1 25 _ _ _ (omega arith) (plain-set family.set)
    (plain-member 23 25 _ _ _ (omega arith) (plain-list 22 (map start_shape.data_of family.starts) (plain-starts family.starts small.starts))
    (plain-member 25 25 _ _ _ (omega arith) (plain-list 24 (map way_shape.data_of family.ways) (plain-ways family.ways small.ways))
    (plain-member 0 25 _ _ _ (omega arith) (plain-natural family.weight) (plain-none 25))))))))

plain-families : (families : List JointFamily) → AllByRecursion IsSmallJointFamily families → IsPlain 27 (families_shape.data_of families)
unfolding families_shape family_shape
plain-families families small = plain-list 26 (map family_shape.data_of families) (plain-all 26 family_shape plain-family families small)

-- ---- the term

pub plain-joint : (joint : WrittenJoint) → joint_shape.IsWithin joint → IsPlain 28 (joint_shape.data_of joint)
unfolding joint_shape members_shape families_shape
plain-joint joint small =
    plain-object 27 _ (plain-member 0 27 _ _ _ (omega arith) (plain-natural joint.a)
    (plain-member 2 27 _ _ _ (omega arith) (plain-all_multipliers joint.apart)
    (plain-member 0 27 _ _ _ (omega arith) (plain-natural joint.b)
    (plain-member 6 27 _ _ _ (omega arith) (plain-credits joint.credits)
    (plain-member 19 27 _ _ _ (omega arith) (plain-list 18 (map split_data joint.distinct) (plain-all 18 split_shape plain-small_split joint.distinct small.0.1.1.1.1.0))
    (plain-member 27 27 _ _ _ (omega arith) (plain-families joint.families small.0.1.1.1.1.1.0.some.all)
    (plain-member 6 27 _ _ _ (omega arith) (plain-map 5 part_shape.data_of joint.parts plain-part)
    (plain-member 0 27 _ _ _ (omega arith) (plain-natural joint.q) (plain-none 27)))))))))
