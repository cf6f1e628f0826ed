-- How deep the values nest that are written of walks, and that they have no floats.
use Rattle.std.proofs.Common.{ℕ, zero, suc, ◌+◌, List, [], ◌∷◌, map, None, Some, refl, arith}
use Rattle.std.specs.Prelude.{Option}
use Rattle.std.specs.List.{AllByRecursion}
use Rattle.certificate_fit.specs.Limits.{IsNestedWalk, IsSmallRegion, IsSmallNode, IsSmallReach, IsSmallWay}
use Rattle.reuse_paths.specs.Walks.{WalkTree, take, test, WalkRegion, SpotForms, ReachClaim, same, walked}
use Rattle.certificate_parts.specs.Leaves.{leaf_data}
use Rattle.certificate_parts.specs.Walks.{walk_data}
use Rattle.certificate_parts.specs.Reaches.{region_shape, spot_shape, reach_data}
use Rattle.json_parts.specs.Written.{or_null}
use Rattle.certificate_parts.proofs.Plain.{IsPlain, more, plain-list, plain-map, plain-none, plain-member, plain-object, plain-one, plain-natural, plain-form, plain-forms, plain-all_multipliers, plain-leaf}

pub plain-walk : (nested : ℕ) (walk : WalkTree) → IsNestedWalk nested walk → IsPlain (nested + 5) (walk_data walk)
plain-walk nested (take read entries) h =
    more 5 (nested + 5) (walk_data (take read entries)) (omega arith)
    (plain-object 4 _ (plain-member 4 4 _ _ _ (omega arith) (plain-map 3 leaf_data entries plain-leaf) (plain-member 0 4 _ _ _ (omega arith) (plain-natural read) (plain-none 4))))
plain-walk zero (test form above below) h = absurd h
plain-walk (suc nested) (test form above below) h =
    more (suc (nested + 5)) (suc nested + 5) (walk_data (test form above below)) (omega arith)
    (plain-object (nested + 5) _ (plain-member 1 (nested + 5) _ _ _ (omega arith) (plain-form form)
    (plain-member (nested + 5) (nested + 5) _ _ _ (omega arith) (plain-walk nested below h.2)
    (plain-member (nested + 5) (nested + 5) _ _ _ (omega arith) (plain-walk nested above h.1) (plain-none (nested + 5))))))

plain-region : (region : WalkRegion) → IsSmallRegion region → IsPlain 22 (region_shape.data_of region)
unfolding region_shape
plain-region region h =
    plain-object 21 _ (plain-member 2 21 _ _ _ (omega arith) (plain-forms region.rows)
    (plain-member 21 21 _ _ _ (omega arith) (more (16 + 5) 21 (walk_data region.tree) (omega arith) (plain-walk 16 region.tree h.tree.nested)) (plain-none 21)))

pub plain-node : (node : Option WalkRegion) → IsSmallNode node → IsPlain 22 (or_null region_shape.data_of node)
plain-node None h = record { deep = omega arith; exact = refl }
plain-node (Some region) h = plain-region region h

pub plain-nodes : (nodes : List (Option WalkRegion)) → AllByRecursion IsSmallNode nodes → AllByRecursion (IsPlain 22) (map (or_null region_shape.data_of) nodes)
plain-nodes [] h = tt
plain-nodes (node ∷ nodes) h = (plain-node node h.0, plain-nodes nodes h.1)

pub plain-reach : (reach : ReachClaim) → IsSmallReach reach → IsPlain 24 (reach_data reach)
unfolding region_shape
plain-reach (same equal) h = more 3 24 (reach_data (same equal)) (omega arith) (plain-one 2 _ _ (plain-all_multipliers equal))
plain-reach (walked start nodes) h =
    plain-object 23 _ (plain-member 23 23 _ _ _ (omega arith) (plain-list 22 (map (or_null region_shape.data_of) nodes) (plain-nodes nodes h.1))
    (plain-member 2 23 _ _ _ (omega arith) (plain-all_multipliers start) (plain-none 23)))

pub plain-way : (way : Option ReachClaim) → IsSmallWay way → IsPlain 24 (or_null reach_data way)
plain-way None h = record { deep = omega arith; exact = refl }
plain-way (Some reach) h = plain-reach reach h

pub plain-spot : (spot : SpotForms) → IsPlain 3 (spot_shape.data_of spot)
unfolding spot_shape
plain-spot spot =
    plain-object 2 _ (plain-member 2 2 _ _ _ (omega arith) (plain-forms spot.point) (plain-member 0 2 _ _ _ (omega arith) (plain-natural spot.statement) (plain-none 2)))

pub plain-source : (source : Option SpotForms) → IsPlain 3 (or_null spot_shape.data_of source)
plain-source None = record { deep = omega arith; exact = refl }
plain-source (Some spot) = plain-spot spot
