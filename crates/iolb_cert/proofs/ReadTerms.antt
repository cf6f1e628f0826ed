-- Terms that are written, read.
use Rattle.std.proofs.Common.{◌≡◌, ◌+◌, ◌≤◌, List, [], ◌∷◌, map, true, false, codes, None, Some, Ok, refl}
use Rattle.std.specs.Prelude.{Option, IfSome, option_map}
use Rattle.std.proofs.lemmas.Bool.{le-leb}
use Rattle.std.specs.List.{AllByRecursion}
use Rattle.certificate_fit.specs.Limits.{AreSmall, IsSmallEntry, IsSmallReach, IsSmallWay, IsSmallSpot}
use Rattle.k_partition.specs.declared.term.Shape.{Shape}
use Rattle.k_partition.specs.declared.term.Shape.TheVariants.{Each, Sum}
use Rattle.reuse_paths.specs.LeafClaims.{claim_of}
use Rattle.reuse_paths.specs.declared.leaf.Leaf.{Leaf}
use Rattle.reuse_paths.specs.declared.reach.Reach.{Reach}
use Rattle.reuse_paths.specs.declared.reach.Spot.{Spot}
use Rattle.reuse_paths.specs.Walks.{reach_of, spot_of}
use Rattle.serde_json.specs.Data.{Data}
use Rattle.json_parts.specs.Fields.{reads_object, object_shape}
use Rattle.json_parts.specs.Json.{has_keys}
use Rattle.json_parts.specs.Shape.{IsReadBack}
use Rattle.json_parts.proofs.Back.{tested_read}
use Rattle.certificate_parts.specs.Reaches.{reach_shape, spot_shape}
use Rattle.iolb_cert.specs.PartitionTexts.{reads_shape, name_shape, members_shape, has_events, partition_shape}
use Rattle.iolb_cert.specs.Read.{WrittenCold, WrittenPartition, WrittenFront, as_cold, as_partition, as_front, as_joint}
use Rattle.iolb_cert.specs.Terms.{cold_term_fields, partition_term_fields, front_term_fields, joint_term_fields, reads_term, term_shape}
use Rattle.joint_text.specs.Joint.{WrittenJoint}

pub shape_read : (shape : Shape) → IsReadBack name_shape shape
unfolding reads_shape
shape_read Each = refl
shape_read Sum = refl

pub partition_read : (said : WrittenPartition) → 1 ≤ said.claim.a + said.claim.b → IsReadBack members_shape said → IsReadBack partition_shape said
unfolding partition_shape
partition_read said some h = tested_read (codes "a") members_shape has_events said (le-leb 1 (said.claim.a + said.claim.b) some) h

-- ---- what is within the limits, as it is written

pub entries_fit : (leaves : List Leaf) → AllByRecursion IsSmallEntry (map claim_of leaves) → AllByRecursion (λ (leaf : Leaf). IsSmallEntry (claim_of leaf)) leaves
entries_fit [] h = tt
entries_fit (leaf ∷ leaves) h = (h.0, entries_fit leaves h.1)

pub way_fits : (way : Option Reach) → IsSmallWay (option_map reach_of way) → IfSome way (λ (reach : Reach). IsSmallReach (reach_of reach) × (reach_shape.is_present ≡ true))
way_fits None h = tt
way_fits (Some reach) h = (h, refl)

pub source_fits : (source : Option Spot) → IsSmallSpot (option_map spot_of source) → IfSome source (λ (spot : Spot). AreSmall spot.point.items × (spot_shape.is_present ≡ true))
unfolding spot_shape
source_fits None h = tt
source_fits (Some spot) h = (h, refl)

-- ---- terms, told by their keys

pub cold_told : (d : Data) (b : WrittenCold × Unit {0}) → has_keys (codes "cold" ∷ []) d ≡ true → reads_object cold_term_fields d ≡ Ok b → reads_term d ≡ Ok (as_cold b.0)
unfolding reads_term
cold_told d b keys read = rw (keys, read) refl

pub partition_told : (d : Data) (b : WrittenPartition × Unit {0}) → has_keys (codes "cold" ∷ []) d ≡ false → has_keys (codes "partition" ∷ []) d ≡ true → reads_object partition_term_fields d ≡ Ok b → reads_term d ≡ Ok (as_partition b.0)
unfolding reads_term
partition_told d b no_cold keys read = rw (no_cold, keys, read) refl

pub front_told : (d : Data) (b : WrittenFront × Unit {0}) → has_keys (codes "cold" ∷ []) d ≡ false → has_keys (codes "partition" ∷ []) d ≡ false → has_keys (codes "wavefront" ∷ []) d ≡ true → reads_object front_term_fields d ≡ Ok b
    → reads_term d ≡ Ok (as_front b.0)
unfolding reads_term
front_told d b no_cold no_partition keys read = rw (no_cold, no_partition, keys, read) refl

pub joint_told : (d : Data) (b : WrittenJoint × Unit {0}) → has_keys (codes "cold" ∷ []) d ≡ false → has_keys (codes "partition" ∷ []) d ≡ false → has_keys (codes "wavefront" ∷ []) d ≡ false → has_keys (codes "joint" ∷ []) d ≡ true
    → reads_object joint_term_fields d ≡ Ok b → reads_term d ≡ Ok (as_joint b.0)
unfolding reads_term
joint_told d b no_cold no_partition no_front keys read = rw (no_cold, no_partition, no_front, keys, read) refl

pub cold_term_read : (cold : WrittenCold) → IsReadBack (object_shape cold_term_fields) (cold, tt) → IsReadBack term_shape (as_cold cold)
unfolding reads_term has_keys
cold_term_read cold h = rw h refl

pub partition_term_read : (partition : WrittenPartition) → IsReadBack (object_shape partition_term_fields) (partition, tt) → IsReadBack term_shape (as_partition partition)
unfolding reads_term has_keys
partition_term_read partition h = rw h refl

pub front_term_read : (front : WrittenFront) → IsReadBack (object_shape front_term_fields) (front, tt) → IsReadBack term_shape (as_front front)
unfolding reads_term has_keys
front_term_read front h = rw h refl

pub joint_term_read : (joint : WrittenJoint) → IsReadBack (object_shape joint_term_fields) (joint, tt) → IsReadBack term_shape (as_joint joint)
unfolding reads_term has_keys
joint_term_read joint h = rw h refl
