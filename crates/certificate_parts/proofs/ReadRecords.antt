-- Records that are written, read.
use Rattle.std.proofs.Common.{◌≡◌, List, [], ◌∷◌, map, true, None, Some, refl, Vec, Global, arith}
use Rattle.std.specs.Prelude.{Box, Option, IfSome, option_map}
use Rattle.std.specs.List.{AllByRecursion}
use Rattle.std.proofs.lemmas.Bool.{le-leb}
use Rattle.iolb_model.specs.Form.{AffineForm}
use Rattle.iolb_model.specs.declared.limits.TheConstants.{FAMILIES, WEIGHTS}
use Rattle.certificate_fit.specs.Limits.{AreSmall, IsSmallLabel, IsSmallFamilyNode}
use Rattle.reuse_paths.specs.declared.family.FamilyNode.{FamilyNode}
use Rattle.reuse_paths.specs.Families.{FamilyForms, boxed_forms, boxed_node}
use Rattle.json_parts.specs.Fields.{object_shape}
use Rattle.json_parts.specs.Shape.{IsReadBack}
use Rattle.json_parts.proofs.Back.{one_to_most_read}
use Rattle.certificate_parts.specs.Credits.{WrittenCredit, credit_fields, credit_parts, credit_shape}
use Rattle.certificate_parts.specs.Families.{node_shape, IsSmallForms, family_fields, family_parts, family_shape, families_shape, weights_of, AreSmallFamilies}

pub credit_read : (credit : WrittenCredit) → IsReadBack (object_shape credit_fields) (credit_parts credit) → IsReadBack credit_shape credit
unfolding credit_shape
credit_read credit h = rw h refl

pub family_read : (family : FamilyForms) → IsReadBack (object_shape family_fields) (family_parts family) → IsReadBack family_shape family
unfolding family_shape
family_read family h = rw h refl

pub families_read : (families : List FamilyForms) → AreSmallFamilies families → AllByRecursion (IsReadBack family_shape) families → IsReadBack families_shape families
unfolding families_shape
families_read families small h =
    rw (
      one_to_most_read FAMILIES family_shape families small.few (λ none. omega (arith, none, small.some)) h,
      le-leb (weights_of families) WEIGHTS small.light,
    ) refl

-- ---- what is within the limits, as it is written

pub labels_fit : (labels : List (Option (Box (Vec AffineForm Global) Global))) → AllByRecursion IsSmallLabel (map (option_map boxed_forms) labels)
    → AllByRecursion (λ one. IfSome one (λ (label : Box (Vec AffineForm Global) Global). AreSmall (boxed_forms label) × (true ≡ true))) labels
labels_fit [] h = tt
labels_fit (None ∷ labels) h = (tt, labels_fit labels h.1)
labels_fit (Some label ∷ labels) h = ((h.0, refl), labels_fit labels h.1)

pub family_nodes_fit : (nodes : List (Option (Box FamilyNode Global))) → AllByRecursion IsSmallFamilyNode (map (option_map boxed_node) nodes)
    → AllByRecursion (λ one. IfSome one (λ (node : Box FamilyNode Global). IsSmallForms (boxed_node node) × (node_shape.is_present ≡ true))) nodes
unfolding node_shape
family_nodes_fit [] h = tt
family_nodes_fit (None ∷ nodes) h = (tt, family_nodes_fit nodes h.1)
family_nodes_fit (Some node ∷ nodes) h = ((record { label = h.0.0; region = h.0.1 }, refl), family_nodes_fit nodes h.1)
