-- How deep the values nest that are written of families and credited nests, and that they have no floats.
use Rattle.std.proofs.Common.{ℕ, ◌+◌, List, [], ◌∷◌, map, None, Some, refl, arith}
use Rattle.std.specs.Prelude.{Option}
use Rattle.std.specs.List.{AllByRecursion}
use Rattle.iolb_model.specs.Form.{AffineForm}
use Rattle.certificate_fit.specs.Limits.{IsSmallWalk, IsSmallFamilyNode, IsSmallFamily}
use Rattle.reuse_paths.specs.Families.{NodeForms, FamilyForms}
use Rattle.reuse_paths.specs.Walks.{WalkTree}
use Rattle.certificate_parts.specs.Credits.{WrittenCredit, credit_shape, credit_data, credits_data}
use Rattle.certificate_parts.specs.Families.{node_shape, start_shape, family_shape, families_shape, family_data, families_data}
use Rattle.json_parts.specs.Written.{list, natural, or_null}
use Rattle.certificate_parts.specs.Forms.{forms_shape}
use Rattle.certificate_parts.specs.Polynomials.{polynomial_data}
use Rattle.certificate_parts.specs.Walks.{walk_data}
use Rattle.certificate_parts.proofs.Plain.{IsPlain, more, plain-list, plain-map, plain-none, plain-member, plain-object, plain-natural, plain-forms, plain-all_multipliers, plain-nest, plain-polynomial}
use Rattle.certificate_parts.proofs.PlainWalks.{plain-walk, plain-node}

-- ---- families

pub plain-set : (set : List ℕ) → IsPlain 1 (list (map natural set))
plain-set set = plain-map 0 natural set plain-natural

plain-label : (label : Option (List AffineForm)) → IsPlain 2 (or_null forms_shape.data_of label)
plain-label None = record { deep = omega arith; exact = refl }
plain-label (Some label) = plain-forms label

pub plain-labels : (labels : List (Option (List AffineForm))) → IsPlain 3 (list (map (or_null forms_shape.data_of) labels))
plain-labels labels = plain-map 2 (or_null forms_shape.data_of) labels plain-label

plain-family_node : (node : Option NodeForms) → IsSmallFamilyNode node → IsPlain 23 (or_null node_shape.data_of node)
unfolding node_shape
plain-family_node None h = record { deep = omega arith; exact = refl }
plain-family_node (Some node) h =
    plain-object 22 _ (plain-member 2 22 _ _ _ (omega arith) (plain-forms node.label) (plain-member 22 22 _ _ _ (omega arith) (plain-node node.region h.1) (plain-none 22)))

plain-nodes : (nodes : List (Option NodeForms)) → AllByRecursion IsSmallFamilyNode nodes → IsPlain 24 (list (map (or_null node_shape.data_of) nodes))
plain-nodes nodes h = plain-list 23 (map (or_null node_shape.data_of) nodes) (all nodes h) where
  all : (ns : List (Option NodeForms)) → AllByRecursion IsSmallFamilyNode ns → AllByRecursion (IsPlain 23) (map (or_null node_shape.data_of) ns)
  all [] k = tt
  all (n ∷ ns) k = (plain-family_node n k.0, all ns k.1)

plain-start : (label : List AffineForm) (tree : WalkTree) → IsSmallWalk tree → IsPlain 22 (start_shape.data_of (label, tree))
unfolding start_shape
plain-start label tree h =
    plain-object 21 _ (plain-member 2 21 _ _ _ (omega arith) (plain-forms label)
    (plain-member 21 21 _ _ _ (omega arith) (more (16 + 5) 21 (walk_data tree) (omega arith) (plain-walk 16 tree h.nested)) (plain-none 21)))

plain-family : (family : FamilyForms) → IsSmallFamily family → IsPlain 25 (family_data family)
unfolding family_shape
plain-family family h =
    plain-object 24 _ (plain-member 3 24 _ _ _ (omega arith) (plain-labels family.inputs)
    (plain-member 24 24 _ _ _ (omega arith) (plain-nodes family.nodes h.nodes)
    (plain-member 0 24 _ _ _ (omega arith) (plain-natural family.scale)
    (plain-member 1 24 _ _ _ (omega arith) (plain-set family.set)
    (plain-member 22 24 _ _ _ (omega arith) (plain-start family.start_label family.start h.start)
    (plain-member 0 24 _ _ _ (omega arith) (plain-natural family.weight) (plain-none 24)))))))

pub plain-families : (families : List FamilyForms) → AllByRecursion IsSmallFamily families → IsPlain 26 (families_data families)
unfolding families_shape
plain-families families h = plain-list 25 (map family_data families) (all families h) where
  all : (fs : List FamilyForms) → AllByRecursion IsSmallFamily fs → AllByRecursion (IsPlain 25) (map family_data fs)
  all [] k = tt
  all (f ∷ fs) k = (plain-family f k.0, all fs k.1)

-- ---- credited nests

plain-credit : (credit : WrittenCredit) → IsPlain 5 (credit_data credit)
unfolding credit_shape
plain-credit credit =
    plain-object 4 _ (plain-member 3 4 _ _ _ (omega arith) (plain-nest credit.nest.nest)
    (plain-member 2 4 _ _ _ (omega arith) (plain-all_multipliers credit.shown)
    (plain-member 0 4 _ _ _ (omega arith) (plain-natural credit.nest.statement)
    (plain-member 4 4 _ _ _ (omega arith) (plain-map 3 polynomial_data credit.sums plain-polynomial) (plain-none 4)))))

pub plain-credits : (credits : List WrittenCredit) → IsPlain 6 (credits_data credits)
plain-credits credits = plain-map 5 credit_data credits plain-credit
