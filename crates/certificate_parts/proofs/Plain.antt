-- How deep the values nest that are written of parts, and that they have no floats.
use Rattle.std.proofs.Common.{◌≡◌, ℕ, zero, suc, ◌+◌, ◌≤◌, List, [], ◌∷◌, ◌++◌, map, false, refl, arith}
use Rattle.std.proofs.Math.IntN.{ℤ, pos, negsuc}
use Rattle.std.specs.List.{AllByRecursion}
use Rattle.iolb_model.specs.Form.{AffineForm}
use Rattle.iolb_model.specs.Polynomial.{Term, Polynomial}
use Rattle.affine_form.specs.Matrix.{IntegerMatrix}
use Rattle.affine_form.specs.Multipliers.{FarkasMultipliers}
use Rattle.dep_quast.specs.Tree.{Leaf, source, input, empty, blank, SelectionTree, leaf, test, tree_of}
use Rattle.dep_quast.specs.declared.quast.Quast.{Quast}
use Rattle.certificate_fit.specs.Limits.{IsNestedTree, IsSmallTree}
use Rattle.serde_json.specs.Data.{Data, Members, no_members, member, object, depth, members_depth}
use Rattle.serde_json.specs.Written.{has_float, members_have_float}
use Rattle.reuse_paths.specs.LeafClaims.{LeafClaim, no_point, stops, is_credited, goes_on, arrives}
use Rattle.json_parts.specs.Shape.{Shape}
use Rattle.json_parts.specs.Written.{list, whole, natural}
use Rattle.certificate_parts.specs.Forms.{form_data, forms_shape}
use Rattle.certificate_parts.specs.Inverses.{inverse_shape}
use Rattle.certificate_parts.specs.Matrices.{rows_of, row_data, matrix_data}
use Rattle.certificate_parts.specs.Multipliers.{weights_data, multipliers_data, all_multipliers_shape}
use Rattle.certificate_parts.specs.Nests.{pair_data, nest_shape}
use Rattle.certificate_parts.specs.Polynomials.{term_data, polynomial_data}
use Rattle.certificate_parts.specs.Leaves.{leaf_data}
use Rattle.certificate_parts.specs.Trees.{tree_data, trees_shape}

-- at most so many arrays and objects around each other, and no float
pub record IsPlain (n : ℕ) (d : Data) : Type 0 where
  pub deep : depth d ≤ n
  pub exact : has_float d ≡ false

pub record ArePlain (n : ℕ) (ms : Members) : Type 0 where
  pub deep : members_depth ms ≤ n
  pub exact : members_have_float ms ≡ false

pub more : (m n : ℕ) (d : Data) → m ≤ n → IsPlain m d → IsPlain n d
more m n d le h = record { deep = omega (arith, le, h.deep); exact = h.exact }

pub plain-list : (n : ℕ) (ds : List Data) → AllByRecursion (IsPlain n) ds → IsPlain (suc n) (list ds)
plain-list n [] h = record { deep = omega arith; exact = refl }
plain-list n (d ∷ ds) h = let rest = plain-list n ds h.1 in record { deep = omega (arith, h.0.deep, rest.deep); exact = rw (h.0.exact) rest.exact }

pub plain-map : {A : Type 0} (n : ℕ) (f : A → Data) (xs : List A) → ((x : A) → IsPlain n (f x)) → IsPlain (suc n) (list (map f xs))
plain-map {A = A} n f xs h = plain-list n (map f xs) (all xs) where
  all : (ys : List A) → AllByRecursion (IsPlain n) (map f ys)
  all [] = tt
  all (y ∷ ys) = (h y, all ys)

-- the parts of a list, each within its limits
pub plain-all : {A : Type 0} (n : ℕ) (shape : Shape A) → ((a : A) → shape.IsWithin a → IsPlain n (shape.data_of a)) → (all : List A) → AllByRecursion shape.IsWithin all → AllByRecursion (IsPlain n) (map shape.data_of all)
plain-all n shape one [] small = tt
plain-all n shape one (a ∷ all) small = (one a small.0, plain-all n shape one all small.1)

pub plain-none : (n : ℕ) → ArePlain n no_members
plain-none n = record { deep = omega arith; exact = refl }

pub plain-member : (m n : ℕ) (k : List ℕ) (d : Data) (ms : Members) → m ≤ n → IsPlain m d → ArePlain n ms → ArePlain n (member k d ms)
plain-member m n k d ms le h rest = record { deep = omega (arith, le, h.deep, rest.deep); exact = rw (h.exact) rest.exact }

pub plain-object : (n : ℕ) (ms : Members) → ArePlain n ms → IsPlain (suc n) (object ms)
plain-object n ms h = record { deep = omega (arith, h.deep); exact = h.exact }

-- an object with one member
pub plain-one : (n : ℕ) (k : List ℕ) (d : Data) → IsPlain n d → IsPlain (suc n) (object (member k d no_members))
plain-one n k d h = plain-object n (member k d no_members) (plain-member n n k d no_members (omega arith) h (plain-none n))

-- ---- parts

plain-whole : (z : ℤ) → IsPlain 0 (whole z)
plain-whole (pos n) = record { deep = omega arith; exact = refl }
plain-whole (negsuc n) = record { deep = omega arith; exact = refl }

pub plain-natural : (n : ℕ) → IsPlain 0 (natural n)
plain-natural n = record { deep = omega arith; exact = refl }

pub plain-form : (form : AffineForm) → IsPlain 1 (form_data form)
plain-form form = plain-map 0 whole (form.coefficients ++ form.constant ∷ []) plain-whole

pub plain-forms : (forms : List AffineForm) → IsPlain 2 (forms_shape.data_of forms)
plain-forms forms = plain-map 1 form_data forms plain-form

pub plain-multipliers : (shown : FarkasMultipliers) → IsPlain 1 (multipliers_data shown)
plain-multipliers shown = plain-list 0 (natural shown.scale ∷ natural shown.rest ∷ weights_data shown.weights) (plain-natural shown.scale, (plain-natural shown.rest, weights shown.weights)) where
  weights : (ws : List (ℕ × ℕ)) → AllByRecursion (IsPlain 0) (weights_data ws)
  weights [] = tt
  weights (w ∷ ws) = (plain-natural w.0, (plain-natural w.1, weights ws))

pub plain-all_multipliers : (all : List FarkasMultipliers) → IsPlain 2 (all_multipliers_shape.data_of all)
plain-all_multipliers all = plain-map 1 multipliers_data all plain-multipliers

pub plain-matrix : (matrix : IntegerMatrix) → IsPlain 2 (matrix_data matrix)
plain-matrix matrix = plain-map 1 row_data (rows_of matrix.rows matrix.columns matrix.cells) (λ row. plain-map 0 whole row plain-whole)

pub plain-inverse : (inverse : IntegerMatrix × ℕ) → IsPlain 3 (inverse_shape.data_of inverse)
unfolding inverse_shape
plain-inverse inverse = plain-object 2 _ (plain-member 2 2 _ _ _ (omega arith) (plain-matrix inverse.0) (plain-member 0 2 _ _ _ (omega arith) (plain-natural inverse.1) (plain-none 2)))

pub plain-nest : (nest : List (AffineForm × AffineForm)) → IsPlain 3 (nest_shape.data_of nest)
plain-nest nest = plain-map 2 pair_data nest (λ pair. plain-list 1 (form_data pair.0 ∷ form_data pair.1 ∷ []) (plain-form pair.0, (plain-form pair.1, tt)))

plain-term : (term : Term) → IsPlain 1 (term_data term)
plain-term term = plain-list 0 (whole term.coefficient ∷ map natural term.exponents) (plain-whole term.coefficient, all term.exponents) where
  all : (es : List ℕ) → AllByRecursion (IsPlain 0) (map natural es)
  all [] = tt
  all (e ∷ es) = (plain-natural e, all es)

pub plain-polynomial : (polynomial : Polynomial) → IsPlain 3 (polynomial_data polynomial)
plain-polynomial polynomial =
    plain-object 2 _ (plain-member 0 2 _ _ _ (omega arith) (plain-natural polynomial.denominator)
    (plain-member 2 2 _ _ _ (omega arith) (plain-map 1 term_data polynomial.terms plain-term) (plain-none 2)))

pub plain-leaf : (claim : LeafClaim) → IsPlain 3 (leaf_data claim)
plain-leaf (no_point shown) = plain-one 2 _ _ (more 1 2 _ (omega arith) (plain-multipliers shown))
plain-leaf (stops label) = plain-one 2 _ _ (plain-all_multipliers label)
plain-leaf (is_credited credit rows label) =
    plain-object 2 _ (plain-member 0 2 _ _ _ (omega arith) (plain-natural credit)
    (plain-member 2 2 _ _ _ (omega arith) (plain-all_multipliers label) (plain-member 2 2 _ _ _ (omega arith) (plain-all_multipliers rows) (plain-none 2))))
plain-leaf (goes_on rows label) =
    plain-object 2 _ (plain-member 2 2 _ _ _ (omega arith) (plain-all_multipliers label) (plain-member 2 2 _ _ _ (omega arith) (plain-all_multipliers rows) (plain-none 2)))
plain-leaf (arrives equal) = plain-one 2 _ _ (plain-all_multipliers equal)

-- ---- trees

plain-tree_leaf : (chosen : Leaf) → IsPlain 3 (tree_data (leaf chosen))
plain-tree_leaf (source claim) =
    plain-object 2 _ (plain-member 2 2 _ _ _ (omega arith) (plain-all_multipliers claim.before)
    (plain-member 2 2 _ _ _ (omega arith) (plain-all_multipliers claim.between)
    (plain-member 2 2 _ _ _ (omega arith) (plain-all_multipliers claim.cell)
    (plain-member 2 2 _ _ _ (omega arith) (plain-all_multipliers claim.inside)
    (plain-member 0 2 _ _ _ (omega arith) (plain-natural claim.level)
    (plain-member 2 2 _ _ _ (omega arith) (plain-forms claim.point)
    (plain-member 0 2 _ _ _ (omega arith) (plain-natural claim.statement) (plain-none 2))))))))
plain-tree_leaf (input earlier) = plain-one 2 _ _ (plain-all_multipliers earlier)
plain-tree_leaf (empty shown) = plain-one 2 _ _ (more 1 2 _ (omega arith) (plain-multipliers shown))
plain-tree_leaf blank = record { deep = omega arith; exact = refl }

plain-tree : (nested : ℕ) (tree : SelectionTree) → IsNestedTree nested tree → IsPlain (nested + 3) (tree_data tree)
plain-tree nested (leaf chosen) h = more 3 (nested + 3) (tree_data (leaf chosen)) (omega arith) (plain-tree_leaf chosen)
plain-tree zero (test form above below) h = absurd h
plain-tree (suc nested) (test form above below) h =
    more (suc (nested + 3)) (suc nested + 3) (tree_data (test form above below)) (omega arith)
    (plain-object (nested + 3) _ (plain-member 1 (nested + 3) _ _ _ (omega arith) (plain-form form)
    (plain-member (nested + 3) (nested + 3) _ _ _ (omega arith) (plain-tree nested below h.2)
    (plain-member (nested + 3) (nested + 3) _ _ _ (omega arith) (plain-tree nested above h.1) (plain-none (nested + 3))))))

pub plain-trees : (row : List Quast) → AllByRecursion (λ (quast : Quast). IsSmallTree (tree_of quast)) row → IsPlain 20 (trees_shape.data_of (map tree_of row))
plain-trees row h = plain-list 19 (map tree_data (map tree_of row)) (all row h) where
  all : (quasts : List Quast) → AllByRecursion (λ (quast : Quast). IsSmallTree (tree_of quast)) quasts → AllByRecursion (IsPlain 19) (map tree_data (map tree_of quasts))
  all [] k = tt
  all (quast ∷ quasts) k = (more (16 + 3) 19 (tree_data (tree_of quast)) (omega arith) (plain-tree 16 (tree_of quast) k.0.nested), all quasts k.1)
