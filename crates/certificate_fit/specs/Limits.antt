-- The limits of the parts of certificates. (Those of their types come before: multipliers are below 2^48, matrices at most 6
-- by 6 with entries of size below 2^20, forms over at most 24 variables, exponents at most 8.)
use Rattle.std.specs.Prelude.{ℕ, zero, suc, ◌<◌, ◌≤◌, ⊤, List, length, Option, None, Some}
use Rattle.std.specs.List.{AllByRecursion}
use Rattle.iolb_model.specs.Form.{AffineForm}
use Rattle.affine_form.specs.Form.{IsSmall, IsSmallForm}
use Rattle.affine_form.specs.Multipliers.{FarkasMultipliers}
use Rattle.poly_tree.specs.Expansion.{IsCanonical, coefficients}
use Rattle.poly_tree.specs.Poly.{Quotient, size}
use Rattle.dep_quast.specs.Tree.{SourceClaim, SelectionTree, leaf, test, leaf_count, Leaf as TreeLeaf, source, input, empty, blank}
use Rattle.reuse_paths.specs.LeafClaims.{LeafClaim, no_point, stops, is_credited, goes_on, arrives, claim_of}
use Rattle.reuse_paths.specs.Walks.{WalkTree, take, test as walk_test, entry_count, WalkRegion, SpotForms, ReachClaim, same, walked}
use Rattle.reuse_paths.specs.declared.leaf.Leaf.{Leaf}
use Rattle.reuse_paths.specs.Families.{NodeForms, FamilyForms}
use Rattle.reuse_paths.specs.declared.family.Credit.{Credit}
use Rattle.iolb_model.specs.declared.limits.TheConstants.{NUMBER_SIZE, COEFFICIENT_SIZE, MEASURE, ROWS, VARIABLES, TREE_TESTS, TREE_LEAVES, REGION_ROWS, SCALE, WEIGHT, NEST_VARIABLES}

-- ---- parts

-- forms whose numbers are of size below 2^20
abbrev pub AreSmall : List AffineForm → Type 0
AreSmall forms = AllByRecursion (IsSmallForm NUMBER_SIZE) forms

-- multipliers of rows below 128
abbrev pub NamesRows : FarkasMultipliers → Type 0
NamesRows shown = AllByRecursion (λ (weight : ℕ × ℕ). weight.0 < ROWS) shown.weights

abbrev pub NameRows : List FarkasMultipliers → Type 0
NameRows shown = AllByRecursion NamesRows shown

-- A polynomial over at most 24 variables, whose numbers and denominator are of size below 2^62, and its size below 2^126.
pub record IsSmallPolynomial (polynomial : Quotient) : Type 0 where
  pub variables : IsCanonical VARIABLES polynomial.tree
  pub numbers : AllByRecursion (IsSmall COEFFICIENT_SIZE) (coefficients polynomial.tree)
  pub over : polynomial.denominator < COEFFICIENT_SIZE
  pub light : size polynomial < MEASURE

-- ---- source trees

pub record IsSmallSource (claim : SourceClaim) : Type 0 where
  pub point : AreSmall claim.point
  pub inside : NameRows claim.inside
  pub cell : NameRows claim.cell
  pub before : NameRows claim.before
  pub between : NameRows claim.between

abbrev pub IsSmallTreeLeaf : TreeLeaf → Type 0
IsSmallTreeLeaf (source claim) = IsSmallSource claim
IsSmallTreeLeaf (input shown) = NameRows shown
IsSmallTreeLeaf (empty shown) = NamesRows shown
IsSmallTreeLeaf blank = ⊤

-- a tree whose tests are nested so many deep at most, its forms and leaves within their limits
abbrev pub IsNestedTree : ℕ → SelectionTree → Type 0
IsNestedTree nested (leaf chosen) = IsSmallTreeLeaf chosen
IsNestedTree zero (test form above below) = ⊥
IsNestedTree (suc nested) (test form above below) = IsSmallForm NUMBER_SIZE form × IsNestedTree nested above × IsNestedTree nested below

-- at most 16 nested tests, and at most 64 leaves
pub record IsSmallTree (tree : SelectionTree) : Type 0 where
  pub nested : IsNestedTree TREE_TESTS tree
  pub few : leaf_count tree ≤ TREE_LEAVES

-- bounds of a nest's variables whose numbers are of size below 2^20
abbrev pub AreSmallBounds : List (AffineForm × AffineForm) → Type 0
AreSmallBounds nest = AllByRecursion (λ (bounds : AffineForm × AffineForm). IsSmallForm NUMBER_SIZE bounds.0 × IsSmallForm NUMBER_SIZE bounds.1) nest

-- ---- claims at leaves

-- a claim at a leaf
abbrev pub IsSmallEntry : LeafClaim → Type 0
IsSmallEntry (no_point shown) = NamesRows shown
IsSmallEntry (stops label) = NameRows label
IsSmallEntry (is_credited credit rows label) = NameRows rows × NameRows label
IsSmallEntry (goes_on rows label) = NameRows rows × NameRows label
IsSmallEntry (arrives equal) = NameRows equal

-- ---- walks

-- a walk whose tests are nested so many deep at most, its forms and claims within their limits
abbrev pub IsNestedWalk : ℕ → WalkTree → Type 0
IsNestedWalk nested (take read entries) = AllByRecursion IsSmallEntry entries
IsNestedWalk zero (walk_test form above below) = ⊥
IsNestedWalk (suc nested) (walk_test form above below) = IsSmallForm NUMBER_SIZE form × IsNestedWalk nested above × IsNestedWalk nested below

-- at most 16 nested tests, and at most 64 claims at leaves
pub record IsSmallWalk (walk : WalkTree) : Type 0 where
  pub nested : IsNestedWalk TREE_TESTS walk
  pub few : entry_count walk ≤ TREE_LEAVES

-- a region: at most 16 rows
pub record IsSmallRegion (region : WalkRegion) : Type 0 where
  pub few : length region.rows ≤ REGION_ROWS
  pub rows : AreSmall region.rows
  pub tree : IsSmallWalk region.tree

abbrev pub IsSmallNode : Option WalkRegion → Type 0
IsSmallNode None = ⊤
IsSmallNode (Some region) = IsSmallRegion region

-- what shows that a walk arrives
abbrev pub IsSmallReach : ReachClaim → Type 0
IsSmallReach (same equal) = NameRows equal
IsSmallReach (walked start nodes) = NameRows start × AllByRecursion IsSmallNode nodes

abbrev pub IsSmallWay : Option ReachClaim → Type 0
IsSmallWay None = ⊤
IsSmallWay (Some reach) = IsSmallReach reach

abbrev pub IsSmallSpot : Option SpotForms → Type 0
IsSmallSpot None = ⊤
IsSmallSpot (Some spot) = AreSmall spot.point

-- ---- families

abbrev pub IsSmallLabel : Option (List AffineForm) → Type 0
IsSmallLabel None = ⊤
IsSmallLabel (Some label) = AreSmall label

-- what a family says of a statement
abbrev pub IsSmallFamilyNode : Option NodeForms → Type 0
IsSmallFamilyNode None = ⊤
IsSmallFamilyNode (Some node) = AreSmall node.label × IsSmallNode node.region

-- a family: a scale from 1 to 2^20, and a weight from 1 to 12
pub record IsSmallFamily (family : FamilyForms) : Type 0 where
  pub some_scale : 1 ≤ family.scale
  pub scale : family.scale ≤ SCALE
  pub some_weight : 1 ≤ family.weight
  pub weight : family.weight ≤ WEIGHT
  pub start_label : AreSmall family.start_label
  pub start : IsSmallWalk family.start
  pub nodes : AllByRecursion IsSmallFamilyNode family.nodes
  pub inputs : AllByRecursion IsSmallLabel family.inputs

-- a credited nest: at most 6 variables
pub record IsSmallCredit (credit : Credit) : Type 0 where
  pub variables : length credit.nest ≤ NEST_VARIABLES
  pub bounds : AreSmallBounds credit.nest
  pub shown : NameRows credit.sums.shown
  pub sums : AllByRecursion IsSmallPolynomial credit.sums.sums
