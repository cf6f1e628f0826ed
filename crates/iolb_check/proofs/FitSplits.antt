-- Where what is asked of splits holds, they fit the pairs of parts.
use Rattle.std.proofs.Common.{◌≡◌, subst, ℕ, zero, suc, ◌≤◌, max, List, [], ◌∷◌, ◌++◌, drop, length, map, arith}
use Rattle.std.specs.Prelude.{codes}
use Rattle.std.specs.List.{AllByRecursion, AllZip}
use Rattle.iolb_model.specs.Program.{AffineProgram}
use Rattle.iolb_model.specs.declared.limits.TheConstants.{TREE_TESTS}
use Rattle.claims.specs.Claims.{Claim, AllHold}
use Rattle.claims.specs.declared.place.Step.{Step}
use Rattle.claims.specs.declared.place.Step.TheVariants.{Index, Key}
use Rattle.claims.proofs.Laws.{AllHold-left, AllHold-right}
use Rattle.affine_program.specs.Domain.{depth_of}
use Rattle.joint_partition.specs.Claims.{two_variables}
use Rattle.joint_partition.specs.Limits.{IsNestedSplit, IsSmallSplit}
use Rattle.joint_partition.specs.SplitFits.{SplitFits, nesting}
use Rattle.joint_partition.specs.Splits.{SplitTree, empty, split}
use Rattle.joint_partition.specs.Term.{PartTerm}
use Rattle.joint_partition.specs.View.{SplitsFit, SplitsFrom}
use Rattle.iolb_check.specs.JointFit.{pair_variables, split_fit, splits_fit, variables_of_pairs}

-- ---- splits

split-fits : (nested vars : ℕ) (place : List Step) (tree : SplitTree) → IsNestedSplit nested tree → AllHold (split_fit vars place tree) → SplitFits vars tree
split-fits nested vars place (empty shown) small h = tt
split-fits zero vars place (split form above below) small h = absurd small
split-fits (suc nested) vars place (split form above below) small h =
    let no : List Claim = split_fit vars (place ++ Key (codes "no") ∷ []) below in
    let yes : List Claim = split_fit vars (place ++ Key (codes "yes") ∷ []) above in (
      record { over = h.0; small = small.0 },
      (split-fits nested vars (place ++ Key (codes "yes") ∷ []) above small.1 (AllHold-right no yes h.1), split-fits nested vars (place ++ Key (codes "no") ∷ []) below small.2 (AllHold-left no yes h.1)),
    )

most : (a b n : ℕ) → a ≤ n → b ≤ n → suc (max a b) ≤ suc n
most a b n p q = omega (arith, p, q)

nesting-few : (nested : ℕ) (tree : SplitTree) → IsNestedSplit nested tree → nesting tree ≤ nested
nesting-few nested (empty shown) small = omega arith
nesting-few zero (split form above below) small = absurd small
nesting-few (suc nested) (split form above below) small = most (nesting above) (nesting below) nested (nesting-few nested above small.1) (nesting-few nested below small.2)

-- ---- one for each pair

abbrev Fits : ℕ → SplitTree → Type 0
Fits vars tree = SplitFits vars tree × (nesting tree ≤ TREE_TESTS)

splits-held : (place : List Step) (index : ℕ) (pairs : List ℕ) (trees : List SplitTree) → length trees ≡ length pairs → AllByRecursion IsSmallSplit trees
    → AllHold (splits_fit place index pairs trees) → AllZip Fits pairs trees
splits-held place index [] [] many small h = tt
splits-held place index [] (tree ∷ trees) many small h = absurd (omega (arith, many))
splits-held place index (vars ∷ pairs) [] many small h = absurd (omega (arith, many))
splits-held place index (vars ∷ pairs) (tree ∷ trees) many small h =
    let here : List Claim = split_fit vars (place ++ Index index ∷ []) tree in
    let rest : List Claim = splits_fit place (suc index) pairs trees in (
      (split-fits TREE_TESTS vars (place ++ Index index ∷ []) tree small.0.nested (AllHold-left here rest h), nesting-few TREE_TESTS tree small.0.nested),
      splits-held place (suc index) pairs trees (omega (arith, many)) small.1 (AllHold-right here rest h),
    )

module _ (program : AffineProgram) where
  -- a part's nest has a variable for each loop around its statement
  abbrev IsDeep : PartTerm → Type 0
  IsDeep part = length part.nest ≡ depth_of program part.statement

  from-zip : (part : PartTerm) (others : List PartTerm) (rest : List ℕ) (trees : List SplitTree) → IsDeep part → AllByRecursion IsDeep others
      → AllZip Fits (map (pair_variables program part) others ++ rest) trees → SplitsFrom program part others trees × AllZip Fits rest (drop (length others) trees)
  from-zip part [] rest trees deep deeps h = (tt, h)
  from-zip part (other ∷ others) rest [] deep deeps h = absurd h
  from-zip part (other ∷ others) rest (tree ∷ trees) deep deeps h =
      let later = from-zip part others rest trees deep deeps.1 h.1 in
      let same : pair_variables program part other ≡ two_variables program part other = omega (arith, deep, deeps.0) in
      ((subst (λ (n : ℕ). Fits n tree) same h.0, later.0), later.1)

  pub splits-fit : (parts : List PartTerm) (trees : List SplitTree) → AllByRecursion IsDeep parts → AllZip Fits (variables_of_pairs program parts) trees → SplitsFit program parts trees
  splits-fit [] trees deep h = tt
  splits-fit (part ∷ parts) trees deep h =
      let first = from-zip part parts (variables_of_pairs program parts) trees deep.0 deep.1 h in
      (first.0, splits-fit parts (drop (length parts) trees) deep.1 first.1)

pub splits-in : (program : AffineProgram) (place : List Step) (parts : List PartTerm) (trees : List SplitTree) → AllByRecursion (IsDeep program) parts → length trees ≡ length (variables_of_pairs program parts)
    → AllByRecursion IsSmallSplit trees → AllHold (splits_fit place 0 (variables_of_pairs program parts) trees) → SplitsFit program parts trees
splits-in program place parts trees deep many small h = splits-fit program parts trees deep (splits-held place 0 (variables_of_pairs program parts) trees many small h)
