-- The certificate of source trees that stand, a term of the whole domain and placed cold terms meets all conditions, and is within the
-- limits.
use Rattle.std.proofs.Common.{◌≡◌, refl, sym, ap, subst, ℕ, ◌≤◌, List, [], ◌∷◌, ◌++◌, length, map, arith}
use Rattle.std.specs.Prelude.{nat_eq, codes}
use Rattle.std.specs.List.{AllByRecursion, IsDistinct}
use Rattle.std.proofs.lemmas.List.{length-map}
use Rattle.iolb_model.specs.Program.{AffineProgram}
use Rattle.iolb_model.specs.declared.limits.TheConstants.{TERMS}
use Rattle.affine_program.specs.Parts.{ProgramParts, meaning}
use Rattle.claims.specs.Claims.{AllHold, Claim}
use Rattle.claims.specs.declared.place.Step.{Step}
use Rattle.claims.specs.declared.place.Step.TheVariants.{Key, Index}
use Rattle.claims.proofs.Laws.{AllHold-append}
use Rattle.dep_quast.specs.Tree.{SelectionTree}
use Rattle.certificate_fit.specs.Limits.{NamesRows}
use Rattle.certificate_fit.specs.TreeFit.{trees_fit}
use Rattle.dep_quast.specs.declared.quasts.Quasts.{Quasts}
use Rattle.dep_quast.specs.Quasts.{trees_of}
use Rattle.dep_quast.specs.Trees.{rows_claims}
use Rattle.flow_deps.specs.Standing.{AllStand}
use Rattle.flow_deps.proofs.StandingTrees.{trees-fit, trees-small, trees-valid}
use Rattle.k_partition.specs.PartitionClaims.{partition_claims}
use Rattle.k_partition.specs.Term.{PartitionTerm}
use Rattle.k_partition.specs.View.{partition_of}
use Rattle.wavefront.specs.declared.cold.Cold.{Cold}
use Rattle.iolb_check.specs.declared.term.Branch.{Branch}
use Rattle.iolb_check.specs.declared.term.Term.TheVariants as terms
use Rattle.iolb_check.specs.Claims.{BranchClaim, claim_of_branch, claim_of_term, partition}
use Rattle.iolb_check.specs.Conditions.{branch_claims, conditions, disjoint_claims, terms_claims, terms_place}
use Rattle.iolb_check.specs.Limits.{IsSmallBranch, IsSmallPartition, IsSmallTerm, IsWithinLimits}
use Rattle.iolb_check.specs.PartitionFit.{partition_fit}
use Rattle.iolb_check.specs.TermFit.{branch_at, branch_fit}
use Rattle.projective_bounds.specs.HeldColds.{IsPlaced, array_read}
use Rattle.projective_bounds.proofs.ColdBranches.{branch-fits, branch-holds, made}
use Rattle.projective_bounds.specs.WholeLaws.{CanBeShown}
use Rattle.projective_bounds.proofs.Asked.{whole-terms-asked}
use Rattle.projective_bounds.proofs.Held.{whole-terms-hold}
use Rattle.projective_bounds.proofs.Small.{whole-terms-small}
use Rattle.projective.specs.SourceTrees.{AreSourceTrees}
use Rattle.projective_bounds.specs.Certified.{IsWholeBranch}
use Rattle.projective_bounds.proofs.Standing.{all-standing}

-- the branch of one partition term
abbrev alone : PartitionTerm → BranchClaim
alone term = record { terms = partition term ∷ []; disjoint = [] }

module _ (program : ProgramParts) (trees : List (List SelectionTree)) where
  abbrev P : AffineProgram
  P = meaning program

  module _ (term : PartitionTerm) (fit : (place : List Step) → AllHold (partition_fit P trees place term)) (hold : (place : List Step) → AllHold (partition_claims P trees place term)) where
    alone-fits : (place : List Step) → AllHold (branch_fit P trees place (alone term))
    alone-fits place =
        let own : List Step = ((place ++ Key (codes "terms") ∷ []) ++ Index 0 ∷ []) ++ Key (codes "partition") ∷ [] in
        (refl, AllHold-append (partition_fit P trees own term) [] (fit own) tt)

    alone-holds : (number : ℕ) → AllHold (branch_claims P trees number (alone term))
    alone-holds number =
        let own : List Step = (terms_place number ++ Index 0 ∷ []) ++ Key (codes "partition") ∷ [] in
        AllHold-append (terms_claims P trees (terms_place number) (partition term ∷ [])) (disjoint_claims P trees number (alone term))
        (AllHold-append (partition_claims P trees own term) [] (hold own) tt) tt

    -- such a branch, and one of placed cold terms
    both-hold : (colds : List Cold) → IsDistinct nat_eq (map (array_read P) colds) → AllByRecursion (IsPlaced P trees) colds → AllHold (trees_fit P trees) → AllHold (rows_claims P 0 trees)
        → AllHold (conditions P (record { trees = trees; branches = alone term ∷ made program trees colds ∷ [] }))
    both-hold colds different placed trees_fitting valid =
        let second : BranchClaim = made program trees colds in
        let fit_first : List Claim = branch_at P trees 0 (alone term) in
        let fit_second : List Claim = branch_at P trees 1 second in
        let whole_fit : List Claim = (fit_first ++ (fit_second ++ [])) ++ trees_fit P trees in
        let first_claims : List Claim = branch_claims P trees 0 (alone term) in
        let second_claims : List Claim = branch_claims P trees 1 second in
        let fits : AllHold (fit_first ++ (fit_second ++ [])) =
        AllHold-append fit_first (fit_second ++ []) (alone-fits (Key (codes "branches") ∷ Index 0 ∷ []))
        (AllHold-append fit_second [] (branch-fits program trees (Key (codes "branches") ∷ Index 1 ∷ []) colds different placed) tt) in
        let holds : AllHold (first_claims ++ (second_claims ++ [])) =
        AllHold-append first_claims (second_claims ++ []) (alone-holds 0) (AllHold-append second_claims [] (branch-holds program trees 1 colds placed) tt) in
        AllHold-append (whole_fit ++ rows_claims P 0 trees) (first_claims ++ (second_claims ++ []))
        (AllHold-append whole_fit (rows_claims P 0 trees) (AllHold-append (fit_first ++ (fit_second ++ [])) (trees_fit P trees) fits trees_fitting) valid) holds

-- ---- certificates

-- What the parts of a certificate are.
pub record AreParts (program : ProgramParts) (quasts : Quasts) (first second : Branch) : Type 0 where
  pub q : ℕ
  pub weights : List ℕ
  pub can : CanBeShown program (trees_of quasts) q weights
  pub trees : AreSourceTrees (meaning program) (trees_of quasts)
  pub whole : IsWholeBranch (meaning program) (trees_of quasts) q weights first
  pub colds : List Cold
  pub all : second.terms.items ≡ map terms.Cold colds
  pub alone : second.disjoint.items ≡ []
  pub placed : AllByRecursion (IsPlaced (meaning program) (trees_of quasts)) colds
  pub different : IsDistinct nat_eq (map (array_read (meaning program)) colds)
  pub few : length colds ≤ TERMS

module _ (program : ProgramParts) (quasts : Quasts) (first second : Branch) (h : AreParts program quasts first second) where
  abbrev held : List (List SelectionTree)
  held = trees_of quasts

  abbrev term : PartitionTerm
  term = partition_of h.whole.term

  stand : AllStand (meaning program) held
  stand = all-standing (meaning program) held h.can.projective.one h.trees

  pub conditions-met : AllHold (conditions (meaning program) (record { trees = held; branches = claim_of_branch first ∷ claim_of_branch second ∷ [] }))
  conditions-met =
      let one : claim_of_branch first ≡ alone term = λ i. record { terms = map claim_of_term (h.whole.one i); disjoint = h.whole.alone i } in
      let two : claim_of_branch second ≡ made program held h.colds = λ i. record { terms = map claim_of_term (h.all i); disjoint = h.alone i } in
      let both : claim_of_branch first ∷ claim_of_branch second ∷ [] ≡ alone term ∷ made program held h.colds ∷ [] = λ i. one i ∷ two i ∷ [] in
      subst (λ (branches : List BranchClaim). AllHold (conditions (meaning program) (record { trees = held; branches = branches }))) (sym both)
      (both-hold program held term (λ place. whole-terms-asked program held h.q h.weights term place h.can h.whole.whole)
      (λ place. whole-terms-hold program held h.q h.weights term place h.can h.whole.whole) h.colds h.different h.placed
      (trees-fit (meaning program) h.can.program.well_formed held stand) (trees-valid (meaning program) h.can.program.well_formed held stand))

  -- ---- within the limits

  colds-small : (some : List Cold) → AllByRecursion (IsPlaced (meaning program) held) some → AllByRecursion IsSmallTerm (map terms.Cold some)
  colds-small [] placed = tt
  colds-small (cold ∷ some) placed = (placed.0.shown.small, colds-small some placed.1)

  pub limits-kept : IsWithinLimits (record { quasts = quasts; branches = first ∷ second ∷ [] })
  limits-kept =
      let small : IsSmallPartition h.whole.term = whole-terms-small program held h.q h.weights h.whole.term h.can h.whole.whole in
      let in_first : IsSmallBranch first = record {
        few = omega (arith, ap length h.whole.one);
        terms = subst (AllByRecursion IsSmallTerm) (sym h.whole.one) (small, tt);
        disjoint = subst (AllByRecursion NamesRows) (sym h.whole.alone) tt;
      } in
      let in_second : IsSmallBranch second = record {
        few = omega (arith, ap length h.all, length-map h.colds terms.Cold, h.few);
        terms = subst (AllByRecursion IsSmallTerm) (sym h.all) (colds-small h.colds h.placed);
        disjoint = subst (AllByRecursion NamesRows) (sym h.alone) tt;
      } in
      record { trees = trees-small (meaning program) quasts stand; few = omega arith; branches = (in_first, (in_second, tt)) }
