-- Certificates with the opening branch meet all conditions.
use Rattle.std.proofs.Common.{◌≡◌, refl, sym, ◌∙◌, ap, subst, ℕ, ◌<◌, false, List, [], ◌∷◌, ◌++◌, length, map, arith}
use Rattle.std.specs.Prelude.{Option, Some, None, nat_eq, codes}
use Rattle.std.specs.List.{AllByRecursion, IsDistinct}
use Rattle.std.proofs.lemmas.Bool.{ne_eqb}
use Rattle.std.proofs.lemmas.List.{length-map}
use Rattle.base_laws.proofs.Lists.{All-weaken}
use Rattle.iolb_model.specs.Program.{AffineProgram}
use Rattle.affine_program.specs.Parts.{ProgramParts, meaning}
use Rattle.flow_deps.specs.declared.wanted.Wanted.TheVariants.{Short}
use Rattle.claims.specs.Claims.{AllHold, Claim}
use Rattle.claims.specs.declared.place.Step.TheVariants.{Key, Index}
use Rattle.claims.proofs.Laws.{AllHold-append}
use Rattle.dep_quast.specs.Context.{ReadOf}
use Rattle.dep_quast.specs.Tree.{SelectionTree}
use Rattle.flow_deps.specs.Plain.{IsPlain}
use Rattle.certificate_fit.specs.TreeFit.{trees_fit}
use Rattle.dep_quast.specs.Quasts.{tree_at, tree_for, tree_or_blank}
use Rattle.dep_quast.specs.Trees.{rows_claims}
use Rattle.wavefront.specs.declared.cold.Cold.{Cold}
use Rattle.wavefront.specs.View.{term_of}
use Rattle.iolb_check.specs.declared.term.Term.TheVariants as terms
use Rattle.iolb_check.specs.Claims.{BranchClaim, claim_of_branch, claim_of_term}
use Rattle.iolb_check.specs.Conditions.{branch_claims, conditions}
use Rattle.iolb_check.specs.declared.term.Branch.{Branch}
use Rattle.iolb_check.specs.Limits.{IsSmallBranch, IsSmallTerm}
use Rattle.iolb_check.specs.TermFit.{branch_fit}
use Rattle.find_terms.specs.Accepted.{HasPlainTree, OpeningsAreWithinLimits, OpeningsMeetConditions}
use Rattle.find_terms.specs.Openings.{AreNamed, AreRising, FindsOpening, IsFirstOpening, IsOpeningBranch, IsOpeningTerm, opening_outline}
use Rattle.find_terms.specs.Proposed.{IsSmallOpening}
use Rattle.projective_bounds.specs.HeldColds.{IsHeldCold, IsPlaced, array_read, reader_of}
use Rattle.cold_terms.specs.Outline.{ColdOutline, outline_in}
use Rattle.find_terms.specs.Shown.{IsShownCold}
use Rattle.find_terms.proofs.NameLaws.{none-named}
use Rattle.find_terms.proofs.PlainLaws.{blank-not, shown-over}
use Rattle.projective_bounds.proofs.ColdBranches.{made, branch-fits, branch-holds}

-- numbers that rise are different
rising-distinct : (ns : List ℕ) → AreRising ns → IsDistinct nat_eq ns
unfolding IsDistinct
rising-distinct [] rising = tt
rising-distinct (n ∷ ns) rising =
    (All-weaken (λ (later : ℕ). n < later) (λ (later : ℕ). nat_eq n later ≡ false) ns (λ later less. ne_eqb n later (λ same. omega (arith, same, less))) rising.0, rising-distinct ns rising.1)

-- ---- a term over the trees

module _ (program : ProgramParts) (trees : List (List SelectionTree)) where
  abbrev P : AffineProgram
  P = meaning program

  abbrev tree_of_cold : Cold → SelectionTree
  tree_of_cold cold = tree_for trees (reader_of cold)

  tree-there : (reader : ReadOf) (o : Option SelectionTree) → IsPlain P reader (tree_or_blank o) → o ≡ Some (tree_or_blank o)
  tree-there reader None h = absurd (blank-not P reader h)
  tree-there reader (Some tree) h = refl

  held : {tree : SelectionTree} {cold : Cold} → IsShownCold Short P tree cold → IsHeldCold P tree cold
  held h = record { fits = h.fits; one_each = h.one_each; polynomials = h.polynomials; holds = h.holds; small = h.small; entries = h.entries }

  placed : (cold : Cold) → IsFirstOpening P cold → IsPlain P (reader_of cold) (tree_of_cold cold) → IsPlaced P trees cold
  placed cold first plain =
      let opens : IsOpeningTerm P (reader_of cold) cold = first.opens in
      let loops : List ℕ = opens.outline.0 in
      let named : AreNamed P (reader_of cold) loops = opens.outline.1 in
      let same : outline_in (term_of cold) ≡ opening_outline P (reader_of cold) loops = opens.outline.2 in
      record {
        there = tree-there (reader_of cold) (tree_at trees cold.statement cold.read) plain;
        shown = held (shown-over Short P opens.tree (tree_of_cold cold) cold opens.plain plain opens.shown);
        no_rows = λ none.
            ap (λ (o : ColdOutline). o.matrix.columns) same
            ∙ none-named P (reader_of cold) loops named.there (sym (ap (λ (o : ColdOutline). o.matrix.rows) same) ∙ none);
      }

  all-placed : (colds : List Cold) → AllByRecursion (IsFirstOpening P) colds → AllByRecursion (HasPlainTree P trees) (map terms.Cold colds) → AllByRecursion (IsPlaced P trees) colds
  all-placed [] first plain = tt
  all-placed (cold ∷ colds) first plain = (placed cold first.0 plain.0, all-placed colds first.1 plain.1)

  made-holds : (colds : List Cold) → IsDistinct nat_eq (map (array_read P) colds) → AllByRecursion (IsPlaced P trees) colds → AllHold (trees_fit P trees) → AllHold (rows_claims P 0 trees)
      → AllHold (conditions P (record { trees = trees; branches = made program trees colds ∷ [] }))
  made-holds colds different h fit valid =
      let fit_claims : List Claim = branch_fit P trees (Key (codes "branches") ∷ Index 0 ∷ []) (made program trees colds) in
      let claims : List Claim = branch_claims P trees 0 (made program trees colds) in
      let fits : AllHold fit_claims = branch-fits program trees (Key (codes "branches") ∷ Index 0 ∷ []) colds different h in
      let holds : AllHold claims = branch-holds program trees 0 colds h in
      let whole_fit : List Claim = (fit_claims ++ []) ++ trees_fit P trees in
      AllHold-append (whole_fit ++ rows_claims P 0 trees) (claims ++ [])
      (AllHold-append whole_fit (rows_claims P 0 trees) (AllHold-append (fit_claims ++ []) (trees_fit P trees) (AllHold-append fit_claims [] fits tt) fit) valid)
      (AllHold-append claims [] holds tt)

pub openings-meet : OpeningsMeetConditions
openings-meet program trees branch is (colds, openings, same, none) fit valid plain =
    let P : AffineProgram = meaning program in
    let here : claim_of_branch branch ≡ made program trees colds = λ i. record { terms = map claim_of_term (same i); disjoint = none i } in
    subst (λ (b : BranchClaim). AllHold (conditions P (record { trees = trees; branches = b ∷ [] }))) (sym here)
    (made-holds program trees colds (rising-distinct (map (array_read P) colds) openings.order)
    (all-placed program trees colds openings.each (subst (AllByRecursion (HasPlainTree P trees)) same plain)) fit valid)

-- ---- limits

all-small : (program : AffineProgram) (colds : List Cold) → AllByRecursion (IsFirstOpening program) colds → AllByRecursion IsSmallTerm (map terms.Cold colds)
all-small program [] h = tt
all-small program (cold ∷ colds) h = (h.0.opens.shown.small, all-small program colds h.1)

-- the opening branch is within the limits of branches
pub opening-branch-small : (program : AffineProgram) (branch : Branch) → IsOpeningBranch program branch → IsSmallBranch branch
opening-branch-small program branch (colds, openings, same, none) = record {
  few = omega (arith, ap length same, length-map colds terms.Cold, openings.few);
  terms = subst (AllByRecursion IsSmallTerm) (sym same) (all-small program colds openings.each);
  disjoint = subst (AllByRecursion _) (sym none) tt;
}

pub found-small : (program : AffineProgram) (opening : Option Branch) → FindsOpening program opening → IsSmallOpening opening
found-small program None finds = tt
found-small program (Some branch) finds = opening-branch-small program branch finds.0

pub openings-small : OpeningsAreWithinLimits
openings-small program quasts branch is small = record { trees = small; few = omega arith; branches = (opening-branch-small program branch is, tt) }
