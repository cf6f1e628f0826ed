-- Where a certificate fits a program, so do its source trees and its terms.
use Rattle.std.proofs.Common.{◌≡◌, sym, ◌∙◌, ap, subst, ℕ, suc, List, [], ◌∷◌, ◌++◌, length, map, arith}
use Rattle.std.specs.Prelude.{Some, codes}
use Rattle.std.specs.List.{AllByRecursion}
use Rattle.std.proofs.lemmas.List.{length-map}
use Rattle.std.proofs.Math.Nat.{add-zero}
use Rattle.iolb_model.specs.Program.{AffineProgram}
use Rattle.claims.specs.declared.place.Step.{Step}
use Rattle.claims.specs.declared.place.Step.TheVariants.{Key, Index}
use Rattle.affine_form.specs.Rows.{BoundsFit}
use Rattle.affine_program.specs.Parts.{ProgramParts, IsProgram, meaning}
use Rattle.dep_quast.specs.Context.{ReadOf, reference_of}
use Rattle.dep_quast.specs.Tree.{SelectionTree}
use Rattle.dep_quast.specs.Truth.{ReadFits}
use Rattle.dep_quast.specs.Trees.{RowsFit}
use Rattle.dep_quast.specs.Quasts.{tree_or_blank, tree_for, row_trees, trees_of}
use Rattle.wavefront.specs.declared.cold.Cold.{Cold}
use Rattle.dep_quast.proofs.OpenLeaves.{tests-fit}
use Rattle.wavefront.specs.Loads.{ColdFits}
use Rattle.wavefront.specs.Term.{ColdTerm, nest_variables, instance_point}
use Rattle.wavefront.specs.View.{term_of}
use Rattle.iolb_check.specs.declared.term.Term.{Term}
use Rattle.iolb_check.specs.declared.term.Term.TheVariants as terms
use Rattle.iolb_check.specs.declared.term.Branch.{Branch}
use Rattle.iolb_check.specs.Claims.{claim_of_term, claim_of_branch, claim_of_certificate}
use Rattle.iolb_check.specs.Limits.{CertificateParts, IsWithinLimits, IsSmallCold, IsSmallTerm, IsSmallBranch}
use Rattle.iolb_check.specs.Fit.{PartsFit, ColdTermFits, TermFits, BranchesFit}
use Rattle.claims.specs.Claims.{Claim, AllHold, numbered}
use Rattle.certificate_fit.specs.TreeFit.{trees_fit}
use Rattle.certificate_fit.specs.PartFit.{bounds_fit, sums_fit}
use Rattle.iolb_check.specs.TermFit.{cold_front_fit, point_fit, cold_back_fit, cold_fit, term_at, branch_at, certificate_fit}
use Rattle.claims.proofs.Laws.{AllHold-left, AllHold-right}
use Rattle.certificate_fit.proofs.ReadTrees.{open-many, bounds-fit, columns-many, tree-of, leaves-many}
use Rattle.certificate_fit.proofs.TreeParts.{forms-over, rows-fit}
use Rattle.iolb_check.proofs.FitFronts.{front-fits}
use Rattle.iolb_check.proofs.FitJoints.{joint-fits}
use Rattle.iolb_check.proofs.FitPartitions.{partition-fits}

-- ---- terms

module _ (program : ProgramParts) (trees : List (List SelectionTree)) (fit : AllHold (trees_fit (meaning program) trees)) (rows : RowsFit (meaning program) 0 trees) where
  cold-fits : (place : List Step) (cold : Cold) → IsSmallCold cold → AllHold (cold_fit (meaning program) trees place (term_of cold)) → ColdTermFits program trees cold
  cold-fits place cold small h =
      let P : AffineProgram = meaning program in
      let term : ColdTerm = term_of cold in
      let reader : ReadOf = term.reader in
      let params : ℕ = length program.params in
      let front : List Claim = cold_front_fit P trees place term in
      let bounds : List Claim = bounds_fit params (place ++ Key (codes "nest") ∷ []) cold.nest in
      let point : List Claim = point_fit P place term in
      let back : List Claim = cold_back_fit P term place in
      let sums : List Claim = sums_fit (suc params) (place ++ Key (codes "sums") ∷ []) cold.sums.sums in
      let most : AllHold (front ++ bounds ++ point ++ back) = AllHold-left (front ++ bounds ++ point ++ back) sums h in
      let some : AllHold (front ++ bounds ++ point) = AllHold-left (front ++ bounds ++ point) back most in
      let few : AllHold (front ++ bounds) = AllHold-left (front ++ bounds) point some in
      let in_front : AllHold front = AllHold-left front bounds few in
      let in_point : AllHold point = AllHold-right (front ++ bounds) point some in
      let in_back : AllHold back = AllHold-right (front ++ bounds ++ point) back most in
      let read : ReadFits P reader = record { statement = in_back.1.1.0; read = in_back.0 } in
      let chosen = tree-of P trees reader read fit rows in
      let same : tree_for trees reader ≡ chosen.0 = ap tree_or_blank chosen.1.there in
      let vars : ℕ = nest_variables P term in
      let bounds_over : BoundsFit params cold.nest = subst (λ (n : ℕ). BoundsFit n cold.nest) (add-zero params) (bounds-fit params 0 (place ++ Key (codes "nest") ∷ []) cold.nest small.bounds (AllHold-right front bounds few)) in
      let fits : ColdFits P chosen.0 term = record {
        parts = record {
          read = read;
          few = small.variables;
          bounds = bounds_over;
          point = in_point.0;
          forms = forms-over vars (place ++ Key (codes "point") ∷ []) 0 cold.point.items small.point in_point.1;
          inside = in_front.0;
          rows = in_front.1.0;
          columns = columns-many cold.inverse.matrix.rows cold.inverse.matrix.columns (length (reference_of P reader).subscripts) in_front.1.1.0;
          scale = small.some_scale;
        };
        tests = tests-fit P reader [] chosen.0 chosen.1.fits;
        leaves = in_front.1.1.1.0 ∙ leaves-many P trees reader chosen.0 in_back.0 chosen.1.there ∙ sym (open-many vars (instance_point P term) [] chosen.0);
      } in record {
        there = chosen.1.there ∙ ap (λ (t : SelectionTree). Some t) (sym same);
        fits = subst (λ (t : SelectionTree). ColdFits P t term) (sym same) fits;
        count = record {
          few = small.variables;
          bounds = bounds_over;
          shown = in_back.1.0;
          sums = in_back.1.1.1.0;
        };
      }

  terms-fit : (place : List Step) (index : ℕ) (ts : List Term) → AllByRecursion IsSmallTerm ts → AllHold (numbered (term_at (meaning program) trees place) index (map claim_of_term ts)) → AllByRecursion (TermFits program trees) ts
  terms-fit place index [] small h = tt
  terms-fit place index (terms.Cold cold ∷ ts) small h =
      let here : List Claim = term_at (meaning program) trees place index (claim_of_term (terms.Cold cold)) in
      let rest : List Claim = numbered (term_at (meaning program) trees place) (suc index) (map claim_of_term ts) in
      (cold-fits (place ++ Index index ∷ [] ++ Key (codes "cold") ∷ []) cold small.0 (AllHold-left here rest h), terms-fit place (suc index) ts small.1 (AllHold-right here rest h))
  terms-fit place index (terms.Partition partition ∷ ts) small h =
      let here : List Claim = term_at (meaning program) trees place index (claim_of_term (terms.Partition partition)) in
      let rest : List Claim = numbered (term_at (meaning program) trees place) (suc index) (map claim_of_term ts) in (
        partition-fits program trees fit rows (place ++ Index index ∷ [] ++ Key (codes "partition") ∷ []) partition small.0 (AllHold-left here rest h),
        terms-fit place (suc index) ts small.1 (AllHold-right here rest h),
      )
  terms-fit place index (terms.Wavefront front ∷ ts) small h =
      let here : List Claim = term_at (meaning program) trees place index (claim_of_term (terms.Wavefront front)) in
      let rest : List Claim = numbered (term_at (meaning program) trees place) (suc index) (map claim_of_term ts) in (
        front-fits program trees fit rows (place ++ Index index ∷ [] ++ Key (codes "wavefront") ∷ []) front small.0 (AllHold-left here rest h),
        terms-fit place (suc index) ts small.1 (AllHold-right here rest h),
      )
  terms-fit place index (terms.Joint joint ∷ ts) small h =
      let here : List Claim = term_at (meaning program) trees place index (claim_of_term (terms.Joint joint)) in
      let rest : List Claim = numbered (term_at (meaning program) trees place) (suc index) (map claim_of_term ts) in (
        joint-fits program trees fit rows (place ++ Index index ∷ [] ++ Key (codes "joint") ∷ []) joint small.0 (AllHold-left here rest h),
        terms-fit place (suc index) ts small.1 (AllHold-right here rest h),
      )

  branches-fit : (index : ℕ) (branches : List Branch) → AllByRecursion IsSmallBranch branches → AllHold (numbered (branch_at (meaning program) trees) index (map claim_of_branch branches)) → BranchesFit program trees branches
  branches-fit index [] small h = tt
  branches-fit index (branch ∷ branches) small h =
      let here : List Claim = branch_at (meaning program) trees index (claim_of_branch branch) in
      let rest : List Claim = numbered (branch_at (meaning program) trees) (suc index) (map claim_of_branch branches) in
      let fits : AllHold here = AllHold-left here rest h in
      (record { terms = terms-fit (Key (codes "branches") ∷ Index index ∷ Key (codes "terms") ∷ []) 0 branch.terms.items small.0.terms fits.1; disjoint = fits.0 }, branches-fit (suc index) branches small.1 (AllHold-right here rest h))

pub parts-fit : (program : ProgramParts) (parts : CertificateParts) → IsProgram program → IsWithinLimits parts → AllHold (certificate_fit (meaning program) (claim_of_certificate parts)) → PartsFit program parts
parts-fit program parts is limits h =
    let P : AffineProgram = meaning program in
    let trees : List (List SelectionTree) = trees_of parts.quasts in
    let branches : List Claim = numbered (branch_at P trees) 0 (map claim_of_branch parts.branches) in
    let fit : AllHold (trees_fit P trees) = AllHold-right branches (trees_fit P trees) h in
    let rows : RowsFit P 0 trees = rows-fit P is.well_formed (Key (codes "quasts") ∷ []) 0 parts.quasts.rows.items (omega (arith, fit.0, length-map parts.quasts.rows.items row_trees)) limits.trees fit.1 in
    record { trees = rows; branches = branches-fit program trees fit rows 0 parts.branches limits.branches (AllHold-left branches (trees_fit P trees) h) }
