-- Branches of cold terms of different arrays meet all conditions.
use Rattle.std.proofs.Common.{◌≡◌, refl, sym, ◌∙◌, ap, subst, ℕ, zero, suc, ◌+◌, ◌<◌, ◌≤◌, Bool, true, false, List, [], ◌∷◌, ◌++◌, length, map, arith}
use Rattle.std.specs.Prelude.{⊤, nat_eq, ◌==◌, if◌then◌else◌, cond, filter, codes}
use Rattle.std.specs.List.{AllByRecursion, IsDistinct}
use Rattle.std.proofs.lemmas.Bool.{eqb-true, eq-eqb, both_ways}
use Rattle.std.proofs.Math.Nat.{add-zero}
use Rattle.iolb_model.specs.Form.{AffineForm}
use Rattle.iolb_model.specs.Program.{AffineProgram}
use Rattle.affine_form.specs.Rows.{BoundsFit}
use Rattle.affine_program.specs.Parts.{ProgramParts, meaning}
use Rattle.claims.specs.Claims.{AllHold, Claim, numbered}
use Rattle.claims.specs.declared.place.Step.{Step}
use Rattle.claims.specs.declared.place.Step.TheVariants.{Key, Index}
use Rattle.claims.proofs.Laws.{AllHold-append}
use Rattle.claims.specs.Shown.{IsFew, pointless_claims}
use Rattle.dep_quast.specs.Context.{reference_of}
use Rattle.dep_quast.specs.Tree.{SelectionTree}
use Rattle.certificate_fit.specs.EntryFit.{entry_at}
use Rattle.certificate_fit.specs.PartFit.{bounds_fit, sums_fit}
use Rattle.certificate_fit.proofs.ReadTrees.{open-many, leaves-many}
use Rattle.certificate_fit.proofs.FormsFit.{bounds-hold, forms-hold}
use Rattle.footprint_pieces.specs.declared.piece.Target.{Target}
use Rattle.footprint_pieces.specs.declared.piece.Target.TheVariants.{Cell}
use Rattle.footprint_pieces.specs.DisjointClaims.{pairwise_systems, same_target}
use Rattle.reuse_paths.specs.LeafClaims.{LeafClaim, no_point, stops, is_credited, goes_on, arrives, is_stop}
use Rattle.dep_quast.specs.OpenLeaves.{OpenLeaf}
use Rattle.dep_quast.specs.Quasts.{tree_for}
use Rattle.footprint_pieces.specs.TargetPairs.{same_targets, same_in_lists, pairwise_targets}
use Rattle.footprint_pieces.proofs.PairCounts.{targets_of}
use Rattle.wavefront.specs.declared.cold.Cold.{Cold}
use Rattle.wavefront.specs.ColdPieces.{leaf_piece, leaves_of, stop_pieces}
use Rattle.wavefront.specs.Leaves.{leaves_claims}
use Rattle.wavefront.specs.Term.{ColdTerm, instance_point, nest_system, nest_variables}
use Rattle.wavefront.specs.View.{term_of}
use Rattle.iolb_check.specs.declared.term.Term.TheVariants as terms
use Rattle.iolb_check.specs.Claims.{BranchClaim, TermClaim, claim_of_term}
use Rattle.iolb_check.specs.Conditions.{branch_claims, branch_pieces, disjoint_claims, disjoint_place, term_claims_at, terms_claims, terms_place}
use Rattle.iolb_check.specs.Fit.{ColdTermFits, HasPieces, TermFits}
use Rattle.iolb_check.specs.PairFit.{term_targets}
use Rattle.iolb_check.specs.TermFit.{branch_fit, cold_back_fit, cold_fit, cold_front_fit, point_fit, term_at}
use Rattle.iolb_check.proofs.PiecesOf.{pieces-told}
use Rattle.projective_bounds.specs.HeldColds.{IsPlaced, array_read, reader_of}
use Rattle.cold_terms.specs.Entries.{AreEntries}
use Rattle.projective_bounds.proofs.ColdParts.{parts-of}

-- ---- the parts of a term fit, at any place

entries-hold : (place : List Step) (index : ℕ) (leaves : List OpenLeaf) (entries : List LeafClaim) → AreEntries leaves entries → AllHold (numbered (entry_at 0 [] place) index entries)
entries-hold place index [] [] h = tt
entries-hold place index [] (e ∷ entries) h = absurd h
entries-hold place index (l ∷ leaves) [] h = absurd h
entries-hold place index (l ∷ leaves) (no_point shown ∷ entries) h = entries-hold place (suc index) leaves entries h.1
entries-hold place index (l ∷ leaves) (stops label ∷ entries) h = (ap length h.0.1, entries-hold place (suc index) leaves entries h.1)
entries-hold place index (l ∷ leaves) (is_credited credit rows label ∷ entries) h = absurd h.0
entries-hold place index (l ∷ leaves) (goes_on rows label ∷ entries) h = absurd h.0
entries-hold place index (l ∷ leaves) (arrives equal ∷ entries) h = absurd h.0

few-at-leaves : (vars : ℕ) (rows : List AffineForm) (place : List Step) (index : ℕ) (leaves : List OpenLeaf) (entries : List LeafClaim) → length entries ≡ length leaves
    → AllHold (leaves_claims vars rows place index leaves entries) → AllByRecursion (λ (l : OpenLeaf). IsFew (length (rows ++ l.tests))) leaves
few-at-leaves vars rows place index [] entries many h = tt
few-at-leaves vars rows place index (l ∷ leaves) [] many h = absurd (omega arith)
few-at-leaves vars rows place index (l ∷ leaves) (e ∷ entries) many h = (h.0, few-at-leaves vars rows place (suc index) leaves entries (omega arith) h.1.1)

-- ---- a term over the trees

module _ (program : ProgramParts) (trees : List (List SelectionTree)) where
  abbrev P : AffineProgram
  P = meaning program

  abbrev tree_of_cold : Cold → SelectionTree
  tree_of_cold cold = tree_for trees (reader_of cold)

  module _ (cold : Cold) (h : IsPlaced P trees cold) where
    abbrev term : ColdTerm
    term = term_of cold

    columns : (rows columns called : ℕ) → (rows ≡ 0 → columns ≡ 0) → ((1 ≤ rows) → columns ≡ called) → columns ≡ (if rows == 0 then 0 else called)
    columns rows cs called none some = by (rows == 0) refl where
      by : (b : Bool) → (rows == 0) ≡ b → cs ≡ (if b then 0 else called)
      by true is = none (eqb-true rows 0 is)
      by false is = some (positive rows (λ zero_rows. both_ways (rows == 0) is (eq-eqb rows 0 zero_rows))) where
        positive : (n : ℕ) → (n ≡ 0 → ⊥) → 1 ≤ n
        positive zero h = absurd (h refl)
        positive (suc n) h = omega arith

    cold-fit : (place : List Step) → AllHold (cold_fit P trees place term)
    cold-fit place =
        let params : ℕ = length program.params in
        let fits = h.shown.fits.parts in
        let front : List Claim = cold_front_fit P trees place term in
        let bounds : List Claim = bounds_fit params (place ++ Key (codes "nest") ∷ []) term.nest in
        let point : List Claim = point_fit P place term in
        let back : List Claim = cold_back_fit P term place in
        let sums : List Claim = sums_fit (suc params) (place ++ Key (codes "sums") ∷ []) term.count.sums in
        let polynomials = h.shown.polynomials.uses (place ++ Key (codes "sums") ∷ []) in
        let many = h.shown.fits.leaves ∙ open-many (nest_variables P term) (instance_point P term) [] (tree_of_cold cold) ∙ sym (leaves-many P trees term.reader (tree_of_cold cold) fits.read.read h.there) in
        let in_front : AllHold front = (
          fits.inside,
          (fits.rows, (columns term.matrix.rows term.matrix.columns (length (reference_of P term.reader).subscripts) h.no_rows fits.columns, (many, entries-hold (place ++ Key (codes "leaves") ∷ []) 0 (leaves_of P (tree_of_cold cold) term) term.leaves h.shown.entries))),
        ) in
        let in_bounds : AllHold bounds = bounds-hold params 0 (place ++ Key (codes "nest") ∷ []) term.nest (subst (λ (n : ℕ). BoundsFit n term.nest) (sym (add-zero params)) fits.bounds) in
        let in_point : AllHold point = (fits.point, forms-hold (params + length term.nest) (place ++ Key (codes "point") ∷ []) 0 term.point fits.forms) in
        let in_back : AllHold back = (fits.read.read, (h.shown.one_each, (fits.read.statement, (polynomials.0, tt)))) in
        AllHold-append (front ++ bounds ++ point ++ back) sums
        (AllHold-append (front ++ bounds ++ point) back (AllHold-append (front ++ bounds) point (AllHold-append front bounds in_front in_bounds) in_point) in_back) polynomials.1

    cold-fits : ColdTermFits program trees cold
    cold-fits = record {
      there = h.there;
      fits = h.shown.fits;
      count = record {
        few = h.shown.fits.parts.few;
        bounds = h.shown.fits.parts.bounds;
        shown = h.shown.one_each;
        sums = (h.shown.polynomials.uses []).0;
      };
    }

    cold-pieces : HasPieces program trees (terms.Cold cold)
    cold-pieces = (
      cold-fits,
      few-at-leaves (nest_variables P term) (nest_system P term).rows (Key (codes "leaves") ∷ []) 0 (leaves_of P (tree_of_cold cold) term) term.leaves h.shown.fits.leaves
          (parts-of P (tree_of_cold cold) term [] (h.shown.holds [])).leaves,
    )

  -- ---- all terms

  abbrev claims_of : List Cold → List TermClaim
  claims_of colds = map claim_of_term (map terms.Cold colds)

  all-fit : (place : List Step) (index : ℕ) (colds : List Cold) → AllByRecursion (IsPlaced P trees) colds → AllHold (numbered (term_at P trees place) index (claims_of colds))
  all-fit place index [] h = tt
  all-fit place index (cold ∷ colds) h =
      AllHold-append (term_at P trees place index (claim_of_term (terms.Cold cold))) (numbered (term_at P trees place) (suc index) (claims_of colds))
      (cold-fit cold h.0 ((place ++ Index index ∷ []) ++ Key (codes "cold") ∷ [])) (all-fit place (suc index) colds h.1)

  all-hold : (place : List Step) (index : ℕ) (colds : List Cold) → AllByRecursion (IsPlaced P trees) colds → AllHold (numbered (term_claims_at P trees place) index (claims_of colds))
  all-hold place index [] h = tt
  all-hold place index (cold ∷ colds) h =
      AllHold-append (term_claims_at P trees place index (claim_of_term (terms.Cold cold))) (numbered (term_claims_at P trees place) (suc index) (claims_of colds))
      (h.0.shown.holds ((place ++ Index index ∷ []) ++ Key (codes "cold") ∷ [])) (all-hold place (suc index) colds h.1)

  all-terms-fit : (colds : List Cold) → AllByRecursion (IsPlaced P trees) colds → AllByRecursion (TermFits program trees) (map terms.Cold colds)
  all-terms-fit [] h = tt
  all-terms-fit (cold ∷ colds) h = (cold-fits cold h.0, all-terms-fit colds h.1)

  all-pieces : (colds : List Cold) → AllByRecursion (IsPlaced P trees) colds → AllByRecursion (HasPieces program trees) (map terms.Cold colds)
  all-pieces [] h = tt
  all-pieces (cold ∷ colds) h = (cold-pieces cold h.0, all-pieces colds h.1)

  -- ---- their pieces have different targets

  -- lists of targets are those of arrays' cells
  abbrev AreCells : List ℕ → List (List Target) → Type 0
  AreCells [] [] = ⊤
  AreCells [] (ts ∷ lists) = ⊥
  AreCells (a ∷ arrays) [] = ⊥
  AreCells (a ∷ arrays) (ts ∷ lists) = AllByRecursion (λ (t : Target). t ≡ Cell a) ts × AreCells arrays lists

  stops-are-cells : (t : ColdTerm) (leaves : List OpenLeaf) (entries : List LeafClaim)
      → AllByRecursion (λ (target : Target). target ≡ Cell (reference_of P t.reader).array) (targets_of (stop_pieces P t leaves entries))
  stops-are-cells t [] entries = tt
  stops-are-cells t (l ∷ leaves) [] = tt
  stops-are-cells t (l ∷ leaves) (e ∷ entries) = by (is_stop e) (stops-are-cells t leaves entries) where
    by : (b : Bool) → AllByRecursion (λ (target : Target). target ≡ Cell (reference_of P t.reader).array) (targets_of (stop_pieces P t leaves entries))
        → AllByRecursion (λ (target : Target). target ≡ Cell (reference_of P t.reader).array) (targets_of (if b then leaf_piece P t l.tests ∷ stop_pieces P t leaves entries else stop_pieces P t leaves entries))
    by true h = (refl, h)
    by false h = h

  all-cells : (colds : List Cold) → AreCells (map (array_read P) colds) (map targets_of (branch_pieces P trees (claims_of colds)))
  all-cells [] = tt
  all-cells (cold ∷ colds) = (stops-are-cells (term_of cold) (leaves_of P (tree_of_cold cold) (term_of cold)) (term_of cold).leaves, all-cells colds)

  none-same : (a b : ℕ) (t : Target) (us : List Target) → nat_eq a b ≡ false → t ≡ Cell a → AllByRecursion (λ (u : Target). u ≡ Cell b) us → filter (same_target t) us ≡ []
  none-same a b t [] other is h = refl
  none-same a b t (u ∷ us) other is h =
      ap (λ (x : Bool). cond x (u ∷ filter (same_target t) us) (filter (same_target t) us))
      (ap (λ (x : Target). same_target x u) is ∙ ap (same_target (Cell a)) h.0 ∙ other) ∙ none-same a b t us other is h.1

  no-pair : (a b : ℕ) (ts us : List Target) → nat_eq a b ≡ false → AllByRecursion (λ (t : Target). t ≡ Cell a) ts → AllByRecursion (λ (u : Target). u ≡ Cell b) us → same_targets ts us ≡ []
  no-pair a b [] us other h g = refl
  no-pair a b (t ∷ ts) us other h g =
      ap (λ (xs : List Target). xs ++ same_targets ts us) (none-same a b t us other h.0 g) ∙ no-pair a b ts us other h.1 g

  no-pairs : (a : ℕ) (ts : List Target) (arrays : List ℕ) (lists : List (List Target)) → AllByRecursion (λ (later : ℕ). nat_eq a later ≡ false) arrays → AllByRecursion (λ (t : Target). t ≡ Cell a) ts
      → AreCells arrays lists → same_in_lists ts lists ≡ []
  no-pairs a ts [] [] others h g = refl
  no-pairs a ts [] (us ∷ lists) others h g = absurd g
  no-pairs a ts (b ∷ arrays) [] others h g = absurd g
  no-pairs a ts (b ∷ arrays) (us ∷ lists) others h g =
      ap (λ (xs : List Target). xs ++ same_in_lists ts lists) (no-pair a b ts us others.0 h g.0) ∙ no-pairs a ts arrays lists others.1 h g.1

  none-paired : (arrays : List ℕ) (lists : List (List Target)) → IsDistinct nat_eq arrays → AreCells arrays lists → pairwise_targets lists ≡ []
  unfolding IsDistinct
  none-paired [] [] different h = refl
  none-paired [] (ts ∷ lists) different h = absurd h
  none-paired (a ∷ arrays) [] different h = absurd h
  none-paired (a ∷ arrays) (ts ∷ lists) different h =
      ap (λ (xs : List Target). xs ++ pairwise_targets lists) (no-pairs a ts arrays lists different.0 h.0 h.1) ∙ none-paired arrays lists different.1 h.1

  no-targets : (list : List Step) (colds : List Cold) → IsDistinct nat_eq (map (array_read P) colds) → AllByRecursion (IsPlaced P trees) colds
      → pairwise_targets (map (term_targets P trees) (claims_of colds)) ≡ []
  no-targets list colds different h =
      ap pairwise_targets (sym (pieces-told program trees list 0 (map terms.Cold colds) (all-terms-fit colds h) (all-pieces colds h) (all-hold list 0 colds h)))
      ∙ none-paired (map (array_read P) colds) (map targets_of (branch_pieces P trees (claims_of colds))) different (all-cells colds)

  -- ---- the branch

  nothing-claimed : (condition : ℕ) (place : List Step) (index : ℕ) (systems : List _) → AllHold (pointless_claims condition place index systems [])
  nothing-claimed condition place index [] = tt
  nothing-claimed condition place index (s ∷ systems) = tt

  abbrev pub made : List Cold → BranchClaim
  made colds = record { terms = claims_of colds; disjoint = [] }

  pub branch-fits : (place : List Step) (colds : List Cold) → IsDistinct nat_eq (map (array_read P) colds) → AllByRecursion (IsPlaced P trees) colds → AllHold (branch_fit P trees place (made colds))
  branch-fits place colds different h = (ap length (sym (no-targets (place ++ Key (codes "terms") ∷ []) colds different h)), all-fit (place ++ Key (codes "terms") ∷ []) 0 colds h)

  pub branch-holds : (number : ℕ) (colds : List Cold) → AllByRecursion (IsPlaced P trees) colds → AllHold (branch_claims P trees number (made colds))
  branch-holds number colds h =
      let list : List Step = terms_place number in
      AllHold-append (terms_claims P trees list (claims_of colds)) (disjoint_claims P trees number (made colds)) (all-hold list 0 colds h)
      (nothing-claimed 23 (disjoint_place number) 0 (pairwise_systems P (branch_pieces P trees (claims_of colds))))
