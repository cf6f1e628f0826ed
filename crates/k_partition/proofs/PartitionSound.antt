-- A partition term whose claims hold is sound, and its families are apart.
use Rattle.std.specs.Prelude.{codes}
use Rattle.std.proofs.Common.{◌≡◌, sym, ◌∙◌, subst, ℕ, suc, ◌+◌, List, [], ◌∷◌, ◌++◌, length, map, arith}
use Rattle.std.specs.List.{AllByRecursion}
use Rattle.std.proofs.Math.IntN.{ℤ}
use Rattle.std.proofs.lemmas.List.{length-map}
use Rattle.base_laws.proofs.Lists.{All-map, All-weaken}
use Rattle.iolb_model.specs.Form.{AffineForm}
use Rattle.iolb_model.specs.Path.{PathStep, row_path}
use Rattle.iolb_model.specs.Program.{AffineProgram, IsWellFormed}
use Rattle.iolb_model.specs.Bound.{IsAdmitted}
use Rattle.iolb_model.specs.Domain.{IsWithin, IsAt, LeadAlong}
use Rattle.iolb_model.specs.Footprint.{AreDisjoint, ArePairwiseDisjoint}
use Rattle.execution_laws.proofs.Domains.{domains_executed, way-there}
use Rattle.claims.specs.Claims.{Claim, AllHold, numbered, counted}
use Rattle.claims.specs.declared.place.Step.{Step}
use Rattle.claims.specs.declared.place.Step.TheVariants.{Key, Index}
use Rattle.claims.proofs.Laws.{AllHold-left, AllHold-right}
use Rattle.claims.proofs.Members.{counts-each}
use Rattle.affine_form.specs.Rows.{variables_from}
use Rattle.affine_form.specs.Substitution.{values_at}
use Rattle.affine_form.specs.System.{IsMet}
use Rattle.affine_form.proofs.Meaning.{values-front, values-end}
use Rattle.affine_form.proofs.RowLemmas.{length-variables}
use Rattle.affine_program.specs.Domain.{path_of, depth_of}
use Rattle.dep_quast.specs.Context.{parameter_point}
use Rattle.dep_quast.specs.Tree.{SelectionTree}
use Rattle.execution_laws.proofs.Ways.{within-length, holds-there}
use Rattle.claims.proofs.Systems.{goals-met}
use Rattle.affine_program.proofs.Domains.{domain_rows-few, domain_rows-says}
use Rattle.domain_count.specs.Count.{rows_before}
use Rattle.domain_count.specs.CountClaims.{count_claims}
use Rattle.domain_count.specs.Points.{points}
use Rattle.footprint_pieces.specs.DisjointClaims.{PairwisePiecesAreApart}
use Rattle.reuse_paths.specs.Families.{FamilyForms}
use Rattle.reuse_paths.specs.FamilyClaims.{label_rows, start_walk, node_walk}
use Rattle.reuse_paths.specs.FamilyFits.{FamilyFits}
use Rattle.reuse_paths.specs.FamilyFootprint.{instances_in, family_footprint}
use Rattle.reuse_paths.specs.FamilyPieces.{family_pieces, FamilyPiecesCover}
use Rattle.footprint_pieces.specs.Pieces.{FootprintPiece, AreApartPieces, AreCovered, ArePairwiseApart, PieceFits}
use Rattle.reuse_paths.specs.Places.{IsExecuted}
use Rattle.reuse_paths.specs.SoundFamilies.{IsSoundFamily, FamiliesAreSound}
use Rattle.dep_quast.specs.Trees.{RowsFit, RowsAreTrue}
use Rattle.reuse_paths.proofs.NestPoints.{points-within, nest-met}
use Rattle.reuse_paths.proofs.Places.{executed-there}
use Rattle.k_partition.specs.declared.term.Shape.{Shape}
use Rattle.k_partition.specs.declared.term.Shape.TheVariants.{Each, Sum}
use Rattle.k_partition.specs.PartitionClaims.{inside_claims, inside_goals, credit_claims, unit_claim, unit_claims, cover_claim, cover_claims, family_claims_at, pieces_of_families, apart_claims, sound_claims}
use Rattle.reuse_paths.specs.FewContexts.{few_contexts, ContextsAreFew}
use Rattle.k_partition.specs.PartitionPieces.{HasPartitionPieces}
use Rattle.k_partition.specs.PartitionFits.{HasApart, PartitionFits, PartitionsAreSound, PartitionsAreApart}
use Rattle.k_partition.specs.ReusedWords.{FixesRows, IsSoundTerm}
use Rattle.k_partition.specs.Term.{PartitionTerm, credited_nests}
use Rattle.k_partition.specs.TermLoads.{footprint_in, AreApartFor}
use Rattle.k_partition.proofs.FixedRows.{family-fixes}

module _ (program : AffineProgram) (trees : List (List SelectionTree)) (term : PartitionTerm) (place : List Step) (formed : IsWellFormed program) (trees-fit : RowsFit program 0 trees)
    (trees-true : RowsAreTrue program 0 trees) (fits : PartitionFits program trees term) (holds : AllHold (sound_claims program trees place term)) where
  abbrev counts : List Claim
  counts = count_claims program term.nest term.count place

  abbrev inside : List Claim
  inside = inside_claims program place term

  abbrev credits : List Claim
  credits = numbered (credit_claims program place term.credits) 0 term.credits

  abbrev units : List Claim
  units = unit_claims place term

  abbrev covers : List Claim
  covers = cover_claims place term

  abbrev families : List Claim
  families = numbered (family_claims_at program trees place term) 0 term.families

  before-words : AllHold (counts ++ (inside ++ credits) ++ (units ++ covers))
  before-words = AllHold-left (counts ++ (inside ++ credits) ++ (units ++ covers)) families holds

  holds-inside : AllHold inside
  holds-inside = AllHold-left inside credits (AllHold-right counts (inside ++ credits) (AllHold-left (counts ++ (inside ++ credits)) (units ++ covers) before-words))

  pub holds-credits : AllHold credits
  holds-credits = AllHold-right inside credits (AllHold-right counts (inside ++ credits) (AllHold-left (counts ++ (inside ++ credits)) (units ++ covers) before-words))

  holds-cover : AllHold (units ++ covers)
  holds-cover = AllHold-right (counts ++ (inside ++ credits)) (units ++ covers) before-words

  holds-units : AllHold units
  holds-units = AllHold-left units covers holds-cover

  holds-covers : AllHold covers
  holds-covers = AllHold-right units covers holds-cover

  holds-families : AllHold families
  holds-families = AllHold-right (counts ++ (inside ++ credits) ++ (units ++ covers)) families holds

  module _ (parameters : List ℤ) (admitted : IsAdmitted program parameters) where
    -- a point of the nest is executed
    point-executed : (u : List ℤ) → IsWithin term.nest parameters u → IsExecuted program parameters (record { statement = term.statement; values = u })
    point-executed u within =
        let count : ℕ = length program.parameters in
        let vars : ℕ = count + length term.nest in
        let path : List PathStep = path_of program term.statement in
        let values : List AffineForm = variables_from vars count (length term.nest) in
        let wide : length term.nest ≡ length u = sym (within-length term.nest parameters u within) in
        let met : IsMet (inside_goals program term) (parameters ++ u) =
        goals-met 10 (place ++ Key (codes "inside") ∷ []) (rows_before program term.nest) 0 (inside_goals program term) term.inside (parameters ++ u)
        (omega (arith, fits.inside, domain_rows-few program term.statement vars (parameter_point program vars) values)) holds-inside (nest-met program term.nest parameters u formed admitted within) in
        let front : values_at (parameter_point program vars) (parameters ++ u) ≡ parameters = values-front vars count parameters u (sym admitted.each) (omega arith) in
        let end : values_at values (parameters ++ u) ≡ u = values-end vars count (length term.nest) parameters u (sym admitted.each) wide (omega arith) in
        let in-path : LeadAlong path parameters u =
        subst (λ (p : List ℤ). LeadAlong path p u) front
        (subst (λ (v : List ℤ). LeadAlong path (values_at (parameter_point program vars) (parameters ++ u)) v) end
        (domain_rows-says program term.statement vars (parameter_point program vars) values (parameters ++ u) formed (length-variables vars 0 (length program.parameters)) (length-variables vars count (length term.nest) ∙ fits.counted.each) met)) in
        let there : (n : ℕ) × IsAt program parameters n (record { statement = term.statement; values = u }) =
        (domains_executed program parameters (record { statement = term.statement; values = u }) formed).1
        (holds-there (row_path program.tree term.statement) (λ p. LeadAlong p parameters u) (way-there program term.statement formed fits.counted.there) in-path) in
        executed-there program parameters there.0 (record { statement = term.statement; values = u }) there.1

    pub all-executed : AllByRecursion (IsExecuted program parameters) (instances_in term.statement term.nest parameters)
    all-executed =
        All-map (IsExecuted program parameters) (λ (u : List ℤ). record { statement = term.statement; values = u }) (points term.nest parameters)
        (All-weaken (λ (u : List ℤ). IsWithin term.nest parameters u) (λ (u : List ℤ). IsExecuted program parameters (record { statement = term.statement; values = u })) (points term.nest parameters)
        (λ u within. point-executed u within) (points-within term.nest parameters))

  -- ---- family by family

  sound-from : (index : ℕ) (these : List FamilyForms) → AllByRecursion (FamilyFits program trees term.statement term.nest term.matrix (credited_nests term)) these
      → AllHold (numbered (family_claims_at program trees place term) index these) → FamiliesAreSound → AllByRecursion (IsSoundFamily program term.statement term.nest (credited_nests term)) these
  sound-from index [] fit h law = tt
  sound-from index (family ∷ these) fit h law = (
    law program trees term.statement term.nest term.matrix (credited_nests term) family (place ++ Key (codes "families") ∷ Index index ∷ []) formed trees-fit trees-true fit.0
        (AllHold-left (family_claims_at program trees place term index family) (numbered (family_claims_at program trees place term) (suc index) these) h),
    sound-from (suc index) these fit.1 (AllHold-right (family_claims_at program trees place term index family) (numbered (family_claims_at program trees place term) (suc index) these) h) law,
  )

  fixed-from : (index : ℕ) (these : List FamilyForms) → AllByRecursion (FamilyFits program trees term.statement term.nest term.matrix (credited_nests term)) these
      → AllHold (numbered (family_claims_at program trees place term) index these) → AllByRecursion (FixesRows (length program.parameters) term.matrix) these
  fixed-from index [] fit h = tt
  fixed-from index (family ∷ these) fit h =
      let at : List Step = place ++ Key (codes "families") ∷ Index index ∷ [] in
      let loops : ℕ = depth_of program term.statement in
      let here : List Claim = family_claims_at program trees place term index family in
      let labels : List Claim = label_rows term.matrix family.scale (length program.parameters) loops (at ++ Key (codes "start") ∷ Key (codes "label") ∷ []) 0 family.set family.start_label in
      let start : List Claim = start_walk program trees term.statement term.nest (credited_nests term) family at in
      let nodes : List Claim = numbered (node_walk program trees (credited_nests term) family (at ++ Key (codes "nodes") ∷ [])) 0 family.nodes in
      let rest : List Claim = numbered (family_claims_at program trees place term) (suc index) these in (
        family-fixes term.matrix (length program.parameters) loops family (at ++ Key (codes "start") ∷ Key (codes "label") ∷ []) fits.matrix fits.counted.columns fit.0.scale fit.0.set fit.0.start_label.each fit.0.start_label.over
            (AllHold-left labels start (AllHold-left (labels ++ start) nodes (AllHold-left here rest h))),
        fixed-from (suc index) these fit.1 (AllHold-right here rest h),
      )

  pub sound : FamiliesAreSound → IsSoundTerm program term
  sound law = record {
    instances = all-executed;
    families = sound-from 0 term.families fits.families holds-families law;
    fixed = fixed-from 0 term.families fits.families holds-families;
    rows = fits.counted.rows ∙ sym fits.counted.each;
    undone = λ row column r c. (counts-each (unit_claim place term row) (length term.nest) column c (counts-each (λ row. counted (unit_claim place term row) 0 (length term.nest)) (length term.nest) row r holds-units)).0;
    positive = fits.positive;
    covered = λ i below. (counts-each (cover_claim place term) (length term.nest) i below holds-covers).0;
  }

  -- ---- apart

  covered-from : (index : ℕ) (these : List FamilyForms) → AllByRecursion (FamilyFits program trees term.statement term.nest term.matrix (credited_nests term)) these
      → AllHold (numbered (family_claims_at program trees place term) index these) → FamilyPiecesCover
      → AllByRecursion (λ (family : FamilyForms). AreCovered program (family_footprint program term.statement term.nest family) (family_pieces program trees term.statement term.nest family)) these
  covered-from index [] fit h law = tt
  covered-from index (family ∷ these) fit h law = (
    law program trees term.statement term.nest term.matrix (credited_nests term) family (place ++ Key (codes "families") ∷ Index index ∷ []) formed trees-fit trees-true fit.0
        (AllHold-left (family_claims_at program trees place term index family) (numbered (family_claims_at program trees place term) (suc index) these) h) all-executed,
    covered-from (suc index) these fit.1 (AllHold-right (family_claims_at program trees place term index family) (numbered (family_claims_at program trees place term) (suc index) these) h) law,
  )

  module _ (parameters : List ℤ) (admitted : IsAdmitted program parameters) where
    abbrev pieces_of : FamilyForms → List FootprintPiece
    pieces_of family = family_pieces program trees term.statement term.nest family

    abbrev IsCovered : FamilyForms → Type 0
    IsCovered family = AreCovered program (family_footprint program term.statement term.nest family) (pieces_of family)

    one-apart : (family : FamilyForms) (these : List FamilyForms) → IsCovered family → AllByRecursion IsCovered these → AllByRecursion (AreApartPieces program (pieces_of family)) (map pieces_of these)
        → AllByRecursion (AreDisjoint (footprint_in program term parameters family)) (map (footprint_in program term parameters) these)
    one-apart family [] cover covers h = tt
    one-apart family (other ∷ these) cover covers h = (
      (λ vertex first second. h.0 parameters vertex admitted (cover parameters vertex admitted first) (covers.0 parameters vertex admitted second)),
      one-apart family these cover covers.1 h.1,
    )

    all-apart : (these : List FamilyForms) → AllByRecursion IsCovered these → ArePairwiseApart program (map pieces_of these) → ArePairwiseDisjoint (map (footprint_in program term parameters) these)
    all-apart [] covers h = tt
    all-apart (family ∷ these) covers h = (one-apart family these covers.0 covers.1 h.0, all-apart these covers.1 h.1)

    pub families-apart : AllHold (apart_claims term.shape program trees place term) → FamilyPiecesCover → PairwisePiecesAreApart → AllByRecursion (AllByRecursion (PieceFits program)) (pieces_of_families program trees term)
        → AreApartFor term.shape program term parameters
    families-apart holds-apart law pairs fit = by term.shape fits.apart holds-apart where
      by : (shape : Shape) → HasApart shape program trees term → AllHold (apart_claims shape program trees place term) → AreApartFor shape program term parameters
      by Each enough h = tt
      by Sum enough h = all-apart term.families (covered-from 0 term.families fits.families holds-families law)
          (pairs program 18 (place ++ Key (codes "apart") ∷ []) (pieces_of_families program trees term) term.apart fit enough h)

pub partitions-sound : FamiliesAreSound → PartitionsAreSound
partitions-sound law program trees term place formed trees-fit trees-true fits holds = sound program trees term place formed trees-fit trees-true fits holds law

pub partitions-apart : FamilyPiecesCover → PairwisePiecesAreApart → PartitionsAreApart
partitions-apart law pairs program trees term place parameters formed trees-fit trees-true fits fit holds admitted =
    let first : List Claim = sound_claims program trees place term in
    let second : List Claim = apart_claims term.shape program trees place term in
    families-apart program trees term place formed trees-fit trees-true fits (AllHold-left first second holds) parameters admitted (AllHold-right first second holds) law pairs fit

-- Each family of a partition term whose claims hold has a footprint that its pieces cover.
pub families-covered : FamilyPiecesCover → (program : AffineProgram) (trees : List (List SelectionTree)) (term : PartitionTerm) (place : List Step) → IsWellFormed program → RowsFit program 0 trees
    → RowsAreTrue program 0 trees → PartitionFits program trees term → AllHold (sound_claims program trees place term)
    → AllByRecursion (λ (family : FamilyForms). AreCovered program (family_footprint program term.statement term.nest family) (family_pieces program trees term.statement term.nest family)) term.families
families-covered law program trees term place formed trees-fit trees-true fits holds =
    covered-from program trees term place formed trees-fit trees-true fits holds 0 term.families fits.families (holds-families program trees term place formed trees-fit trees-true fits holds) law

-- and the rows of each of its contexts are few
few-from : ContextsAreFew → (program : AffineProgram) (trees : List (List SelectionTree)) (term : PartitionTerm) (place : List Step) (index : ℕ) (these : List FamilyForms)
    → AllHold (numbered (family_claims_at program trees place term) index these)
    → AllByRecursion (λ (family : FamilyForms). AllHold (few_contexts program trees term.statement term.nest family [])) these
few-from law program trees term place index [] h = tt
few-from law program trees term place index (family ∷ these) h =
    let here : List Claim = family_claims_at program trees place term index family in
    let later : List Claim = numbered (family_claims_at program trees place term) (suc index) these in (
      law program trees term.statement term.nest term.matrix (credited_nests term) family (place ++ Key (codes "families") ∷ Index index ∷ []) [] (AllHold-left here later h),
      few-from law program trees term place (suc index) these (AllHold-right here later h),
    )

pub contexts-are-few : ContextsAreFew → (program : AffineProgram) (trees : List (List SelectionTree)) (term : PartitionTerm) (place : List Step) → IsWellFormed program → RowsFit program 0 trees
    → RowsAreTrue program 0 trees → PartitionFits program trees term → AllHold (sound_claims program trees place term) → HasPartitionPieces program trees term
contexts-are-few law program trees term place formed trees-fit trees-true fits holds =
    few-from law program trees term place 0 term.families (holds-families program trees term place formed trees-fit trees-true fits holds)
