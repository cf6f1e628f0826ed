-- The pieces of a partition term's families, family by family.
use Rattle.std.proofs.Common.{◌≡◌, refl, sym, ◌∙◌, ap, subst, ℕ, ◌+◌, ◌<◌, List, [], ◌∷◌, ◌++◌, get_or, length, map, drop, append_assoc}
use Rattle.std.specs.Prelude.{flat_map}
use Rattle.base_laws.proofs.Lists.{All-at, rest_at}
use Rattle.iolb_model.specs.Program.{AffineProgram}
use Rattle.claims.specs.Claims.{AllHold}
use Rattle.dep_quast.specs.Tree.{SelectionTree}
use Rattle.reuse_paths.specs.declared.family.Family.{Family}
use Rattle.reuse_paths.specs.Families.{FamilyForms, family_of}
use Rattle.reuse_paths.specs.FamilyFits.{FamilyFits}
use Rattle.reuse_paths.specs.FamilyPieces.{family_pieces}
use Rattle.reuse_paths.specs.FewContexts.{few_contexts, FitsSome}
use Rattle.footprint_pieces.specs.Pieces.{FootprintPiece}
use Rattle.k_partition.specs.PartitionFits.{PartitionFits}
use Rattle.k_partition.specs.PartitionPieces.{HasPartitionPieces}
use Rattle.k_partition.specs.Term.{PartitionTerm, credited_nests}
use Rattle.k_partition.proofs.Members.{member-of}

module _ (program : AffineProgram) (trees : List (List SelectionTree)) (term : PartitionTerm) (held : List Family) (i : ℕ) (family : Family) (same : map family_of held ≡ term.families)
    (below : i < length held) (is : family ≡ get_or held i family) where
  abbrev pieces_at : FamilyForms → List FootprintPiece
  pieces_at forms = family_pieces program trees term.statement term.nest forms

  there : (i < length term.families) × (family_of family ≡ get_or term.families i (family_of family))
  there =
      let found = member-of family_of held held i family refl below is in
      subst (λ (fs : List FamilyForms). (i < length fs) × (family_of family ≡ get_or fs i (family_of family))) same found

  pub fits-at : PartitionFits program trees term → FitsSome program trees term.statement term.nest (family_of family)
  fits-at fits = (
    term.matrix,
    (
      credited_nests term,
      subst (FamilyFits program trees term.statement term.nest term.matrix (credited_nests term)) (sym there.1)
          (All-at (FamilyFits program trees term.statement term.nest term.matrix (credited_nests term)) term.families i (family_of family) fits.families there.0),
    ),
  )

  pub few-at : HasPartitionPieces program trees term → AllHold (few_contexts program trees term.statement term.nest (family_of family) [])
  few-at few =
      subst (λ (forms : FamilyForms). AllHold (few_contexts program trees term.statement term.nest forms [])) (sym there.1)
      (All-at (λ (forms : FamilyForms). AllHold (few_contexts program trees term.statement term.nest forms [])) term.families i (family_of family) few there.0)

  rest : drop i term.families ≡ family_of family ∷ drop (i + 1) term.families
  rest = rest_at term.families i (family_of family) there.0 there.1

  pub lists-next : (before now all : List (List FootprintPiece)) (pieces : List FootprintPiece) → pieces ≡ pieces_at (family_of family) → now ≡ before ++ pieces ∷ [] → before ++ map pieces_at (drop i term.families) ≡ all
      → now ++ map pieces_at (drop (i + 1) term.families) ≡ all
  lists-next before now all pieces e more whole =
      ap (λ (ps : List (List FootprintPiece)). ps ++ map pieces_at (drop (i + 1) term.families)) (more ∙ ap (λ (ps : List FootprintPiece). before ++ ps ∷ []) e)
      ∙ append_assoc before (pieces_at (family_of family) ∷ []) (map pieces_at (drop (i + 1) term.families))
      ∙ ap (λ (fs : List FamilyForms). before ++ map pieces_at fs) (sym rest) ∙ whole

  pub flat-next : (before now all : List FootprintPiece) (pieces : List FootprintPiece) → pieces ≡ pieces_at (family_of family) → now ≡ before ++ pieces → before ++ flat_map pieces_at (drop i term.families) ≡ all
      → now ++ flat_map pieces_at (drop (i + 1) term.families) ≡ all
  flat-next before now all pieces e more whole =
      ap (λ (ps : List FootprintPiece). ps ++ flat_map pieces_at (drop (i + 1) term.families)) (more ∙ ap (λ (ps : List FootprintPiece). before ++ ps) e)
      ∙ append_assoc before (pieces_at (family_of family)) (flat_map pieces_at (drop (i + 1) term.families))
      ∙ ap (λ (fs : List FamilyForms). before ++ flat_map pieces_at fs) (sym rest) ∙ whole
