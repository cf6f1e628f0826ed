-- The families of a term whose claims hold are sound.
use Rattle.std.proofs.Common.{ℕ, suc, ◌<◌, List, [], ◌∷◌, ◌++◌, length}
use Rattle.std.specs.Prelude.{codes}
use Rattle.std.specs.List.{AllByRecursion}
use Rattle.base_laws.proofs.Lists.{All-at}
use Rattle.iolb_model.specs.Program.{AffineProgram, IsWellFormed}
use Rattle.claims.specs.Claims.{AllHold, Claim, numbered}
use Rattle.claims.specs.declared.place.Step.{Step}
use Rattle.claims.specs.declared.place.Step.TheVariants.{Key}
use Rattle.claims.proofs.Laws.{AllHold-left, AllHold-right}
use Rattle.claims.proofs.Members.{numbered-member}
use Rattle.dep_quast.specs.Tree.{SelectionTree}
use Rattle.dep_quast.specs.Trees.{RowsAreTrue, RowsFit}
use Rattle.reuse_paths.specs.FamilyFits.{WalksFit}
use Rattle.reuse_paths.specs.SoundFamilies.{IsSoundFamily, WalksAreSound}
use Rattle.joint_partition.specs.Claims.{family_claims, member_at, start_claims, way_claims}
use Rattle.joint_partition.specs.JointFits.{JointFamiliesAreSound, JointFamilyFits}
use Rattle.joint_partition.specs.JointWords.{IsSoundJointFamily}
use Rattle.joint_partition.specs.Term.{JointFamily, JointTerm, PartTerm, PartWalks, StartTerm, WayTerm, credited_nests, no_way, part_walks, walks_from, way_at}
use Rattle.joint_partition.proofs.MovedClaims.{nodes-moved}

module _ (program : AffineProgram) (trees : List (List SelectionTree)) (term : JointTerm) (formed : IsWellFormed program) (trees-fit : RowsFit program 0 trees)
    (trees-true : RowsAreTrue program 0 trees) (law : WalksAreSound) (family : JointFamily) (here : List Step)
    (holds-ways : AllHold (numbered (way_claims program trees term family here) 0 family.ways)) where
  abbrev AreWalksFit : PartWalks → Type 0
  AreWalksFit from = WalksFit program trees from.part.statement (credited_nests term) from.walks (length family.set)

  abbrev AreWalksSound : PartWalks → Type 0
  AreWalksSound from = IsSoundFamily program from.part.statement from.part.nest (credited_nests term) from.walks

  -- the walks from each part
  walks-sound : (index : ℕ) (parts : List PartTerm) (starts : List StartTerm) → AllByRecursion (λ (start : StartTerm). start.way < length family.ways) starts
      → AllByRecursion AreWalksFit (part_walks family parts starts) → AllHold (numbered (start_claims program trees term here) index (part_walks family parts starts))
      → AllByRecursion AreWalksSound (part_walks family parts starts)
  walks-sound index [] starts entered fits h = tt
  walks-sound index (part ∷ parts) [] entered fits h = tt
  walks-sound index (part ∷ parts) (start ∷ starts) entered fits h =
      let from : PartWalks = walks_from family part start in
      let way : WayTerm = way_at family start.way in
      let first : List Claim = start_claims program trees term here index from in
      let rest : List Claim = numbered (start_claims program trees term here) (suc index) (part_walks family parts starts) in (
        law program trees part.statement part.nest (credited_nests term) from.walks (length family.set) (member_at here (codes "starts") index ++ Key (codes "tree") ∷ []) []
            formed trees-fit trees-true fits.0 (AllHold-left first rest h)
            (nodes-moved program trees term from.walks (member_at here (codes "ways") start.way) [] 0 from.walks.nodes
            (numbered-member (way_claims program trees term family here) family.ways start.way no_way entered.0 holds-ways)),
        walks-sound (suc index) parts starts entered.1 fits.1 (AllHold-right first rest h),
      )

  -- the labelings that they have are there
  walks-labeled : AllByRecursion (λ (way : WayTerm). way.labels < length family.labels) family.ways → (parts : List PartTerm) (starts : List StartTerm)
      → AllByRecursion (λ (start : StartTerm). start.way < length family.ways) starts → AllByRecursion (λ (from : PartWalks). from.labeling < length family.labels) (part_walks family parts starts)
  walks-labeled there [] starts entered = tt
  walks-labeled there (part ∷ parts) [] entered = tt
  walks-labeled there (part ∷ parts) (start ∷ starts) entered =
      (All-at (λ (way : WayTerm). way.labels < length family.labels) family.ways start.way no_way there entered.0, walks-labeled there parts starts entered.1)

families-from : WalksAreSound → (program : AffineProgram) (trees : List (List SelectionTree)) (term : JointTerm) (place : List Step) → IsWellFormed program → RowsFit program 0 trees
    → RowsAreTrue program 0 trees → (index : ℕ) (families : List JointFamily) → AllByRecursion (JointFamilyFits program trees term) families
    → AllHold (numbered (family_claims program trees term place) index families) → AllByRecursion (IsSoundJointFamily program term) families
families-from law program trees term place formed trees-fit trees-true index [] fits h = tt
families-from law program trees term place formed trees-fit trees-true index (family ∷ families) fits h =
    let here : List Step = member_at place (codes "families") index in
    let first : List Claim = family_claims program trees term place index family in
    let rest : List Claim = numbered (family_claims program trees term place) (suc index) families in
    let starts : List Claim = numbered (start_claims program trees term here) 0 (part_walks family term.parts family.starts) in
    let ways : List Claim = numbered (way_claims program trees term family here) 0 family.ways in
    let own : AllHold (starts ++ ways) = AllHold-left first rest h in
    let of_ways : AllHold ways = AllHold-right starts ways own in (
      record {
        scale = fits.0.scale;
        one_each = fits.0.one_each;
        labeled = walks-labeled program trees term formed trees-fit trees-true law family here of_ways fits.0.labeled term.parts family.starts fits.0.entered;
        walks = walks-sound program trees term formed trees-fit trees-true law family here of_ways 0 term.parts family.starts fits.0.entered fits.0.walks (AllHold-left starts ways own);
      },
      families-from law program trees term place formed trees-fit trees-true (suc index) families fits.1 (AllHold-right first rest h),
    )

pub joint-families-are-sound : WalksAreSound → JointFamiliesAreSound
joint-families-are-sound law program trees term place formed trees-fit trees-true fits holds =
    families-from law program trees term place formed trees-fit trees-true 0 term.families fits holds
