-- The groups of a term whose claims hold have no word in common.
use Rattle.std.proofs.Common.{◌≡◌, ◌≢◌, refl, sym, ◌∙◌, ap, subst, inl, inr, ℕ, zero, suc, ◌+◌, ◌<◌, ◌≤◌, true, false, not, List, [], ◌∷◌, ◌++◌, drop, length, map, arith}
use Rattle.std.specs.Prelude.{◌⊎◌, ◌==◌, codes, flat_map, nat_eq, slice_index_or, Option, None, Some}
use Rattle.std.specs.List.{AllByRecursion, IsDistinct, range_with_len}
use Rattle.std.proofs.Math.IntN.{ℤ}
use Rattle.std.proofs.lemmas.Bool.{eq-eqb, eqb-true, ne_eqb}
use Rattle.std.proofs.lemmas.List.{length-append, length-drop}
use Rattle.execution_laws.proofs.Members.{Member, Member-append_left, Member-append_right, Member-filter, Member-flat_map}
use Rattle.execution_laws.proofs.Ordered.{All-from, All-member, Member-flat_map_from, Member-map_from}
use Rattle.iolb_model.specs.Form.{AffineForm}
use Rattle.iolb_model.specs.Program.{AffineProgram, IsWellFormed}
use Rattle.iolb_model.specs.Bound.{IsAdmitted}
use Rattle.iolb_model.specs.Footprint.{AreDisjoint, ArePairwiseDisjoint}
use Rattle.affine_form.specs.Multipliers.{FarkasMultipliers}
use Rattle.affine_form.specs.System.{AffineSystem}
use Rattle.claims.specs.Claims.{AllHold, Claim, numbered}
use Rattle.claims.specs.Shown.{pointless_claims}
use Rattle.claims.specs.declared.place.Step.{Step}
use Rattle.claims.specs.declared.place.Step.TheVariants.{Key}
use Rattle.claims.proofs.Laws.{AllHold-left, AllHold-right}
use Rattle.claims.proofs.Members.{numbered-member}
use Rattle.dep_quast.specs.Tree.{SelectionTree}
use Rattle.dep_quast.specs.Trees.{RowsAreTrue, RowsFit}
use Rattle.footprint_pieces.specs.DisjointClaims.{DisjointPiecesAreApart, pair_key, shared_systems, systems_with_lists}
use Rattle.footprint_pieces.specs.Pieces.{AreApartPieces, AreCovered, FootprintPiece, IsInPieces, PieceFits}
use Rattle.footprint_pieces.proofs.PieceVertices.{in-pieces}
use Rattle.pebble_game.proofs.Marks.{member-stands, standing-member}
use Rattle.pebble_game.proofs.WellFormed.{IsDistinct-distinct}
use Rattle.reuse_paths.specs.FamilyClaims.{family_setting}
use Rattle.reuse_paths.specs.FamilyFits.{WalksFit}
use Rattle.reuse_paths.specs.FamilyFootprint.{family_footprint}
use Rattle.reuse_paths.specs.FamilyPieces.{WalkPiecesCover, region_pieces, regions_pieces, family_pieces as walk_pieces_of}
use Rattle.reuse_paths.specs.WalkSettings.{WalkSetting, region_context}
use Rattle.reuse_paths.specs.Walks.{WalkRegion}
use Rattle.reuse_paths.proofs.FamilyCover.{same-pieces}
use Rattle.stretch_laws.specs.Reuse.{Labeling, WalkFamily, group_words, words_in}
use Rattle.joint_partition.specs.Claims.{family_claims, family_pieces, group_systems, member_at, of_other_groups, start_claims, start_pieces, way_claims, way_pieces}
use Rattle.joint_partition.specs.JointFits.{JointFamilyFits, JointGroupsAreApart}
use Rattle.joint_partition.specs.JointWords.{IsSoundPart, dimensions_of, families_in, group_numbers, labeling_at, walk_family, walk_words, walks_labeled}
use Rattle.joint_partition.specs.Term.{JointFamily, JointTerm, PartTerm, PartWalks, StartTerm, WayTerm, credited_nests, no_way, part_walks, walks_from, way_at, way_walks}
use Rattle.joint_partition.proofs.MovedClaims.{nodes-moved}
use Rattle.joint_partition.proofs.PartWalks.{left-member}

-- ---- lists of multipliers, part by part

first-chunk : (condition : ℕ) (place other : List Step) (i j : ℕ) (xs ys : List AffineSystem) (shown : List FarkasMultipliers)
    → AllHold (pointless_claims condition place i (xs ++ ys) shown) → AllHold (pointless_claims condition other j xs shown)
first-chunk condition place other i j [] ys shown h = tt
first-chunk condition place other i j (x ∷ xs) ys [] h = tt
first-chunk condition place other i j (x ∷ xs) ys (m ∷ shown) h = (h.0, (h.1.0, first-chunk condition place other (suc i) (suc j) xs ys shown h.1.1))

rest-chunk : (condition : ℕ) (place : List Step) (i : ℕ) (xs ys : List AffineSystem) (shown : List FarkasMultipliers) → length xs ≤ length shown
    → AllHold (pointless_claims condition place i (xs ++ ys) shown) → (j : ℕ) × AllHold (pointless_claims condition place j ys (drop (length xs) shown))
rest-chunk condition place i [] ys shown enough h = (i, h)
rest-chunk condition place i (x ∷ xs) ys [] enough h = absurd (omega (arith, enough))
rest-chunk condition place i (x ∷ xs) ys (m ∷ shown) enough h = rest-chunk condition place (suc i) xs ys shown (omega (arith, enough)) h.1.1

-- ---- pieces

pub among-in : (program : AffineProgram) (parameters : List ℤ) (some more : List FootprintPiece) (vertex : ℕ) → ((piece : FootprintPiece) → Member piece some → Member piece more)
    → IsInPieces program parameters some vertex → IsInPieces program parameters more vertex
among-in program parameters [] more vertex wider inside = absurd inside
among-in program parameters (p ∷ some) more vertex wider (inl here) = in-pieces program parameters more p vertex (wider p (inl refl)) here
among-in program parameters (p ∷ some) more vertex wider (inr later) = among-in program parameters some more vertex (λ piece m. wider piece (inr m)) later

module _ (program : AffineProgram) (trees : List (List SelectionTree)) (term : JointTerm) where
  abbrev pieces_of : JointFamily → List FootprintPiece
  pieces_of family = family_pieces program trees term family

  -- ---- families of different groups

  module _ (disjoint : DisjointPiecesAreApart) (place : List Step) where
    later-apart : (family : JointFamily) (others : List JointFamily) (i : ℕ) (shown : List FarkasMultipliers) → AllByRecursion (PieceFits program) (pieces_of family)
        → AllByRecursion (λ (other : JointFamily). AllByRecursion (PieceFits program) (pieces_of other)) others
        → length (systems_with_lists program (pieces_of family) (map pieces_of others)) ≤ length shown
        → AllHold (pointless_claims 18 place i (systems_with_lists program (pieces_of family) (map pieces_of others)) shown)
        → AllByRecursion (λ (other : JointFamily). AreApartPieces program (pieces_of family) (pieces_of other)) others
    later-apart family [] i shown fit fits enough h = tt
    later-apart family (other ∷ others) i shown fit fits enough h =
        let own : List AffineSystem = shared_systems program (pieces_of family) (pieces_of other) in
        let more : List AffineSystem = systems_with_lists program (pieces_of family) (map pieces_of others) in
        let many : length own + length more ≤ length shown = omega (arith, length-append own more, enough) in
        let rest = rest-chunk 18 place i own more shown (omega (arith, many)) h in (
          disjoint program 18 place (pieces_of family) (pieces_of other) shown fit fits.0 (omega (arith, many))
              (first-chunk 18 place (place ++ Key (pair_key 18) ∷ []) i 0 own more shown h),
          later-apart family others rest.0 (drop (length own) shown) fit fits.1 (omega (arith, many, length-drop (length own) shown)) rest.1,
        )

    -- each family and each later one of another group
    abbrev AreLaterApart : List JointFamily → Type 0
    AreLaterApart [] = Unit {0}
    AreLaterApart (family ∷ families) =
        AllByRecursion (λ (other : JointFamily). AreApartPieces program (pieces_of family) (pieces_of other)) (of_other_groups family families) × AreLaterApart families

    all-apart : (families : List JointFamily) (i : ℕ) (shown : List FarkasMultipliers) → AllByRecursion (λ (family : JointFamily). AllByRecursion (PieceFits program) (pieces_of family)) families
        → length (group_systems program trees term families) ≤ length shown → AllHold (pointless_claims 18 place i (group_systems program trees term families) shown) → AreLaterApart families
    all-apart [] i shown fits enough h = tt
    all-apart (family ∷ families) i shown fits enough h =
        let others : List JointFamily = of_other_groups family families in
        let own : List AffineSystem = systems_with_lists program (pieces_of family) (map pieces_of others) in
        let more : List AffineSystem = group_systems program trees term families in
        let many : length own + length more ≤ length shown = omega (arith, length-append own more, enough) in
        let rest = rest-chunk 18 place i own more shown (omega (arith, many)) h in (
          later-apart family others i shown fits.0
              (All-from (λ (other : JointFamily). AllByRecursion (PieceFits program) (pieces_of other)) others
              (λ other m. All-member (λ (o : JointFamily). AllByRecursion (PieceFits program) (pieces_of o)) families other fits.1
              (left-member (λ (o : JointFamily). not (o.group == family.group)) families other m).0))
              (omega (arith, many)) (first-chunk 18 place place i i own more shown h),
          all-apart families rest.0 (drop (length own) shown) fits.1 (omega (arith, many, length-drop (length own) shown)) rest.1,
        )

    module _ (parameters : List ℤ) (admitted : IsAdmitted program parameters) (vertex : ℕ) where
      -- so no vertex is in pieces of two families of different groups
      two-apart : (families : List JointFamily) → AreLaterApart families → (one other : JointFamily) → Member one families → Member other families → one.group ≢ other.group
          → IsInPieces program parameters (pieces_of one) vertex → IsInPieces program parameters (pieces_of other) vertex → ⊥
      two-apart [] apart one other m n differ a b = m
      two-apart (family ∷ families) apart one other (inl e) (inl f) differ a b = differ (ap (λ (g : JointFamily). g.group) (e ∙ sym f))
      two-apart (family ∷ families) apart one other (inl e) (inr n) differ a b =
          All-member (λ (o : JointFamily). AreApartPieces program (pieces_of family) (pieces_of o)) (of_other_groups family families) other apart.0
          (Member-filter (λ (o : JointFamily). not (o.group == family.group)) other families n
          (ap not (ne_eqb other.group family.group (λ p. differ (ap (λ (g : JointFamily). g.group) e ∙ sym p)))))
          parameters vertex admitted (subst (λ (f : JointFamily). IsInPieces program parameters (pieces_of f) vertex) e a) b
      two-apart (family ∷ families) apart one other (inr m) (inl f) differ a b =
          All-member (λ (o : JointFamily). AreApartPieces program (pieces_of family) (pieces_of o)) (of_other_groups family families) one apart.0
          (Member-filter (λ (o : JointFamily). not (o.group == family.group)) one families m
          (ap not (ne_eqb one.group family.group (λ p. differ (p ∙ sym (ap (λ (g : JointFamily). g.group) f))))))
          parameters vertex admitted (subst (λ (g : JointFamily). IsInPieces program parameters (pieces_of g) vertex) f b) a
      two-apart (family ∷ families) apart one other (inr m) (inr n) differ a b = two-apart families apart.1 one other m n differ a b

  -- ---- a family's words are in its pieces

  regions-same : (family : JointFamily) (way : WayTerm) (one other : List AffineForm) (first : ℕ) (regions : List (Option WalkRegion))
      → regions_pieces (family_setting program trees [] (way_walks family way) one) first regions ≡ regions_pieces (family_setting program trees [] (way_walks family way) other) first regions
  regions-same family way one other first [] = refl
  regions-same family way one other first (None ∷ regions) = regions-same family way one other (suc first) regions
  regions-same family way one other first (Some region ∷ regions) =
      let here : WalkSetting = family_setting program trees [] (way_walks family way) one in
      let there : WalkSetting = family_setting program trees [] (way_walks family way) other in
      ap (λ (ps : List FootprintPiece). ps ++ regions_pieces here (suc first) regions)
      (same-pieces program trees (way_walks family way) [] [] one other first (region_context here first region.rows) region.tree)
      ∙ ap (λ (ps : List FootprintPiece). region_pieces there first (Some region) ++ ps) (regions-same family way one other (suc first) regions)

  module _ (formed : IsWellFormed program) (trees-fit : RowsFit program 0 trees) (trees-true : RowsAreTrue program 0 trees) (cover : WalkPiecesCover)
      (sound : AllByRecursion (IsSoundPart program (dimensions_of term)) term.parts) (family : JointFamily) (here : List Step)
      (entered : AllByRecursion (λ (start : StartTerm). start.way < length family.ways) family.starts)
      (holds-ways : AllHold (numbered (way_claims program trees term family here) 0 family.ways)) (parameters : List ℤ) (admitted : IsAdmitted program parameters) where
    abbrev AreWalksFit : PartWalks → Type 0
    AreWalksFit from = WalksFit program trees from.part.statement (credited_nests term) from.walks (length family.set)

    abbrev AreCoveredBy : PartWalks → Type 0
    AreCoveredBy from = (vertex : ℕ) → Member vertex (walk_words program parameters from) → IsInPieces program parameters (start_pieces program trees from) vertex
        ⊎ IsInPieces program parameters (flat_map (way_pieces program trees family) family.ways) vertex

    way-there : (number : ℕ) → number < length family.ways → Member (way_at family number) family.ways
    way-there number below = at family.ways number below where
      at : (ways : List WayTerm) (n : ℕ) → n < length ways → Member (slice_index_or ways n no_way) ways
      at [] n less = absurd (omega (arith, less))
      at (w ∷ ways) zero less = inl refl
      at (w ∷ ways) (suc n) less = inr (at ways n (omega (arith, less)))

    split-pieces : (first second : List FootprintPiece) (vertex : ℕ) → IsInPieces program parameters (first ++ second) vertex
        → IsInPieces program parameters first vertex ⊎ IsInPieces program parameters second vertex
    split-pieces [] second vertex h = inr h
    split-pieces (p ∷ first) second vertex (inl h) = inl (inl h)
    split-pieces (p ∷ first) second vertex (inr h) = by (split-pieces first second vertex h) where
      by : IsInPieces program parameters first vertex ⊎ IsInPieces program parameters second vertex → IsInPieces program parameters (p ∷ first) vertex ⊎ IsInPieces program parameters second vertex
      by (inl a) = inl (inr a)
      by (inr b) = inr b

    walks-covered : (index : ℕ) (parts : List PartTerm) → ((part : PartTerm) → Member part parts → Member part term.parts) → (starts : List StartTerm)
        → AllByRecursion (λ (start : StartTerm). start.way < length family.ways) starts → AllByRecursion AreWalksFit (part_walks family parts starts)
        → AllHold (numbered (start_claims program trees term here) index (part_walks family parts starts)) → AllByRecursion AreCoveredBy (part_walks family parts starts)
    walks-covered index [] among starts entered fits h = tt
    walks-covered index (part ∷ parts) among [] entered fits h = tt
    walks-covered index (part ∷ parts) among (start ∷ starts) entered fits h =
        let from : PartWalks = walks_from family part start in
        let way : WayTerm = way_at family start.way in
        let first : List Claim = start_claims program trees term here index from in
        let rest : List Claim = numbered (start_claims program trees term here) (suc index) (part_walks family parts starts) in
        let walk : WalkSetting = family_setting program trees [] from.walks from.walks.start_label in
        let covered : AreCovered program (family_footprint program part.statement part.nest from.walks) (walk_pieces_of program trees part.statement part.nest from.walks) =
        cover program trees part.statement part.nest (credited_nests term) from.walks (length family.set) (member_at here (codes "starts") index ++ Key (codes "tree") ∷ []) []
        formed trees-fit trees-true fits.0 (AllHold-left first rest h)
        (nodes-moved program trees term from.walks (member_at here (codes "ways") start.way) [] 0 from.walks.nodes
        (numbered-member (way_claims program trees term family here) family.ways start.way no_way entered.0 holds-ways))
        (All-member (IsSoundPart program (dimensions_of term)) term.parts part sound (among part (inl refl))).instances in (
          (λ vertex m.
              by (start_pieces program trees from) vertex way (regions_pieces walk 0 walk.nodes) (regions-same family way from.walks.start_label [] 0 walk.nodes) (way-there start.way entered.0)
              (split-pieces (start_pieces program trees from) (regions_pieces walk 0 walk.nodes) vertex
              (covered parameters vertex admitted (member-stands (family_footprint program part.statement part.nest from.walks parameters) vertex m)))),
          walks-covered (suc index) parts (λ p m. among p (inr m)) starts entered.1 fits.1 (AllHold-right first rest h),
        ) where
          by : (own : List FootprintPiece) (vertex : ℕ) (way : WayTerm) (regions : List FootprintPiece) → regions ≡ way_pieces program trees family way → Member way family.ways
              → IsInPieces program parameters own vertex ⊎ IsInPieces program parameters regions vertex
              → IsInPieces program parameters own vertex ⊎ IsInPieces program parameters (flat_map (way_pieces program trees family) family.ways) vertex
          by own vertex way regions e m (inl a) = inl a
          by own vertex way regions e m (inr b) =
              inr (among-in program parameters (way_pieces program trees family way) (flat_map (way_pieces program trees family) family.ways) vertex
              (λ piece n. Member-flat_map (way_pieces program trees family) way family.ways piece m n) (subst (λ (ps : List FootprintPiece). IsInPieces program parameters ps vertex) e b))

    family-covered : AllByRecursion AreCoveredBy (part_walks family term.parts family.starts) → (vertex : ℕ) → Member vertex (words_in (walk_family program term parameters family))
        → IsInPieces program parameters (pieces_of family) vertex
    family-covered all vertex m =
        let of_labeling = Member-flat_map_from (λ (labeling : Labeling). labeling.words) vertex (walk_family program term parameters family).labelings m in
        let number = Member-map_from (labeling_at program term parameters family) of_labeling.0 (range_with_len 0 (length family.labels)) of_labeling.1.0 in
        let of_walks = Member-flat_map_from (walk_words program parameters) vertex (walks_labeled term family number.0)
        (subst (λ (labeling : Labeling). Member vertex labeling.words) number.1.1 of_labeling.1.1) in
        let from = left-member (λ (w : PartWalks). w.labeling == number.0) (part_walks family term.parts family.starts) of_walks.0 of_walks.1.0 in
        by of_walks.0 from.0 (All-member AreCoveredBy (part_walks family term.parts family.starts) of_walks.0 all from.0 vertex of_walks.1.1) where
          starts : List FootprintPiece
          starts = flat_map (start_pieces program trees) (part_walks family term.parts family.starts)

          ways : List FootprintPiece
          ways = flat_map (way_pieces program trees family) family.ways

          by : (from : PartWalks) → Member from (part_walks family term.parts family.starts)
              → IsInPieces program parameters (start_pieces program trees from) vertex ⊎ IsInPieces program parameters ways vertex → IsInPieces program parameters (pieces_of family) vertex
          by from n (inl a) =
              among-in program parameters (start_pieces program trees from) (starts ++ ways) vertex
              (λ piece k. Member-append_left piece starts ways (Member-flat_map (start_pieces program trees) from (part_walks family term.parts family.starts) piece n k)) a
          by from n (inr b) = among-in program parameters ways (starts ++ ways) vertex (λ piece k. Member-append_right piece starts ways k) b

-- ---- all families

-- the words of each family are in its pieces
module _ (cover : WalkPiecesCover) (program : AffineProgram) (trees : List (List SelectionTree)) (term : JointTerm) (place : List Step) (parameters : List ℤ)
    (formed : IsWellFormed program) (trees-fit : RowsFit program 0 trees) (trees-true : RowsAreTrue program 0 trees)
    (sound : AllByRecursion (IsSoundPart program (dimensions_of term)) term.parts) (admitted : IsAdmitted program parameters) where
  pub words-inside : (index : ℕ) (families : List JointFamily) → AllByRecursion (JointFamilyFits program trees term) families
      → AllHold (numbered (family_claims program trees term place) index families)
      → (family : JointFamily) → Member family families → (vertex : ℕ) → Member vertex (words_in (walk_family program term parameters family))
      → IsInPieces program parameters (family_pieces program trees term family) vertex
  words-inside index [] fit h family m vertex n = absurd m
  words-inside index (first ∷ families) fit h family (inr m) vertex n =
      words-inside (suc index) families fit.1 (AllHold-right (family_claims program trees term place index first) (numbered (family_claims program trees term place) (suc index) families) h) family m vertex n
  words-inside index (first ∷ families) fit h family (inl e) vertex n =
      let here : List Step = member_at place (codes "families") index in
      let starts : List Claim = numbered (start_claims program trees term here) 0 (part_walks first term.parts first.starts) in
      let ways : List Claim = numbered (way_claims program trees term first here) 0 first.ways in
      let own : AllHold (starts ++ ways) = AllHold-left (family_claims program trees term place index first) (numbered (family_claims program trees term place) (suc index) families) h in
      let of_ways : AllHold ways = AllHold-right starts ways own in
      let covered = walks-covered program trees term formed trees-fit trees-true cover sound first here fit.0.entered of_ways parameters admitted 0 term.parts (λ p k. k) first.starts
      fit.0.entered fit.0.walks (AllHold-left starts ways own) in
      subst (λ (f : JointFamily). IsInPieces program parameters (family_pieces program trees term f) vertex) (sym e)
      (family-covered program trees term formed trees-fit trees-true cover sound first here fit.0.entered of_ways parameters admitted covered vertex
      (subst (λ (f : JointFamily). Member vertex (words_in (walk_family program term parameters f))) e n))

-- ---- groups

module _ (program : AffineProgram) (trees : List (List SelectionTree)) (term : JointTerm) (parameters : List ℤ)
    (inside : (family : JointFamily) → Member family term.families → (vertex : ℕ) → Member vertex (words_in (walk_family program term parameters family))
    → IsInPieces program parameters (family_pieces program trees term family) vertex) where
  abbrev pub group_at : ℕ → List WalkFamily
  group_at number = map (walk_family program term parameters) (families_in term number)

  -- a word of a group is in the pieces of one of its families
  pub in-family : (number vertex : ℕ) → Member vertex (group_words (group_at number))
      → (family : JointFamily) × (Member family term.families × ((family.group ≡ number) × IsInPieces program parameters (family_pieces program trees term family) vertex))
  in-family number vertex m =
      let of_walk = Member-flat_map_from words_in vertex (group_at number) m in
      let of_family = Member-map_from (walk_family program term parameters) of_walk.0 (families_in term number) of_walk.1.0 in
      let chosen = left-member (λ (f : JointFamily). f.group == number) term.families of_family.0 of_family.1.0 in (
        of_family.0,
        (chosen.0, (eqb-true of_family.0.group number chosen.1, inside of_family.0 chosen.0 vertex (subst (λ (w : WalkFamily). Member vertex (words_in w)) of_family.1.1 of_walk.1.1))),
      )

  module _ (apart : (vertex : ℕ) (one other : JointFamily) → Member one term.families → Member other term.families → one.group ≢ other.group
      → IsInPieces program parameters (family_pieces program trees term one) vertex → IsInPieces program parameters (family_pieces program trees term other) vertex → ⊥) where
    groups-disjoint : (n m : ℕ) → n ≢ m → AreDisjoint (group_words (group_at n)) (group_words (group_at m))
    groups-disjoint n m differ vertex a b =
        let one = in-family n vertex (standing-member (group_words (group_at n)) vertex a) in
        let other = in-family m vertex (standing-member (group_words (group_at m)) vertex b) in
        apart vertex one.0 other.0 one.1.0 other.1.0 (λ e. differ (sym one.1.1.0 ∙ e ∙ other.1.1.0)) one.1.1.1 other.1.1.1

    apart-later : (n : ℕ) (numbers : List ℕ) → AllByRecursion (λ (y : ℕ). nat_eq n y ≡ false) numbers → AllByRecursion (AreDisjoint (group_words (group_at n))) (map group_words (map group_at numbers))
    apart-later n [] h = tt
    apart-later n (m ∷ numbers) h = (groups-disjoint n m (differs n m h.0), apart-later n numbers h.1) where
      differs : (a b : ℕ) → nat_eq a b ≡ false → a ≢ b
      differs a b e p = let yes : nat_eq a b ≡ true = eq-eqb a b p in cc

    pairwise : (numbers : List ℕ) → IsDistinct nat_eq numbers → ArePairwiseDisjoint (map group_words (map group_at numbers))
    unfolding IsDistinct
    pairwise [] h = tt
    pairwise (n ∷ numbers) h = (apart-later n numbers h.0, pairwise numbers h.1)

    pub all-disjoint : ArePairwiseDisjoint (map group_words (map group_at (group_numbers term)))
    all-disjoint = pairwise (group_numbers term) (IsDistinct-distinct (map (λ (family : JointFamily). family.group) term.families))

pub joint-groups-are-apart : WalkPiecesCover → DisjointPiecesAreApart → JointGroupsAreApart
joint-groups-are-apart cover disjoint program trees term place parameters formed trees-fit trees-true fits sound holds holds-apart admitted =
    all-disjoint program trees term parameters (words-inside cover program trees term place parameters formed trees-fit trees-true sound admitted 0 term.families fits.families holds)
    (λ vertex one other m n differ a b.
    two-apart program trees term disjoint list parameters admitted vertex term.families
    (all-apart program trees term disjoint list term.families 0 term.apart fits.pieces fits.enough holds-apart) one other m n differ a b) where
      list : List Step
      list = place ++ Key (codes "apart") ∷ []
