-- Where what is asked of a walk holds, it fits the program.
use Rattle.std.proofs.Common.{Bool, ◌≡◌, refl, sym, ◌∙◌, ap, subst, ℕ, zero, suc, ◌+◌, ◌*◌, ◌<◌, ◌≤◌, List, [], ◌∷◌, ◌++◌, length, map, arith, zero-add}
use Rattle.std.specs.Prelude.{if◌then◌else◌, Option, Some, None, slice_get, slice_index_or, IsSomeAnd, codes}
use Rattle.std.specs.List.{AllByRecursion}
use Rattle.std.proofs.lemmas.Bool.{eq-eqb}
use Rattle.std.proofs.lemmas.List.{length-map}
use Rattle.std.proofs.Math.Nat.{add-zero}
use Rattle.iolb_model.specs.Form.{AffineForm}
use Rattle.iolb_model.specs.Program.{AffineProgram, statement_at}
use Rattle.claims.specs.Claims.{Claim, AllHold, numbered}
use Rattle.claims.specs.declared.place.Step.{Step}
use Rattle.claims.specs.declared.place.Step.TheVariants.{Key, Index}
use Rattle.claims.proofs.Laws.{AllHold-left, AllHold-right}
use Rattle.claims.proofs.Members.{suc-moved}
use Rattle.affine_form.specs.Rows.{variables_from}
use Rattle.affine_program.specs.Domain.{depth_of}
use Rattle.dep_quast.specs.Context.{ReadOf}
use Rattle.dep_quast.specs.Tree.{source, input, empty, blank, SelectionTree, leaf, test}
use Rattle.dep_quast.specs.Truth.{ReadFits}
use Rattle.affine_form.specs.Multipliers.{FarkasMultipliers}
use Rattle.reuse_paths.specs.Families.{CreditedNest}
use Rattle.reuse_paths.specs.LeafClaims.{LeafClaim, no_point, stops, is_credited, goes_on, arrives}
use Rattle.dep_quast.specs.OpenLeaves.{LeafOrigin, OpenLeaf, form_at, no_at, open_leaves}
use Rattle.dep_quast.specs.Quasts.{tree_or_blank, tree_for}
use Rattle.reuse_paths.specs.EntryClaims.{going_goals}
use Rattle.reuse_paths.specs.WalkSettings.{WalkSetting, spot_variables, region_variables, reading_point, region_at, entering_rows, WalkAim, arrives_at, keeps}
use Rattle.reuse_paths.specs.ReachFits.{ShownFits, FitsIn}
use Rattle.reuse_paths.specs.WalkFits.{NestFits, SpotFits, EntriesFit, TakeFits, WalkFits, RegionFits, RegionsFit, AimedFits}
use Rattle.dep_quast.specs.Trees.{RowsFit, read_of}
use Rattle.reuse_paths.specs.Walks.{WalkTree, take, test as walk_test, WalkRegion, SpotForms, ReachClaim, same, walked}
use Rattle.certificate_fit.specs.EntryFit.{nest_variables, aimed_fit, aimed_at, aimed_entries_fit, names_in, leaf_names}
use Rattle.certificate_fit.specs.FitClaims.{names}
use Rattle.certificate_fit.specs.Limits.{AreSmall, IsNestedWalk, IsSmallNode, IsSmallReach}
use Rattle.certificate_fit.specs.PartFit.{forms_fit, shown_fit}
use Rattle.certificate_fit.specs.TreeFit.{trees_fit}
use Rattle.certificate_fit.specs.WalkFit.{aim_of_entries, entry_aim, row_count, rows_called, take_fit, walk_fit, region_fit, region_fit_at, fit_in, spot_fit}
use Rattle.iolb_model.specs.declared.limits.TheConstants.{TREE_TESTS}
use Rattle.certificate_fit.proofs.ReadTrees.{names-of, tree-of}
use Rattle.certificate_fit.proofs.TreeParts.{forms-over}

-- a spot fits
pub spot-fits : (program : AffineProgram) (vars : ℕ) (place : List Step) (spot : SpotForms) → AreSmall spot.point → AllHold (spot_fit program vars place spot) → SpotFits program vars spot
spot-fits program vars place spot small h =
    let forms : List Claim = forms_fit vars (place ++ Key (codes "point") ∷ []) spot.point in
    let last : List Claim = names (place ++ Key (codes "statement") ∷ []) spot.statement (length program.statements) ∷ [] in record {
      there = (AllHold-right forms last h.1).0;
      point = h.0;
      forms = forms-over vars (place ++ Key (codes "point") ∷ []) 0 spot.point small (AllHold-left forms last h.1);
    }

-- a credit that is there has as many variables as its number gives
credited : (credits : List CreditedNest) (number : ℕ) (rows : List FarkasMultipliers) → number < length credits → length rows ≡ 2 * nest_variables (slice_get credits number)
    → IsSomeAnd (slice_get credits number) (λ credit. length rows ≡ 2 * length credit.nest)
credited [] number rows below e = absurd (omega (arith, below))
credited (credit ∷ credits) zero rows below e = e
credited (credit ∷ credits) (suc number) rows below e = credited credits number rows (omega (arith, below)) e

module _ (walk : WalkSetting) where
  entering-many : (vars : ℕ) (region : Option WalkRegion) (values : List AffineForm) → length (entering_rows walk vars region values) ≡ row_count region
  entering-many vars None values = refl
  entering-many vars (Some region) values = length-map region.rows (form_at vars (variables_from vars 0 (spot_variables walk) ++ values))

  -- ---- entries at leaves

  module _ (vars : ℕ) (point : List AffineForm) where
    -- the rows that say that a walk may go on from leaves are as many as called for
    abbrev Called : List OpenLeaf → List (Option ℕ) → Type 0
    Called [] [] = Unit {0}
    Called [] (name ∷ named) = ⊥
    Called (l ∷ leaves) [] = ⊥
    Called (l ∷ leaves) (name ∷ named) = (length (going_goals walk vars point l.origin) ≡ rows_called walk.nodes name) × Called leaves named

    Called-append : (ls ms : List OpenLeaf) (ns os : List (Option ℕ)) → Called ls ns → Called ms os → Called (ls ++ ms) (ns ++ os)
    Called-append [] ms [] os h k = k
    Called-append [] ms (n ∷ ns) os h k = absurd h
    Called-append (l ∷ ls) ms [] os h k = absurd h
    Called-append (l ∷ ls) ms (n ∷ ns) os h k = (h.0, Called-append ls ms ns os h.1 k)

    called : (tests : List AffineForm) (tree : SelectionTree) → Called (open_leaves vars point tests tree) (names_in tree)
    called tests (leaf (source claim)) = (entering-many vars (region_at walk.nodes claim.statement) (map (form_at vars point) claim.point), tt)
    called tests (leaf (input shown)) = (refl, tt)
    called tests (leaf (empty shown)) = tt
    called tests (leaf blank) = (refl, tt)
    called tests (test form above below) =
        Called-append (open_leaves vars point (tests ++ form_at vars point form ∷ []) above) (open_leaves vars point (tests ++ no_at vars point form ∷ []) below) (names_in above) (names_in below)
        (called (tests ++ form_at vars point form ∷ []) above) (called (tests ++ no_at vars point form ∷ []) below)

    -- what is called for at the leaves from one on
    abbrev Asked : List ℕ → ℕ → List (Option ℕ) → Type 0
    Asked all i named = (k : ℕ) → slice_index_or all (i + k) 0 ≡ slice_index_or (map (rows_called walk.nodes) named) k 0

    past : (all : List ℕ) (i : ℕ) (name : Option ℕ) (named : List (Option ℕ)) → Asked all i (name ∷ named) → Asked all (suc i) named
    past all i name named asked k = ap (λ (n : ℕ). slice_index_or all n 0) (suc-moved i k) ∙ asked (suc k)

  module _ (reader : ReadOf) where
    abbrev vars : ℕ
    vars = region_variables walk reader.statement

    abbrev point : List AffineForm
    point = reading_point walk reader.statement

    -- an entry fits, whatever is asked of the walk
    aimed : (aim : WalkAim) (origin : LeafOrigin) (called : ℕ) (entry : LeafClaim) (place : List Step) → called ≡ length (going_goals walk vars point origin)
        → AllHold (aimed_fit (aim_of_entries walk.program aim) called entry place) → AimedFits walk aim reader origin entry
    aimed (arrives_at target) origin called (no_point shown) place e h = tt
    aimed (arrives_at target) origin called (stops label) place e h = h.0
    aimed (arrives_at target) origin called (is_credited credit rows label) place e h = absurd (omega (arith, h.0))
    aimed (arrives_at target) origin called (goes_on rows label) place e h = (h.1.0 ∙ e, h.0)
    aimed (arrives_at target) origin called (arrives equal) place e h = h.0
    aimed (keeps kept) origin called (no_point shown) place e h = tt
    aimed (keeps kept) origin called (stops label) place e h = h.0
    aimed (keeps kept) origin called (is_credited credit rows label) place e h = (credited kept.credits credit rows h.0 h.1.1.0, h.1.0)
    aimed (keeps kept) origin called (goes_on rows label) place e h = (h.1.0 ∙ e, h.0)
    aimed (keeps kept) origin called (arrives equal) place e h = h.0

    entries-fit : (place : List Step) (all : List ℕ) (i : ℕ) (leaves : List OpenLeaf) (named : List (Option ℕ)) (entries : List LeafClaim) → Called vars point leaves named
        → Asked vars point all i named → length entries ≡ length named
        → AllHold (numbered (aimed_at (entry_aim walk) all place) i entries) → EntriesFit walk reader leaves entries
    entries-fit place all i [] [] [] c asked many h = tt
    entries-fit place all i [] [] (entry ∷ entries) c asked many h = absurd (omega (arith, many))
    entries-fit place all i [] (name ∷ named) entries c asked many h = absurd c
    entries-fit place all i (l ∷ leaves) [] entries c asked many h = absurd c
    entries-fit place all i (l ∷ leaves) (name ∷ named) [] c asked many h = absurd (omega (arith, many))
    entries-fit place all i (l ∷ leaves) (name ∷ named) (entry ∷ entries) c asked many h =
        let here : List Claim = aimed_at (entry_aim walk) all place i entry in
        let rest : List Claim = numbered (aimed_at (entry_aim walk) all place) (suc i) entries in (
          aimed walk.aim l.origin (slice_index_or all i 0) entry (place ++ Index i ∷ []) (ap (λ (n : ℕ). slice_index_or all n 0) (sym (add-zero i)) ∙ asked 0 ∙ sym c.0) (AllHold-left here rest h),
          entries-fit place all (suc i) leaves named entries c.1 (past vars point all i name named asked) (omega (arith, many)) (AllHold-right here rest h),
        )

  -- ---- walks and regions

  module _ (fit : AllHold (trees_fit walk.program walk.trees)) (rows : RowsFit walk.program 0 walk.trees) where
    take-fits : (place : List Step) (statement read : ℕ) (entries : List LeafClaim) → statement < length walk.program.statements
        → AllHold (take_fit walk (read_of statement read) place entries) → TakeFits walk statement read entries
    take-fits place statement read entries there h =
        let reader : ReadOf = read_of statement read in
        let asked : List (Option ℕ) = leaf_names walk.program walk.trees reader in
        let middle : List Claim = aimed_entries_fit (entry_aim walk) (map (rows_called walk.nodes) asked) (place ++ Key (codes "leaves") ∷ []) entries in
        let last : List Claim = names (place ++ Key (codes "read") ∷ []) read (length (statement_at walk.program statement).reads) ∷ [] in
        let read_fits : ReadFits walk.program reader = record { statement = there; read = (AllHold-right middle last h.1).0 } in
        let chosen = tree-of walk.program walk.trees reader read_fits fit rows in
        let is : tree_for walk.trees reader ≡ chosen.0 = ap tree_or_blank chosen.1.there in
        let vars : ℕ = region_variables walk statement in
        let point : List AffineForm = reading_point walk statement in
        let in_tree : asked ≡ names_in chosen.0 = names-of walk.program walk.trees reader chosen.0 read_fits.read chosen.1.there in
        let entries_in : EntriesFit walk reader (open_leaves vars point [] chosen.0) entries =
        entries-fit reader (place ++ Key (codes "leaves") ∷ []) (map (rows_called walk.nodes) asked) 0 (open_leaves vars point [] chosen.0) (names_in chosen.0) entries (called vars point [] chosen.0)
        (λ k. ap (λ (n : ℕ). slice_index_or (map (rows_called walk.nodes) asked) n 0) (zero-add k) ∙ ap (λ (l : List (Option ℕ)). slice_index_or (map (rows_called walk.nodes) l) k 0) in_tree)
        (h.0 ∙ ap length in_tree) (AllHold-left middle last h.1) in record {
          read_fits = read_fits;
          there = chosen.1.there ∙ ap (λ (t : SelectionTree). Some t) (sym is);
          entries_fit = subst (λ (t : SelectionTree). EntriesFit walk reader (open_leaves vars point [] t) entries) (sym is) entries_in;
        }

    pub walk-fits : (nested : ℕ) (place : List Step) (statement : ℕ) (tree : WalkTree) → statement < length walk.program.statements → IsNestedWalk nested tree
        → AllHold (walk_fit walk statement place tree) → WalkFits walk statement tree
    walk-fits nested place statement (take read entries) there small h = take-fits place statement read entries there h
    walk-fits zero place statement (walk_test form above below) there small h = absurd small
    walk-fits (suc nested) place statement (walk_test form above below) there small h =
        let no : List Claim = walk_fit walk statement (place ++ Key (codes "no") ∷ []) below in
        let yes : List Claim = walk_fit walk statement (place ++ Key (codes "yes") ∷ []) above in (
          record { over = h.0; small = small.0 },
          walk-fits nested (place ++ Key (codes "yes") ∷ []) statement above there small.1 (AllHold-right no yes h.1),
          walk-fits nested (place ++ Key (codes "no") ∷ []) statement below there small.2 (AllHold-left no yes h.1),
        )

    pub region-fits : (place : List Step) (statement : ℕ) (region : Option WalkRegion) → statement < length walk.program.statements → IsSmallNode region
        → AllHold (region_fit_at walk statement place region) → RegionFits walk statement region
    region-fits place statement None there small h = tt
    region-fits place statement (Some region) there small h =
        let vars : ℕ = region_variables walk statement in
        let forms : List Claim = forms_fit vars (place ++ Key (codes "rows") ∷ []) region.rows in
        let tree : List Claim = walk_fit walk statement (place ++ Key (codes "tree") ∷ []) region.tree in (
          forms-over vars (place ++ Key (codes "rows") ∷ []) 0 region.rows small.rows (AllHold-left forms tree h),
          walk-fits TREE_TESTS (place ++ Key (codes "tree") ∷ []) statement region.tree there small.tree.nested (AllHold-right forms tree h),
        )

    regions-fit : (place : List Step) (statement : ℕ) (nodes : List (Option WalkRegion)) → statement + length nodes ≤ length walk.program.statements → AllByRecursion IsSmallNode nodes
        → AllHold (numbered (region_fit walk place) statement nodes) → RegionsFit walk statement nodes
    regions-fit place statement [] le small h = tt
    regions-fit place statement (region ∷ nodes) le small h =
        let here : List Claim = region_fit walk place statement region in
        let rest : List Claim = numbered (region_fit walk place) (suc statement) nodes in (
          region-fits (place ++ Index statement ∷ []) statement region (omega (arith, le)) small.0 (AllHold-left here rest h),
          regions-fit place (suc statement) nodes (omega (arith, le)) small.1 (AllHold-right here rest h),
        )

module _ (walk : WalkSetting) (target : SpotForms) (aim : walk.aim ≡ arrives_at target) (fit : AllHold (trees_fit walk.program walk.trees)) (rows : RowsFit walk.program 0 walk.trees) where
  shown-fits : (place : List Step) (from : SpotForms) (reach : ReachClaim) → IsSmallReach reach → AllHold (fit_in walk target from place reach) → ShownFits walk target from reach
  shown-fits place from (same equal) small h = λ e.
      h.0 ∙ ap (λ (b : Bool). if b then 2 * depth_of walk.program from.statement else 0) (eq-eqb from.statement target.statement e)
  shown-fits place from (walked start nodes) small h =
      let regions : List Claim = numbered (region_fit walk (place ++ Key (codes "nodes") ∷ [])) 0 nodes in
      let last : List Claim = shown_fit (row_count (region_at nodes from.statement)) (place ++ Key (codes "start") ∷ []) start ∷ [] in (
        (AllHold-right regions last h.1).0 ∙ sym (entering-many walk (spot_variables walk) (region_at nodes from.statement) from.point),
        h.0,
        regions-fit walk fit rows (place ++ Key (codes "nodes") ∷ []) 0 nodes (omega (arith, h.0)) small.1 (AllHold-left regions last h.1),
      )

  -- a walk between two spots that fit does
  pub reach-fits : (place : List Step) (from : SpotForms) (reach : ReachClaim) → NestFits walk.program walk.nest → SpotFits walk.program (spot_variables walk) from
      → SpotFits walk.program (spot_variables walk) target → IsSmallReach reach → AllHold (fit_in walk target from place reach) → FitsIn walk target from reach
  reach-fits place from reach nest from_fits to_fits small h = record { nest = nest; from_fits = from_fits; to_fits = to_fits; shown = shown-fits place from reach small h }
