-- What walks claim at the leaves of source trees that keep loops.
use Rattle.std.proofs.Common.{◌≡◌, refl, sym, ◌∙◌, ap, subst, ℕ, zero, suc, ◌+◌, ◌*◌, ◌<◌, ◌≤◌, List, [], ◌∷◌, ◌++◌, length, map, get_or, replicate, arith, Bool, true}
use Rattle.std.specs.Prelude.{Option, Some, None, option_map, IsSomeAnd, ◌==◌, if◌then◌else◌, pos, codes}
use Rattle.std.specs.List.{AllByRecursion}
use Rattle.std.proofs.lemmas.Bool.{eq-eqb}
use Rattle.std.proofs.lemmas.List.{length-append, length-map, length-replicate, length-set}
use Rattle.std.proofs.lemmas.List.FromFn.{get_or-map-range_with_len}
use Rattle.iolb_model.specs.Form.{AffineForm}
use Rattle.iolb_model.specs.Program.{AffineProgram, statement_at}
use Rattle.projective.specs.Turns.{width}
use Rattle.claims.specs.Claims.{AllHold}
use Rattle.claims.specs.declared.place.Step.{Step}
use Rattle.claims.specs.declared.place.Step.TheVariants.{Key, Index}
use Rattle.claims.proofs.Laws.{AllHold-append, AllHold-left, AllHold-right}
use Rattle.affine_form.specs.Form.{variables}
use Rattle.affine_form.specs.System.{AffineSystem, AllOver}
use Rattle.affine_program.specs.Domain.{depth_of}
use Rattle.claims.specs.Shown.{IsFew, follow_claims}
use Rattle.dep_quast.specs.Context.{ReadOf, reference_of}
use Rattle.dep_quast.specs.Tree.{SelectionTree, leaf, test, source, input, empty, blank}
use Rattle.reuse_paths.specs.EntryClaims.{going_goals, label_claims, leaf_claims, word_label}
use Rattle.reuse_paths.specs.Families.{FamilyForms, label_at, node_label, node_region}
use Rattle.reuse_paths.specs.FamilyClaims.{family_setting}
use Rattle.reuse_paths.specs.LeafClaims.{LeafClaim, goes_on, stops}
use Rattle.dep_quast.specs.OpenLeaves.{OpenLeaf, as_input, form_at, no_at, open_leaves, written}
use Rattle.dep_quast.specs.Trees.{read_of}
use Rattle.reuse_paths.specs.WalkClaims.{leaves_claims}
use Rattle.reuse_paths.specs.WalkFits.{EntriesFit}
use Rattle.reuse_paths.specs.WalkSettings.{KeptLabels, WalkSetting, entering_rows, forms_behind, reading_point, region_at, region_variables}
use Rattle.reuse_paths.specs.Walks.{WalkRegion}
use Rattle.projective_bounds.specs.Families.{array_family, array_node, array_subscripts, array_walk, cell_label, entries_of, label_if, loop_form, loops_label, place_among}
use Rattle.projective_bounds.specs.Multipliers.{labels_agree, none_taken}
use Rattle.projective_bounds.specs.Trees.{KeepsLoops}
use Rattle.projective_bounds.proofs.Forms.{agree-hold}
use Rattle.projective_bounds.proofs.ReaderLabels.{cells-kept, loops-kept, none}

-- multipliers that aren't there show nothing
no-rows : (condition : ℕ) (place : List Step) (system : AffineSystem) (index : ℕ) (goals : List AffineForm) → AllHold (follow_claims condition place system index goals [])
no-rows condition place system index [] = tt
no-rows condition place system index (g ∷ goals) = tt

module _ (program : AffineProgram) (trees : List (List SelectionTree)) (array : ℕ) (set : List ℕ) (weight : ℕ) where
  abbrev pub p : ℕ
  p = length program.parameters

  abbrev pub d : ℕ
  d = depth_of program 0

  abbrev pub family : FamilyForms
  family = array_family program trees array set weight

  abbrev pub label : List AffineForm
  label = loops_label program set

  abbrev pub walk : WalkSetting
  walk = family_setting program trees [] family label

  abbrev pub vars : ℕ
  vars = region_variables walk 0

  abbrev pub size : ℕ
  size = length set

  abbrev pub is_written : Bool
  is_written = (statement_at program 0).writes.array == array

  abbrev pub whole_region : WalkRegion
  whole_region = record { rows = []; tree = array_walk program trees array (length set) }

  flat : p + 0 ≡ p
  flat = omega arith

  pub all-variables : vars ≡ width program
  all-variables = ap (λ (n : ℕ). n + d) flat

  label-over : (loops : List ℕ) → AllOver (width program) (loops_label program loops)
  label-over [] = tt
  label-over (loop ∷ loops) = ((All-at-variable loop), label-over loops) where
    All-at-variable : (l : ℕ) → variables (loop_form program l) ≡ width program
    All-at-variable l = length-set (replicate (width program) (pos 0)) (p + l) (pos 1) ∙ length-replicate (width program) (pos 0)

  pub own-over : AllOver vars label
  own-over = subst (λ (n : ℕ). AllOver n label) (sym all-variables) (label-over set)

  -- the node of an array that is written
  pub node-is : is_written ≡ true → array_node program trees array set ≡ Some (record { label = label; region = Some whole_region })
  node-is e = ap (λ (b : Bool). if b then Some (record { label = label; region = Some whole_region }) else None) e

  region-is : is_written ≡ true → region_at walk.nodes 0 ≡ Some whole_region
  region-is e = ap node_region (node-is e)

  instance-label : is_written ≡ true → label_at (map node_label family.nodes) 0 ≡ Some label
  instance-label e = ap node_label (node-is e)

  -- ---- what is claimed of labels

  labels-hold : (word : List AffineForm) (found : Option (List AffineForm)) (place : List Step) (key : List ℕ) (rows : List AffineForm) → found ≡ Some word → word ≡ label
      → AllHold (label_claims label place key (record { vars = vars; rows = rows }) found (labels_agree size))
  labels-hold word found place key rows e same =
      subst (λ (o : Option (List AffineForm)). AllHold (label_claims label place key (record { vars = vars; rows = rows }) o (labels_agree size))) (sym e)
      (agree-hold 14 (place ++ Key key ∷ []) (record { vars = vars; rows = rows }) 0 word label (2 * size) same own-over)

  abbrev pub kept : KeptLabels
  kept = record { reader = label; instances = map node_label family.nodes; cells = family.inputs; credits = [] }

  abbrev pub here : List AffineForm
  here = reading_point walk 0

  -- there are as many entries as leaves
  pub as-many-leaves : (tests : List AffineForm) (tree : SelectionTree) → length (open_leaves vars here tests tree) ≡ length (entries_of size tree)
  as-many-leaves tests (leaf (source claim)) = refl
  as-many-leaves tests (leaf (input shown)) = refl
  as-many-leaves tests (leaf (empty shown)) = refl
  as-many-leaves tests (leaf blank) = refl
  as-many-leaves tests (test form above below) =
      omega (
        arith,
        length-append (open_leaves vars here (tests ++ form_at vars here form ∷ []) above) (open_leaves vars here (tests ++ no_at vars here form ∷ []) below),
        length-append (entries_of size above) (entries_of size below),
        as-many-leaves (tests ++ form_at vars here form ∷ []) above,
        as-many-leaves (tests ++ no_at vars here form ∷ []) below,
      )

  module _ (inside : AllByRecursion (λ (loop : ℕ). loop < d) set) (read : ℕ) where
    abbrev reader : ReadOf
    reader = read_of 0 read

    -- ---- a source

    abbrev KeepsAt : List AffineForm → Type 0
    KeepsAt values = (length values ≡ d) × AllByRecursion (λ (form : AffineForm). variables form ≡ width program) values × AllByRecursion (λ (loop : ℕ). get_or values loop none ≡ loop_form program loop) set

    source-label : (statement : ℕ) (values : List AffineForm) → is_written ≡ true → statement ≡ 0 → KeepsAt values
        → word_label walk kept reader vars here (written statement values) ≡ Some (forms_behind walk vars (map (form_at vars here) values) label)
    source-label statement values e at h =
        ap (option_map (forms_behind walk vars (map (form_at vars here) values))) (ap (label_at (map node_label family.nodes)) at ∙ instance-label e)

    source-kept : (values : List AffineForm) → KeepsAt values → forms_behind walk vars (map (form_at vars here) values) label ≡ label
    source-kept values h = loops-kept p d (p + 0) vars flat all-variables values h.1 set h.0 inside h.2

    goals-none : (statement : ℕ) (values : List AffineForm) → is_written ≡ true → statement ≡ 0 → going_goals walk vars here (written statement values) ≡ []
    goals-none statement values e at = ap (λ (o : Option WalkRegion). entering_rows walk vars o (map (form_at vars here) values)) (ap (region_at walk.nodes) at ∙ region-is e)

    source-holds : (place : List Step) (rows tests : List AffineForm) (statement : ℕ) (values : List AffineForm) → is_written ≡ true → statement ≡ 0 → KeepsAt values → IsFew (length (rows ++ tests))
        → AllHold (leaf_claims 15 walk reader place rows (record { tests = tests; origin = written statement values }) (goes_on [] (labels_agree size)))
    source-holds place rows tests statement values e at h few = (
      few,
      (
        subst (λ (o : Option WalkRegion). IsSomeAnd o (λ region. Unit {0})) (sym (ap (region_at walk.nodes) at ∙ region-is e)) tt,
        AllHold-append (follow_claims 15 (place ++ Key (codes "rows") ∷ []) (record { vars = vars; rows = rows ++ tests }) 0 (going_goals walk vars here (written statement values)) [])
            (label_claims label place (codes "label") (record { vars = vars; rows = rows ++ tests }) (word_label walk kept reader vars here (written statement values)) (labels_agree size))
            (no-rows 15 (place ++ Key (codes "rows") ∷ []) (record { vars = vars; rows = rows ++ tests }) 0 (going_goals walk vars here (written statement values)))
            (labels-hold (forms_behind walk vars (map (form_at vars here) values) label) (word_label walk kept reader vars here (written statement values)) place (codes "label") (rows ++ tests)
            (source-label statement values e at h) (source-kept values h)),
      ),
    )

    -- ---- an input

    module _ (there : array < length program.arrays) (reads : (reference_of program reader).array ≡ array) (over : AllOver (width program) (reference_of program reader).subscripts)
        (stand : AllByRecursion (λ (loop : ℕ). (place_among (reference_of program reader).subscripts (p + loop) < length (reference_of program reader).subscripts)
        × (get_or (reference_of program reader).subscripts (place_among (reference_of program reader).subscripts (p + loop)) none ≡ loop_form program loop)) set)
        (same : array_subscripts program array ≡ (reference_of program reader).subscripts) where
      abbrev subs : List AffineForm
      subs = (reference_of program reader).subscripts

      cells-label : label_at family.inputs (reference_of program reader).array ≡ Some (cell_label program subs set)
      cells-label =
          ap (label_at family.inputs) reads ∙ get_or-map-range_with_len (label_if program array set) 0 (length program.arrays) array array None there (front array)
          ∙ ap (λ (b : Bool). if b then Some (cell_label program (array_subscripts program array) set) else None) (eq-eqb array array refl)
          ∙ ap (λ (forms : List AffineForm). Some (cell_label program forms set)) same where
            front : (n : ℕ) → 0 + n ≡ n
            front n = omega arith

      input-label : word_label walk kept reader vars here as_input ≡ Some (forms_behind walk vars (map (form_at vars here) subs) (cell_label program subs set))
      input-label = ap (option_map (forms_behind walk vars (map (form_at vars here) subs))) cells-label

      input-kept : forms_behind walk vars (map (form_at vars here) subs) (cell_label program subs set) ≡ label
      input-kept = cells-kept p d (p + 0) vars flat all-variables subs over (λ (loop : ℕ). place_among subs (p + loop)) set inside stand

      input-holds : (place : List Step) (rows tests : List AffineForm) → IsFew (length (rows ++ tests))
          → AllHold (leaf_claims 15 walk reader place rows (record { tests = tests; origin = as_input }) (stops (labels_agree size)))
      input-holds place rows tests few = (
        few,
        (
          refl,
          labels-hold (forms_behind walk vars (map (form_at vars here) subs) (cell_label program subs set)) (word_label walk kept reader vars here as_input) place (codes "stop") (rows ++ tests) input-label input-kept,
        ),
      )

      -- ---- all leaves of a tree

      -- leaves one after another
      join : (place : List Step) (rows : List AffineForm) (index : ℕ) (xs ys : List OpenLeaf) (es fs : List LeafClaim) → length xs ≡ length es → AllHold (leaves_claims 15 walk reader place rows index xs es)
          → ((i : ℕ) → AllHold (leaves_claims 15 walk reader place rows i ys fs)) → AllHold (leaves_claims 15 walk reader place rows index (xs ++ ys) (es ++ fs))
      join place rows index [] ys [] fs e h g = g index
      join place rows index [] ys (c ∷ es) fs e h g = absurd (omega arith)
      join place rows index (x ∷ xs) ys [] fs e h g = absurd (omega arith)
      join place rows index (x ∷ xs) ys (c ∷ es) fs e h g =
          AllHold-append (leaf_claims 15 walk reader (place ++ Index index ∷ []) rows x c) (leaves_claims 15 walk reader place rows (suc index) (xs ++ ys) (es ++ fs))
          (AllHold-left (leaf_claims 15 walk reader (place ++ Index index ∷ []) rows x c) (leaves_claims 15 walk reader place rows (suc index) xs es) h)
          (join place rows (suc index) xs ys es fs (omega arith)
          (AllHold-right (leaf_claims 15 walk reader (place ++ Index index ∷ []) rows x c) (leaves_claims 15 walk reader place rows (suc index) xs es) h) g)

      pub tree-holds : (place : List Step) (rows : List AffineForm) (nested : ℕ) (tests : List AffineForm) (tree : SelectionTree) (index : ℕ) → KeepsLoops program is_written set nested tree
          → length rows + length tests + nested ≤ 128 → AllHold (leaves_claims 15 walk reader place rows index (open_leaves vars here tests tree) (entries_of size tree))
      tree-holds place rows nested tests (leaf (source claim)) index keeps few =
          AllHold-append (leaf_claims 15 walk reader (place ++ Index index ∷ []) rows (record { tests = tests; origin = written claim.statement claim.point }) (goes_on [] (labels_agree size))) []
          (source-holds (place ++ Index index ∷ []) rows tests claim.statement claim.point keeps.0 keeps.1 (keeps.2, keeps.3, keeps.4) (omega (arith, length-append rows tests))) tt
      tree-holds place rows nested tests (leaf (input shown)) index keeps few =
          AllHold-append (leaf_claims 15 walk reader (place ++ Index index ∷ []) rows (record { tests = tests; origin = as_input }) (stops (labels_agree size))) []
          (input-holds (place ++ Index index ∷ []) rows tests (omega (arith, length-append rows tests))) tt
      tree-holds place rows nested tests (leaf (empty shown)) index keeps few = absurd keeps
      tree-holds place rows nested tests (leaf blank) index keeps few = absurd keeps
      tree-holds place rows zero tests (test form above below) index keeps few = absurd keeps
      tree-holds place rows (suc nested) tests (test form above below) index keeps few =
          join place rows index (open_leaves vars here (tests ++ form_at vars here form ∷ []) above) (open_leaves vars here (tests ++ no_at vars here form ∷ []) below) (entries_of size above) (entries_of size below)
          (as-many-leaves (tests ++ form_at vars here form ∷ []) above)
          (tree-holds place rows nested (tests ++ form_at vars here form ∷ []) above index keeps.0 (omega (arith, length-append tests (form_at vars here form ∷ []))))
          (λ i. tree-holds place rows nested (tests ++ no_at vars here form ∷ []) below i keeps.1 (omega (arith, length-append tests (no_at vars here form ∷ []))))

      -- ---- the entries fit

      fit-both : (xs ys : List OpenLeaf) (es fs : List LeafClaim) → EntriesFit walk reader xs es → EntriesFit walk reader ys fs → EntriesFit walk reader (xs ++ ys) (es ++ fs)
      fit-both [] ys [] fs h g = g
      fit-both [] ys (c ∷ es) fs h g = absurd h
      fit-both (x ∷ xs) ys [] fs h g = absurd h
      fit-both (x ∷ xs) ys (c ∷ es) fs h g = (h.0, fit-both xs ys es fs h.1 g)

      agree-many : length (labels_agree size) ≡ 2 * length label
      agree-many = length-replicate (2 * size) none_taken ∙ ap (λ (n : ℕ). 2 * n) (sym (length-map set (loop_form program)))

      pub tree-fits : (nested : ℕ) (tests : List AffineForm) (tree : SelectionTree) → KeepsLoops program is_written set nested tree → EntriesFit walk reader (open_leaves vars here tests tree) (entries_of size tree)
      tree-fits nested tests (leaf (source claim)) keeps = ((ap (λ (fs : List AffineForm). length fs) (sym (goals-none claim.statement claim.point keeps.0 keeps.1)), agree-many), tt)
      tree-fits nested tests (leaf (input shown)) keeps = (agree-many, tt)
      tree-fits nested tests (leaf (empty shown)) keeps = absurd keeps
      tree-fits nested tests (leaf blank) keeps = absurd keeps
      tree-fits zero tests (test form above below) keeps = absurd keeps
      tree-fits (suc nested) tests (test form above below) keeps =
          fit-both (open_leaves vars here (tests ++ form_at vars here form ∷ []) above) (open_leaves vars here (tests ++ no_at vars here form ∷ []) below) (entries_of size above) (entries_of size below)
          (tree-fits nested (tests ++ form_at vars here form ∷ []) above keeps.0) (tree-fits nested (tests ++ no_at vars here form ∷ []) below keeps.1)
