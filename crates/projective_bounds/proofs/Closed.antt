-- Entries close the leaves of a read's source tree, where each loop that doesn't stand in the reference is in its first turn.
use Rattle.std.proofs.Common.{◌≡◌, ◌≢◌, refl, sym, ◌∙◌, ap, subst, inl, inr, ℕ, zero, suc, ◌+◌, ◌<◌, ◌≤◌, Bool, true, false, List, [], ◌∷◌, ◌++◌, length, get_or, arith, lit≤, lit<}
use Rattle.std.specs.Prelude.{◌==◌, ◌||◌, if◌then◌else◌}
use Rattle.std.specs.List.{AllByRecursion, list_any}
use Rattle.std.proofs.Math.IntN.{ℤ, pos, negsuc, ◌+ℤ◌}
use Rattle.std.proofs.lemmas.Bool.{eqb-true}
use Rattle.std.proofs.lemmas.Int.{ints}
use Rattle.std.proofs.lemmas.List.{get_or-map, length-append, length-replicate}
use Rattle.base_laws.proofs.Lists.{All-append}
use Rattle.iolb_model.specs.Form.{AffineForm, form_value}
use Rattle.iolb_model.specs.Program.{Access, statement_at, read_at}
use Rattle.affine_form.specs.Form.{variables}
use Rattle.affine_form.specs.Multipliers.{FarkasMultipliers}
use Rattle.affine_form.specs.Rows.{variable, variables_from}
use Rattle.affine_form.specs.Shown.{minus_one}
use Rattle.affine_form.specs.Substitution.{substitution, values_at}
use Rattle.affine_form.specs.System.{AffineSystem, AllOver}
use Rattle.affine_form.proofs.Combination.{form_value-constant}
use Rattle.affine_form.proofs.Meaning.{form_value-variable, form_value-widened}
use Rattle.affine_form.proofs.RowLemmas.{length-difference, length-variables, variables-over, variables-substitution}
use Rattle.affine_form.proofs.SubstitutionLemmas.{form_value-substitution}
use Rattle.flow_deps.specs.declared.wanted.Wanted.TheVariants.{Short}
use Rattle.cold_terms.specs.Entries.{AreClosed, Closes, system_at}
use Rattle.cold_terms.proofs.EntryLaws.{empty-closes, stop-closes}
use Rattle.claims.specs.Shown.{IsFew}
use Rattle.dep_quast.specs.Tree.{SelectionTree, leaf, test, source, input, empty, blank}
use Rattle.int_sets.specs.ShortList.{HasShortList}
use Rattle.projective.specs.SourceTrees.{IsSourceTree, turns_shape}
use Rattle.projective.specs.Turns.{is_kept, later_turn, turn_before, width}
use Rattle.projective.proofs.NestRows.{at, put-worth}
use Rattle.projective.proofs.Picked.{IsPicked, IsWorth, picked-right, picked-shows}
use Rattle.projective.proofs.ProjectiveFacts.{has-own, has_it, read-same}
use Rattle.projective.proofs.TurnWorths.{shifted-worth}
use Rattle.reuse_paths.specs.LeafClaims.{LeafClaim, no_point, stops}
use Rattle.dep_quast.specs.OpenLeaves.{LeafOrigin, form_at, is_input, no_at, open_leaves, as_input, written}
use Rattle.flow_deps.specs.Shapes.{last_write, no_write, shape_of, split}
use Rattle.projective_bounds.specs.Families.{loop_form}
use Rattle.projective_bounds.proofs.Forms.{put-over}
use Rattle.projective_bounds.proofs.ReaderLabels.{none}
use Rattle.projective_bounds.proofs.Cells.{point, point-many, point-over, point-small}
use Rattle.projective_bounds.proofs.Inside.{values-are, w, worth-other}
use Rattle.projective_bounds.proofs.Outlines.{ColdRead, as-many, d, deep, p, program, rows-few, rows-over, system, values, values-many, vars}
use Rattle.projective_bounds.proofs.LoopValues.{among}

-- ---- trees of a shape

no-write-is : (tree : SelectionTree) → shape_of tree ≡ no_write → (shown : List FarkasMultipliers) × (tree ≡ leaf (input shown))
no-write-is (leaf (source claim)) e = absurd cc
no-write-is (leaf (input shown)) e = (shown, refl)
no-write-is (leaf (empty shown)) e = absurd cc
no-write-is (leaf blank) e = absurd cc
no-write-is (test form above below) e = absurd cc

module _ (r : ColdRead) where
  abbrev rows : List AffineForm
  rows = (system r).rows

  abbrev Free : ℕ → Type 0
  Free level = AllByRecursion (λ (l : ℕ). l ≢ level) r.loops

  -- ---- tests at the instance

  abbrev at_instance : AffineForm → AffineForm
  at_instance form = form_at (vars r) (point r) form

  later-many : (level : ℕ) → variables (later_turn (program r) level) ≡ p r + d r
  later-many level = (variables-over (width (program r)) (p r + level) 1).0.over

  later-over : (level : ℕ) → variables (at_instance (later_turn (program r) level)) ≡ vars r
  later-over level = put-over (vars r) (later_turn (program r) level) (point r) (point-many r ∙ sym (later-many level)) (point-over r)

  -- a loop that doesn't stand in the reference isn't in a later turn
  later-worth : (level : ℕ) → level < d r → Free level → IsWorth (at_instance (later_turn (program r) level)) (λ q. negsuc 0)
  later-worth level below free q =
      let wide : ℕ = width (program r) in
      let there : p r + level < wide = omega (arith, below) in
      let inner : List ℤ = values_at (point r) q in
      let a : form_value (at_instance (later_turn (program r) level)) q ≡ form_value (substitution (later_turn (program r) level) (point r)) q =
      form_value-widened (vars r) (substitution (later_turn (program r) level) (point r)) q in
      let b : form_value (substitution (later_turn (program r) level) (point r)) q ≡ form_value (later_turn (program r) level) inner = form_value-substitution (later_turn (program r) level) (point r) q in
      let c : form_value (later_turn (program r) level) inner ≡ at (p r + level) inner +ℤ negsuc 0 = shifted-worth wide (p r + level) inner there in
      let e : form_value (substitution (variable wide (p r + level)) (point r)) q ≡ w r level q =
      put-worth wide (p r) level (variables_from (vars r) 0 (p r)) (values r) (w r) (length-variables (vars r) 0 (p r)) (values-are r) (omega (arith, below, values-many r)) there q in
      let f : form_value (substitution (variable wide (p r + level)) (point r)) q ≡ form_value (variable wide (p r + level)) inner = form_value-substitution (variable wide (p r + level)) (point r) q in
      let g : form_value (variable wide (p r + level)) inner ≡ at (p r + level) inner = form_value-variable wide (p r + level) inner there in
      let h : w r level q ≡ pos 0 = worth-other r level q free in omega (arith, ints)

  no-over : (level : ℕ) → variables (no_at (vars r) (point r) (later_turn (program r) level)) ≡ vars r
  no-over level =
      length-difference (vars r) (record { coefficients = []; constant = pos 0 }) (substitution (later_turn (program r) level) (point r)) (negsuc 0) (omega arith)
      (variables-substitution (later_turn (program r) level) (point r) (vars r) (point-many r ∙ sym (later-many level)) (point-small r))

  -- ---- the leaf of a later turn

  closes-later : (level : ℕ) (tests : List AffineForm) (origin : LeafOrigin) → level < d r → Free level → AllOver (vars r) tests → length tests ≤ 6 → is_input origin ≡ false
      → (entry : LeafClaim) × Closes Short (system_at (vars r) rows (record { tests = tests ++ at_instance (later_turn (program r) level) ∷ []; origin = origin })) (is_input origin) entry
  closes-later level tests origin below free over few other =
      let last : AffineForm = at_instance (later_turn (program r) level) in
      let all : AffineSystem = record { vars = vars r; rows = rows ++ (tests ++ last ∷ []) } in
      let many : IsFew (length all.rows) = omega (arith, length-append rows (tests ++ last ∷ []), length-append tests (last ∷ []), rows-few r, few) in
      let picked : IsPicked all.rows ((λ q. negsuc 0) ∷ []) =
      picked-right rows (tests ++ last ∷ []) ((λ q. negsuc 0) ∷ []) (picked-right tests (last ∷ []) ((λ q. negsuc 0) ∷ []) (inl (later-worth level below free, tt))) in
      let short : HasShortList all (minus_one (vars r)) =
      picked-shows all (minus_one (vars r)) ((λ q. negsuc 0) ∷ []) 0
      (All-append (λ (f : AffineForm). variables f ≡ vars r) rows (tests ++ last ∷ []) (rows-over r) (All-append (λ (f : AffineForm). variables f ≡ vars r) tests (last ∷ []) over (later-over level, tt)))
      (length-replicate (vars r) (pos 0)) picked (lit≤ tt) (lit< tt)
      (λ q long. let h : form_value (minus_one (vars r)) q ≡ negsuc 0 = form_value-constant (vars r) (negsuc 0) q in omega (arith, ints)) in
      let m : FarkasMultipliers = short.0 in
      (no_point m, empty-closes Short all (is_input origin) m other (many, (subst (λ (n : ℕ). 1 ≤ n) (sym short.1.scale) (lit≤ tt), short.2)) short.1)

  -- ---- all leaves

  abbrev HasEntries : List AffineForm → SelectionTree → Type 0
  HasEntries tests tree = (entries : List LeafClaim) × AreClosed Short (vars r) rows (open_leaves (vars r) (point r) tests tree) entries

  -- trees of the shape of the first so many loops have entries
  abbrev Rest : ℕ → Type 0
  Rest level = (tests : List AffineForm) (tree : SelectionTree) → AllOver (vars r) tests → length tests + level ≤ 6 → shape_of tree ≡ turns_shape (program r) level → HasEntries tests tree

  closes-input : (tests : List AffineForm) (tree : SelectionTree) → length tests ≤ 6 → shape_of tree ≡ no_write → HasEntries tests tree
  closes-input tests tree few e =
      let input_tree = no-write-is tree e in
      subst (HasEntries tests) (sym input_tree.1)
      (stops [] ∷ [], (stop-closes Short (system_at (vars r) rows (record { tests = tests; origin = as_input })) true (omega (arith, length-append rows tests, rows-few r, few)) refl, tt))

  module _ (free : (level : ℕ) → level < d r → is_kept (program r) level ≡ false → Free level) where
    closes-turns : (level : ℕ) (tests : List AffineForm) (tree : SelectionTree) → level ≤ d r → AllOver (vars r) tests → length tests + level ≤ 6 → shape_of tree ≡ turns_shape (program r) level → HasEntries tests tree
    closes-turns zero tests tree there over few e = closes-input tests tree (omega (arith, few)) e
    closes-turns (suc level) tests tree there over few e =
        by (is_kept (program r) level) refl e (λ f. closes-turns level tests tree (omega (arith, there)) over (omega (arith, few)) f)
        (λ ts t o n f. closes-turns level ts t (omega (arith, there)) o n f) where
          parted : (t : SelectionTree) → is_kept (program r) level ≡ false
              → shape_of t ≡ split (later_turn (program r) level) (last_write 0 level (turn_before (program r) level)) (turns_shape (program r) level) → Rest level → HasEntries tests t
          parted (leaf (source claim)) out f rest = absurd cc
          parted (leaf (input shown)) out f rest = absurd cc
          parted (leaf (empty shown)) out f rest = absurd cc
          parted (leaf blank) out f rest = absurd cc
          parted (test form (leaf (source claim)) below) out f rest =
              let same : form ≡ later_turn (program r) level = cc in
              let second : shape_of below ≡ turns_shape (program r) level = cc in
              let last : AffineForm = at_instance (later_turn (program r) level) in
              let one = closes-later level tests (written claim.statement claim.point) (omega (arith, there)) (free level (omega (arith, there)) out) over (omega (arith, few)) refl in
              let others = rest (tests ++ no_at (vars r) (point r) (later_turn (program r) level) ∷ []) below
              (All-append (λ (g : AffineForm). variables g ≡ vars r) tests (no_at (vars r) (point r) (later_turn (program r) level) ∷ []) over (no-over level, tt))
              (omega (arith, few, length-append tests (no_at (vars r) (point r) (later_turn (program r) level) ∷ []))) second in
              subst (λ (g : AffineForm). HasEntries tests (test g (leaf (source claim)) below)) (sym same) (one.0 ∷ others.0, (one.1, others.1))
          parted (test form (leaf (input shown)) below) out f rest = absurd cc
          parted (test form (leaf (empty shown)) below) out f rest = absurd cc
          parted (test form (leaf blank) below) out f rest = absurd cc
          parted (test form (test inner more less) below) out f rest = absurd cc

          by : (b : Bool) → b ≡ is_kept (program r) level → shape_of tree ≡ (if b then turns_shape (program r) level else split (later_turn (program r) level) (last_write 0 level (turn_before (program r) level)) (turns_shape (program r) level))
              → (shape_of tree ≡ turns_shape (program r) level → HasEntries tests tree) → Rest level → HasEntries tests tree
          by true same f own rest = own f
          by false same f own rest = parted tree (sym same) f rest

  -- ---- loops that stand in the reference

  kept-among : (place : ℕ) (forms : List AffineForm) (k : ℕ) → k < length forms → has_it place (get_or forms k none) ≡ true → list_any (has_it place) forms ≡ true
  kept-among place [] k below is = absurd (omega arith)
  kept-among place (f ∷ forms) zero below is = ap (λ (b : Bool). b || list_any (has_it place) forms) is
  kept-among place (f ∷ forms) (suc k) below is = ap (λ (b : Bool). has_it place f || b) (kept-among place forms k (omega arith) is) ∙ either_true (has_it place f) where
    either_true : (b : Bool) → (b || true) ≡ true
    either_true true = refl
    either_true false = refl

  -- a loop that doesn't stand in the reference that is written isn't one of the read's, where these are the same
  free-of : read_at (program r) 0 r.read ≡ (statement_at (program r) 0).writes → (level : ℕ) → level < d r → is_kept (program r) level ≡ false → Free level
  free-of same level below out = elim (among level r.loops) [
    | inl there ↦ absurd (clash (sym out ∙ kept there.0 there.1 there.2))
    | inr others ↦ others
  ] where
    clash : false ≡ true → ⊥
    clash e = cc

    kept : (k : ℕ) → k < length r.loops → get_or r.loops k 0 ≡ level → is_kept (program r) level ≡ true
    kept k inside is =
        kept-among (p r + level) (statement_at (program r) 0).writes.subscripts k
        (omega (arith, inside, as-many r, ap (λ (access : Access). length access.subscripts) same))
        (ap (λ (access : Access). has_it (p r + level) (get_or access.subscripts k none)) (sym same) ∙ ap (λ (fs : List AffineForm). has_it (p r + level) (get_or fs k none)) r.are.subscripts
        ∙ ap (has_it (p r + level)) (get_or-map (loop_form (program r)) r.loops k 0 none inside ∙ ap (loop_form (program r)) is)
        ∙ has-own (width (program r)) (p r + level) (omega (arith, below)))

  -- the leaves of the read's source tree are closed
  pub leaves-closed : (tree : SelectionTree) → IsSourceTree (program r) r.read tree → HasEntries [] tree
  leaves-closed tree h = by ((read_at (program r) 0 r.read).array == (statement_at (program r) 0).writes.array) refl h.shape where
    by : (b : Bool) → b ≡ ((read_at (program r) 0 r.read).array == (statement_at (program r) 0).writes.array) → shape_of tree ≡ (if b then turns_shape (program r) (d r) else no_write) → HasEntries [] tree
    by true same e =
        closes-turns (free-of (read-same (program r) r.read r.projective r.fits.read (eqb-true (read_at (program r) 0 r.read).array (statement_at (program r) 0).writes.array (sym same))))
        (d r) [] tree (omega arith) tt (omega (arith, deep r)) e
    by false same e = closes-input [] tree (omega arith) e
