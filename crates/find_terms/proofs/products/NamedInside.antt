-- Short lists show that the instances of a nest of named loops are in their statement's domain.
use Rattle.std.proofs.Common.{◌≡◌, ◌≢◌, sym, ◌∙◌, ap, subst, inl, inr, ℕ, ◌+◌, ◌<◌, ◌≤◌, List, [], ◌∷◌, length, map, get_or, arith, lit≤, lit<}
use Rattle.std.specs.List.{AllByRecursion}
use Rattle.std.proofs.Math.IntN.{ℤ, pos, negsuc, ◌+ℤ◌}
use Rattle.std.proofs.lemmas.Int.{ints}
use Rattle.std.proofs.lemmas.List.{get_or-map}
use Rattle.base_laws.proofs.Lists.{All-at, All-map, All-weaken}
use Rattle.iolb_model.specs.Form.{AffineForm, form_value}
use Rattle.affine_form.specs.Form.{IsSmallForm, variables}
use Rattle.affine_form.specs.Rows.{IsSmallOver, variables_from, widened, within_rows}
use Rattle.affine_form.proofs.Combination.{form_value-constant}
use Rattle.affine_form.proofs.Meaning.{form_value-variable}
use Rattle.affine_form.proofs.RowLemmas.{length-variables}
use Rattle.affine_program.specs.Domain.{domain_rows, guards_at}
use Rattle.flow_deps.specs.Answers.{HasShortAnswer, Question, following}
use Rattle.projective.specs.Projective.{Assumes, HoldsOfOne}
use Rattle.projective.proofs.Facts.{rows-bare}
use Rattle.projective.proofs.NestRows.{AreWorth, at, less, parameters-kept, variables-worth, within-each, within-picked, worth-same}
use Rattle.projective.proofs.Picked.{IsPicked, IsWorth, Worth, picked-left, picked-none, picked-right, picked-shows, picked-wide, worth_sum}
use Rattle.projective.proofs.ProjectiveFacts.{runs-to}
use Rattle.projective.proofs.Runs.{run-assumed}
use Rattle.projective.proofs.TurnWorths.{ends_of}
use Rattle.projective.proofs.WriteRows.{picked-one, picked-other}
use Rattle.projective_bounds.specs.Outline.{value_among}
use Rattle.projective_bounds.proofs.Assumed.{HasRow, assumed-row}
use Rattle.projective_bounds.proofs.LoopValues.{among, value-other, values-worth}
use Rattle.projective_bounds.proofs.Nests.{ends-run, run-all}
use Rattle.find_terms.proofs.products.NamedLoops.{NamedLoops, below-many, d, goals-over, nest, p, ps, rising-value, rows-few, rows-over, runs, size, system, values, vars, way, way-many}
use Rattle.iolb_model.specs.declared.limits.TheConstants.{MULTIPLIER_SIZE, NUMBER_SIZE}

module _ (r : NamedLoops) where
  -- ---- what loops are worth, and where they end

  abbrev w : ℕ → Worth
  w j = form_value (value_among (vars r) (p r) r.loops j)

  values-are : AreWorth w (values r)
  values-are =
      worth-same (λ j. w (0 + j)) w (values r) (λ j point below. ap (λ (k : ℕ). w k point) (front j)) (values-worth (value_among (vars r) (p r) r.loops) 0 (d r)) where
        front : (n : ℕ) → 0 + n ≡ n
        front n = omega arith

  -- a loop that is named is its variable, another is 0
  worth-at : (k : ℕ) (point : List ℤ) → k < length r.loops → w (get_or r.loops k 0) point ≡ at (p r + k) point
  worth-at k point below =
      ap (λ (form : AffineForm). form_value form point) (rising-value (vars r) (p r) r.loops k r.rising below) ∙ form_value-variable (vars r) (p r + k) point (omega (arith, below, size r))

  worth-other : (level : ℕ) (point : List ℤ) → AllByRecursion (λ (l : ℕ). l ≢ level) r.loops → w level point ≡ pos 0
  worth-other level point h = ap (λ (form : AffineForm). form_value form point) (value-other (vars r) (p r) r.loops level h) ∙ form_value-constant (vars r) (pos 0) point

  abbrev parameter_of : ℕ → ℕ
  parameter_of level = get_or r.below level 0

  abbrev ends : ℕ → Worth
  ends = ends_of (way r)

  ends-at : (level : ℕ) (point : List ℤ) → level < d r → ends level point ≡ at (parameter_of level) point +ℤ negsuc 0
  ends-at level point below = ends-run r.program (p r) r.run.bounds r.below level point (omega arith) r.run.run (omega (arith, below, way-many r))

  abbrev inner_ends : ℕ → Worth
  inner_ends = ends_of (nest r)

  inner-at : (k : ℕ) (point : List ℤ) → k < length r.loops → inner_ends k point ≡ at (parameter_of (get_or r.loops k 0)) point +ℤ negsuc 0
  inner-at k point below =
      ends-run r.program (p r) (nest r) (ps r) k point (omega arith) (runs r) (omega (arith, below, size r))
      ∙ ap (λ (parameter : ℕ). at parameter point +ℤ negsuc 0) (get_or-map parameter_of r.loops k 0 0 below)

  -- ---- the rows of the nest, and of an assumption

  nest-picked : (k : ℕ) → k < length r.loops → IsPicked (system r).rows (at (p r + k) ∷ less (inner_ends k) (at (p r + k)) ∷ [])
  nest-picked k below =
      picked-right (map (widened (vars r)) r.program.assumptions) (within_rows (vars r) (nest r) (variables_from (vars r) 0 (p r)) (variables_from (vars r) (p r) (length (nest r))))
      (at (p r + k) ∷ less (inner_ends k) (at (p r + k)) ∷ [])
      (within-picked (vars r) (p r) (nest r) (variables_from (vars r) 0 (p r)) (variables_from (vars r) (p r) (length (nest r))) inner_ends (λ j. at (p r + j)) k
      (runs-to r.program (p r) (nest r) (omega arith) (run-all r.program (p r) (nest r) (ps r) (runs r))) (parameters-kept (vars r) (p r) (omega arith))
      (variables-worth (vars r) (p r) (length (nest r)) (omega arith)) (omega (arith, below, size r)) (omega (arith, below, size r, length-variables (vars r) (p r) (length (nest r)))))

  assumption-picked : (level : ℕ) → level < d r → HasRow (system r).rows (parameter_of level)
  assumption-picked level below =
      let one = All-at (λ (parameter : ℕ). (parameter < p r) × HoldsOfOne (Assumes (p r) parameter) r.program.assumptions) r.below level 0
      (run-assumed r.program (p r) r.run.bounds r.below r.run.run) (omega (arith, below, below-many r)) in
      let row = assumed-row (p r) (parameter_of level) r.program.assumptions one.0
      (All-weaken (IsSmallOver (p r)) (IsSmallForm NUMBER_SIZE) r.program.assumptions (λ form h. h.small) r.room.assumed) one.1 in
      record {
        rest = row.rest;
        small = row.small;
        picked = picked-left (map (widened (vars r)) r.program.assumptions) (within_rows (vars r) (nest r) (variables_from (vars r) 0 (p r)) (variables_from (vars r) (p r) (length (nest r))))
            (λ point. at (parameter_of level) point +ℤ negsuc row.rest) (picked-wide (vars r) r.program.assumptions ((λ point. at (parameter_of level) point +ℤ negsuc row.rest) ∷ []) row.picked);
      }

  -- ---- the goals

  abbrev asks : AffineForm → Question
  asks goal = record { system = system r; goal = goal }

  follows : (goal : AffineForm) (worth : Worth) (picked : List Worth) (rest : ℕ) → variables goal ≡ vars r → IsWorth goal worth → IsPicked (system r).rows picked → length picked ≤ 4 → rest < MULTIPLIER_SIZE
      → ((point : List ℤ) → worth point ≡ worth_sum picked point +ℤ pos rest) → HasShortAnswer (asks goal)
  follows goal worth picked rest wide is short many small sum =
      (omega (arith, rows-few r), picked-shows (system r) goal picked rest (rows-over r) wide short many small (λ point long. is point ∙ sum point))

  low : (level : ℕ) → level < length (way r) → (goal : AffineForm) → variables goal ≡ vars r → IsWorth goal (w level) → HasShortAnswer (asks goal)
  low level below goal wide is = elim (among level r.loops) [
    | inl there ↦ follows goal (w level) (at (p r + there.0) ∷ []) 0 wide is (picked-one (system r).rows (at (p r + there.0)) (less (inner_ends there.0) (at (p r + there.0))) (nest-picked there.0 there.1)) (lit≤ tt) (lit< tt)
        (λ point. let h : w level point ≡ at (p r + there.0) point = ap (λ (k : ℕ). w k point) (sym there.2) ∙ worth-at there.0 point there.1 in omega (arith, ints))
    | inr others ↦ follows goal (w level) [] 0 wide is (picked-none (system r).rows) (lit≤ tt) (lit< tt) (λ point. let h : w level point ≡ pos 0 = worth-other level point others in omega (arith, ints))
  ]

  high : (level : ℕ) → level < length (way r) → (goal : AffineForm) → variables goal ≡ vars r → IsWorth goal (less (ends level) (w level)) → HasShortAnswer (asks goal)
  high level inside goal wide is = elim (among level r.loops) [
    | inl there ↦ follows goal (less (ends level) (w level)) (less (inner_ends there.0) (at (p r + there.0)) ∷ []) 0 wide is
        (picked-other (system r).rows (at (p r + there.0)) (less (inner_ends there.0) (at (p r + there.0))) (nest-picked there.0 there.1)) (lit≤ tt) (lit< tt)
        (λ point.
        let h : w level point ≡ at (p r + there.0) point = ap (λ (k : ℕ). w k point) (sym there.2) ∙ worth-at there.0 point there.1 in
        let e : ends level point ≡ at (parameter_of level) point +ℤ negsuc 0 = ends-at level point below in
        let f : inner_ends there.0 point ≡ at (parameter_of level) point +ℤ negsuc 0 = inner-at there.0 point there.1 ∙ ap (λ (k : ℕ). at (parameter_of k) point +ℤ negsuc 0) there.2 in omega (arith, ints))
    | inr others ↦ assumption others (assumption-picked level below)
  ] where
    below : level < d r
    below = omega (arith, inside, way-many r)

    assumption : AllByRecursion (λ (l : ℕ). l ≢ level) r.loops → HasRow (system r).rows (parameter_of level) → HasShortAnswer (asks goal)
    assumption others row =
        follows goal (less (ends level) (w level)) ((λ point. at (parameter_of level) point +ℤ negsuc row.rest) ∷ []) row.rest wide is row.picked (lit≤ tt) row.small (λ point.
        let h : w level point ≡ pos 0 = worth-other level point others in
        let e : ends level point ≡ at (parameter_of level) point +ℤ negsuc 0 = ends-at level point below in
        let g : negsuc row.rest +ℤ pos row.rest ≡ negsuc 0 = back row.rest in omega (arith, ints)) where
          back : (n : ℕ) → negsuc n +ℤ pos n ≡ negsuc 0
          back n = omega (arith, ints)

  -- that the instances are in their domain has short answers
  pub inside-short : guards_at r.program r.statement ≡ [] → AllByRecursion HasShortAnswer (following (system r) (domain_rows r.program r.statement (vars r) (variables_from (vars r) 0 (p r)) (values r)))
  inside-short bare =
      subst (λ (goals : List AffineForm). AllByRecursion HasShortAnswer (following (system r) goals))
      (ap (λ (loops : List (AffineForm × AffineForm)). within_rows (vars r) loops (variables_from (vars r) 0 (p r)) (values r)) r.run.around
      ∙ sym (rows-bare r.program r.statement (vars r) (variables_from (vars r) 0 (p r)) (values r) bare))
      (All-map HasShortAnswer asks (within_rows (vars r) (way r) (variables_from (vars r) 0 (p r)) (values r))
      (within-each (λ goal. HasShortAnswer (asks goal)) (vars r) (p r) (way r) (variables_from (vars r) 0 (p r)) (values r) ends w
      (runs-to r.program (p r) (way r) (omega arith) (run-all r.program (p r) r.run.bounds r.below r.run.run)) (parameters-kept (vars r) (p r) (omega arith)) values-are
      (goals-over r) low high))
