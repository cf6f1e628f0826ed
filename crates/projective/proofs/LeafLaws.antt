-- The leaves of a projective program's source trees have short answers.
use Rattle.std.proofs.Common.{◌≡◌, refl, sym, ◌∙◌, ap, subst, inl, inr, ℕ, zero, suc, ◌+◌, ◌<◌, ◌≤◌, Bool, true, false, List, [], ◌∷◌, ◌++◌, length, map, arith}
use Rattle.std.specs.Prelude.{◌==◌, if◌then◌else◌, flat_map}
use Rattle.std.specs.List.{AllByRecursion, range_with_len}
use Rattle.std.proofs.Math.IntN.{ℤ, pos, negsuc, ◌+ℤ◌, ◌-ℤ◌}
use Rattle.std.proofs.lemmas.Int.{ints}
use Rattle.std.proofs.lemmas.List.{append-nil, length-append}
use Rattle.base_laws.proofs.Lists.{All-append, All-flat_map, All-map}
use Rattle.iolb_model.specs.Form.{AffineForm, form_value}
use Rattle.iolb_model.specs.Order.{common_loops}
use Rattle.iolb_model.specs.Program.{Access, AffineProgram, statement_at}
use Rattle.affine_form.specs.Form.{variables}
use Rattle.affine_form.specs.Rows.{guard_rows, within_rows, widened, variables_from, equality_rows, put_in, order_rows}
use Rattle.affine_form.specs.System.{AffineSystem, AllOver}
use Rattle.affine_form.proofs.Meaning.{form_value-difference}
use Rattle.affine_form.proofs.RowLemmas.{length-variables}
use Rattle.affine_program.specs.Domain.{bounds_at, depth_of, domain_of, guards_at}
use Rattle.affine_program.specs.Parts.{ProgramParts, IsProgram, meaning}
use Rattle.flow_deps.specs.Answers.{HasShortAnswer, following, pointless}
use Rattle.dep_quast.proofs.Fits.{depth-few}
use Rattle.dep_quast.specs.Claims.{context_system, inside_goals, cell_goals, before_goals}
use Rattle.dep_quast.specs.Context.{ReadOf, reference_of, no_row, context, parameter_point, reader_point, reader_values, writer_values, write_rows, before_reader, earlier_write, earlier_writes, write_between, writes_between}
use Rattle.dep_quast.specs.Levels.{level_count, levels, writers}
use Rattle.dep_quast.specs.Tree.{SourceClaim}
use Rattle.dep_quast.specs.Truth.{ReadFits, IsThere}
use Rattle.projective.specs.Projective.{HoldsOfOne, IsProjective}
use Rattle.projective.specs.FirstTurns.{AreFirstTurns}
use Rattle.projective.specs.Turns.{width, is_kept, turn_before, later_turn}
use Rattle.projective.proofs.Picked.{Worth, IsWorth, IsPicked, picked-none, picked-right, picked-append}
use Rattle.projective.proofs.NestRows.{parameters-kept, at, less, variables-worth, within-picked}
use Rattle.projective.proofs.TurnWorths.{ends_of, turn-many, shifted-worth}
use Rattle.projective.proofs.Facts.{NestFacts}
use Rattle.projective.proofs.ProjectiveFacts.{facts-of, read-same, writers-are}
use Rattle.projective.proofs.WriteRows.{either, kept-level, first-level, between-answered}
use Rattle.projective.proofs.LeafGoals.{inside-answered, cell-answered, before-answered}
use Rattle.projective.proofs.Fits.{turn-fits, shifted-fits, context-over, context-many, inside-over, here-over, order-over, between-over, between-few, earlier-over, earlier-few}

All-range : (P : ℕ → Type 0) (first many : ℕ) → ((k : ℕ) → first ≤ k → k < first + many → P k) → AllByRecursion P (range_with_len first many)
All-range P first zero h = tt
All-range P first (suc many) h = (h first (omega arith) (omega arith), All-range P (first + 1) many (λ k low high. h k (omega (arith, low)) (omega (arith, high))))

-- a form less than 0 or not, as rows
no-worth : (vars place : ℕ) (form : AffineForm) → IsWorth form (λ point. at place point +ℤ negsuc 0) → IsWorth (no_row vars form) (λ point. pos 0 -ℤ at place point)
no-worth vars place form h point =
    let a = form_value-difference vars (record { coefficients = []; constant = pos 0 }) form (negsuc 0) point in
    let b : form_value (record { coefficients = []; constant = pos 0 }) point ≡ pos 0 = refl in
    let c = h point in omega (arith, ints)

one-picked : (form : AffineForm) (worth : Worth) (tests : List AffineForm) → IsWorth form worth → HoldsOfOne (λ (test : AffineForm). test ≡ form) tests → IsPicked tests (worth ∷ [])
one-picked form worth [] is h = absurd h
one-picked form worth (test ∷ tests) is (inl e) = inl ((λ point. ap (λ (f : AffineForm). form_value f point) e ∙ is point), picked-none tests)
one-picked form worth (test ∷ tests) is (inr h) = inr (one-picked form worth tests is h)

module _ (parts : ProgramParts) (is : IsProgram parts) (projective : IsProjective (meaning parts)) (some : 0 < length parts.statements) (read : ℕ) (fits : ReadFits (meaning parts) (record { statement = 0; read = read })) where
  abbrev program : AffineProgram
  program = meaning parts

  abbrev reader : ReadOf
  reader = record { statement = 0; read = read }

  abbrev n : ℕ
  n = length program.parameters

  abbrev d : ℕ
  d = depth_of program 0

  abbrev vars : ℕ
  vars = width program

  abbrev array : ℕ
  array = (reference_of program reader).array

  facts : NestFacts program
  facts = facts-of program is.well_formed projective

  -- ---- the rows of a leaf

  abbrev rows : List AffineForm → List AffineForm
  rows tests = context program reader tests

  domain-picked : (tests : List AffineForm) (j : ℕ) → j < d → IsPicked (rows tests) (at (n + j) ∷ less (ends_of (bounds_at program 0) j) (at (n + j)) ∷ [])
  domain-picked tests j below =
      picked-append (map (widened vars) program.assumptions ++ (domain_of program 0).rows) tests (at (n + j) ∷ less (ends_of (bounds_at program 0) j) (at (n + j)) ∷ []) []
      (picked-right (map (widened vars) program.assumptions) (domain_of program 0).rows (at (n + j) ∷ less (ends_of (bounds_at program 0) j) (at (n + j)) ∷ [])
      (picked-append (within_rows vars (bounds_at program 0) (variables_from vars 0 n) (variables_from vars n d)) guards (at (n + j) ∷ less (ends_of (bounds_at program 0) j) (at (n + j)) ∷ []) []
      (within-picked vars n (bounds_at program 0) (variables_from vars 0 n) (variables_from vars n d) (ends_of (bounds_at program 0)) (λ k. at (n + k)) j facts.runs (parameters-kept vars n (omega arith))
      (variables-worth vars n d (omega arith)) below (omega (arith, below, length-variables vars n d))) (picked-none guards))) (picked-none tests) where
        guards : List AffineForm
        guards = guard_rows vars (guards_at program 0) (variables_from vars 0 n ++ variables_from vars n d)

  tests-picked : (tests : List AffineForm) (worth : Worth) → IsPicked tests (worth ∷ []) → IsPicked (rows tests) (worth ∷ [])
  tests-picked tests worth h = picked-right (map (widened vars) program.assumptions ++ (domain_of program 0).rows) tests (worth ∷ []) h

  first-picked : (loop : ℕ) (tests more : List AffineForm) → AreFirstTurns program loop tests → (other : ℕ) → loop ≤ other → other < d → is_kept program other ≡ false
      → IsPicked (rows (tests ++ more)) ((λ point. pos 0 -ℤ at (n + other) point) ∷ [])
  first-picked loop tests more h other from below free =
      tests-picked (tests ++ more) (λ point. pos 0 -ℤ at (n + other) point)
      (picked-append tests more ((λ point. pos 0 -ℤ at (n + other) point) ∷ []) []
      (one-picked (no_row vars (later_turn program other)) (λ point. pos 0 -ℤ at (n + other) point) tests
      (no-worth vars (n + other) (later_turn program other) (λ point. shifted-worth vars (n + other) point (omega (arith, below)))) (h.first other from below free)) (picked-none more))

  -- ---- the writers of the array

  many-levels : level_count program 0 0 ≡ d
  many-levels = omega (arith, facts.common)

  All-levels : (P : ℕ → Type 0) → ((level : ℕ) → level < d → P level) → AllByRecursion P (levels program 0 0)
  All-levels P h = All-range P 0 (level_count program 0 0) (λ k low high. h k (omega (arith, high, many-levels)))

  module _ (written : array ≡ (statement_at program 0).writes.array) where
    same : (reference_of program reader).subscripts ≡ (statement_at program 0).writes.subscripts
    same = ap (λ (access : Access). access.subscripts) (read-same program read projective fits.read written)

    one-writer : writers program array ≡ 0 ∷ []
    one-writer = writers-are program array projective.one ∙ ap (λ (b : Bool). if b then 0 ∷ [] else []) (eqb-same (statement_at program 0).writes.array array (sym written)) where
      eqb-same : (a b : ℕ) → a ≡ b → (a == b) ≡ true
      eqb-same a b e = grind (arith, e)

    All-writers : (P : ℕ → Type 0) → P 0 → AllByRecursion P (writers program array)
    All-writers P h = subst (AllByRecursion P) (sym one-writer) (h, tt)

    abbrev written_rows : List AffineForm → List AffineForm
    written_rows tests = write_rows program reader (rows tests) 0

    abbrev order : ℕ → List AffineForm
    order level = order_rows (vars + d) (common_loops program 0 0) level (writer_values program reader 0 (vars + d)) (reader_values program reader (vars + d))

    abbrev answers_from : ℕ → List AffineForm → Type 0
    answers_from level given = HasShortAnswer (pointless (before_reader program reader 0 given level))

    -- where all loops that don't stand in the reference are in their first turns, no write is earlier
    pub earlier-answered : (tests : List AffineForm) → AreFirstTurns program 0 tests → AllByRecursion HasShortAnswer (map pointless (earlier_writes program reader (rows tests)))
    earlier-answered tests first =
        All-map HasShortAnswer pointless (earlier_writes program reader (rows tests))
        (All-flat_map (λ (system : AffineSystem). HasShortAnswer (pointless system)) (λ writer. map (earlier_write program reader (rows tests) writer) (levels program writer 0)) (writers program array)
        (All-writers (λ (writer : ℕ). AllByRecursion (λ (system : AffineSystem). HasShortAnswer (pointless system)) (map (earlier_write program reader (rows tests) writer) (levels program writer 0)))
        (All-map (λ (system : AffineSystem). HasShortAnswer (pointless system)) (earlier_write program reader (rows tests) 0) (levels program 0 0)
        (All-levels (λ (level : ℕ). HasShortAnswer (pointless (earlier_write program reader (rows tests) 0 level))) level-answered)))) where
          few : length (rows tests) ≤ 50
          few = context-many parts is some projective.unguarded read tests (omega (arith, first.few, depth-few parts is 0 some))

          over : AllOver vars (rows tests)
          over = context-over parts is some projective.unguarded read tests first.over

          level-answered : (level : ℕ) → level < d → HasShortAnswer (pointless (earlier_write program reader (rows tests) 0 level))
          level-answered level there =
              let none : written_rows tests ≡ written_rows tests ++ [] = sym (append-nil (written_rows tests)) in
              let wide : AllOver (vars + d) ((written_rows tests ++ []) ++ order level) =
              subst (λ (given : List AffineForm). AllOver (vars + d) (given ++ order level)) none (earlier-over parts is some projective.unguarded read same facts.common (rows tests) over few level) in
              let many : length ((written_rows tests ++ []) ++ order level) ≤ 128 =
              subst (λ (given : List AffineForm). length (given ++ order level) ≤ 128) none (earlier-few parts is some projective.unguarded read same facts.common (rows tests) over few level there) in
              subst (answers_from level) (append-nil (written_rows tests))
              (elim (either (is_kept program level)) [
                | inl kept ↦ kept-level program read facts same (rows tests) [] level there wide many kept
                | inr free ↦ first-level program read facts same (rows tests) [] level there wide many
                    (subst (λ (ts : List AffineForm). IsPicked (rows ts) ((λ point. pos 0 -ℤ at (n + level) point) ∷ [])) (append-nil tests) (first-picked 0 tests [] first level (omega arith) there free))
              ])

    -- ---- a source one turn before

    module _ (loop : ℕ) (loop_there : loop < d) (free : is_kept program loop ≡ false) (tests : List AffineForm) (first : AreFirstTurns program (suc loop) tests) where
      abbrev claim : SourceClaim
      claim = record { statement = 0; level = loop; point = turn_before program loop; inside = []; cell = []; before = []; between = [] }

      abbrev all : List AffineForm
      all = tests ++ later_turn program loop ∷ []

      few : length (rows all) ≤ 50
      few = context-many parts is some projective.unguarded read all (omega (arith, length-append tests (later_turn program loop ∷ []), first.few, depth-few parts is 0 some))

      over : AllOver vars (rows all)
      over = context-over parts is some projective.unguarded read all (All-append (λ row. variables row ≡ vars) tests (later_turn program loop ∷ []) first.over ((shifted-fits vars (n + loop)).over, tt))

      test : IsPicked (rows all) ((λ point. at (n + loop) point +ℤ negsuc 0) ∷ [])
      test = tests-picked all (λ point. at (n + loop) point +ℤ negsuc 0)
          (picked-right tests (later_turn program loop ∷ []) ((λ point. at (n + loop) point +ℤ negsuc 0) ∷ []) (inl ((λ point. shifted-worth vars (n + loop) point (omega (arith, loop_there))), tt)))

      pub inside-short : AllByRecursion HasShortAnswer (following (context_system program reader all) (inside_goals program reader claim))
      inside-short = inside-answered program read facts same loop loop_there free (rows all) over (omega (arith, few)) (domain-picked all) test (inside-over parts is some projective.unguarded read same facts.common loop)

      pub cell-short : AllByRecursion HasShortAnswer (following (context_system program reader all) (cell_goals program reader claim))
      cell-short =
          subst (λ (forms : List AffineForm). AllByRecursion HasShortAnswer (following (context_system program reader all)
          (equality_rows vars (put_in (parameter_point program vars ++ turn_before program loop) (statement_at program 0).writes.subscripts) (put_in (reader_point program reader vars) forms)))) (sym same)
          (cell-answered program read facts same loop loop_there free (rows all) over (omega (arith, few)) (domain-picked all) test
          (subst (λ (forms : List AffineForm). AllOver vars
          (equality_rows vars (put_in (parameter_point program vars ++ turn_before program loop) (statement_at program 0).writes.subscripts) (put_in (reader_point program reader vars) forms))) same
          (here-over parts is some projective.unguarded read same facts.common loop (turn-many program loop))))

      pub before-short : AllByRecursion HasShortAnswer (following (context_system program reader all) (before_goals program reader claim))
      before-short = before-answered program read facts same loop loop_there free (rows all) over (omega (arith, few)) (domain-picked all) test (order-over parts is some projective.unguarded read same facts.common loop)

      between-level : (after level : ℕ) → after < d → level < d → HasShortAnswer (pointless (write_between program reader (rows all) claim 0 after level))
      between-level after level p q =
          between-answered program read facts same (rows all) loop loop_there free (λ j behind below loose. first-picked (suc loop) tests (later_turn program loop ∷ []) first j (omega (arith, behind)) below loose)
          after level p q (between-over parts is some projective.unguarded read same facts.common (rows all) over few loop after level) (between-few parts is some projective.unguarded read same facts.common (rows all) over few loop after level p q)

      pub between-short : AllByRecursion HasShortAnswer (map pointless (writes_between program reader (rows all) claim))
      between-short =
          All-map HasShortAnswer pointless (writes_between program reader (rows all) claim)
          (All-flat_map (λ (system : AffineSystem). HasShortAnswer (pointless system))
          (λ writer. flat_map (λ after. map (write_between program reader (rows all) claim writer after) (levels program writer 0)) (levels program 0 writer)) (writers program array)
          (All-writers (λ (writer : ℕ). AllByRecursion (λ (system : AffineSystem). HasShortAnswer (pointless system))
          (flat_map (λ after. map (write_between program reader (rows all) claim writer after) (levels program writer 0)) (levels program 0 writer)))
          (All-flat_map (λ (system : AffineSystem). HasShortAnswer (pointless system)) (λ after. map (write_between program reader (rows all) claim 0 after) (levels program 0 0)) (levels program 0 0)
          (All-levels (λ (after : ℕ). AllByRecursion (λ (system : AffineSystem). HasShortAnswer (pointless system)) (map (write_between program reader (rows all) claim 0 after) (levels program 0 0)))
          (λ after p. All-map (λ (system : AffineSystem). HasShortAnswer (pointless system)) (write_between program reader (rows all) claim 0 after) (levels program 0 0)
          (All-levels (λ (level : ℕ). HasShortAnswer (pointless (write_between program reader (rows all) claim 0 after level))) (λ level q. between-level after level p q)))))))

      pub there-is : IsThere program reader claim
      there-is = record { statement = fits.statement; level = inl (omega (arith, facts.common, loop_there)); point = turn-many program loop; forms = turn-fits parts is some loop }

  abbrev first_alone : List ℕ
  first_alone = 0 ∷ []

  -- a read of an array that isn't written
  pub unwritten-answered : (array ≡ (statement_at program 0).writes.array → ⊥) → (tests : List AffineForm) → AllByRecursion HasShortAnswer (map pointless (earlier_writes program reader (rows tests)))
  unwritten-answered other tests = subst (λ (ws : List ℕ). AllByRecursion HasShortAnswer (map pointless (flat_map (λ writer. map (earlier_write program reader (rows tests) writer) (levels program writer 0)) ws))) (sym no-writer) tt where
    not-same : (b : Bool) → b ≡ ((statement_at program 0).writes.array == array) → (if b then first_alone else []) ≡ []
    not-same true e = absurd (other (sym (eqb-is (statement_at program 0).writes.array array (sym e)))) where
      eqb-is : (a b : ℕ) → (a == b) ≡ true → a ≡ b
      eqb-is a b e = grind (arith, e)
    not-same false e = refl

    no-writer : writers program array ≡ []
    no-writer = writers-are program array projective.one ∙ not-same ((statement_at program 0).writes.array == array) refl
