-- No write of the cell lies between the write one turn before and the read, nor before the read where all loops that don't
-- stand in the reference are in their first turns.
use Rattle.std.proofs.Common.{◌≡◌, refl, sym, ◌∙◌, ap, subst, inl, inr, ℕ, ◌+◌, ◌<◌, ◌≤◌, Bool, true, false, List, [], ◌∷◌, ◌++◌, length, map, arith, lit≤}
use Rattle.std.specs.Prelude.{◌⊎◌}
use Rattle.std.proofs.Math.IntN.{ℤ, pos, negsuc, ◌+ℤ◌, ◌-ℤ◌}
use Rattle.std.proofs.Math.Nat.{eq-or-lt_of_le}
use Rattle.std.proofs.lemmas.Bool.{cases_lt}
use Rattle.std.proofs.lemmas.Int.{ints}
use Rattle.std.proofs.lemmas.List.{length-replicate}
use Rattle.iolb_model.specs.Form.{AffineForm}
use Rattle.iolb_model.specs.Order.{common_loops}
use Rattle.iolb_model.specs.Program.{Direction, AffineProgram, statement_at}
use Rattle.affine_form.specs.Shown.{minus_one}
use Rattle.affine_form.specs.Substitution.{substitution}
use Rattle.affine_form.specs.System.{AffineSystem, AllOver}
use Rattle.affine_form.specs.Rows.{guard_rows, within_rows, widened, variable, equality_rows, put_in, order_rows}
use Rattle.affine_form.proofs.Combination.{form_value-constant}
use Rattle.affine_form.proofs.RowLemmas.{length-variables}
use Rattle.affine_program.specs.Domain.{bounds_at, depth_of, domain_rows, guards_at}
use Rattle.flow_deps.specs.Answers.{HasShortAnswer, pointless}
use Rattle.claims.specs.Shown.{IsFew}
use Rattle.dep_quast.specs.Context.{ReadOf, reference_of, parameter_point, reader_point, reader_values, writer_values, write_rows, before_reader}
use Rattle.projective.specs.Turns.{width, is_kept, turn_before}
use Rattle.projective.proofs.Picked.{Worth, IsWorth, IsPicked, picked-none, picked-left, picked-right, picked-append, picked-wide, worth_sum, picked-shows}
use Rattle.projective.proofs.NestRows.{put-worth, same-worth, parameters-kept, AreWorth, at, less, below, variables-worth, within-picked, equality-first, equality-second, order-last, order-second}
use Rattle.projective.proofs.TurnWorths.{ends_of, turn_at, turn-worth, turn-many, turn-here, turn-before, turn-kept, turn-end}
use Rattle.projective.proofs.Facts.{NestFacts}

-- a system whose rows' worth is less than 0 in sum has a short answer
pub no-point : (system : AffineSystem) (picked : List Worth) (rest : ℕ) → AllOver system.vars system.rows → IsFew (length system.rows) → IsPicked system.rows picked → length picked ≤ 4 → rest ≤ 1
    → ((point : List ℤ) → worth_sum picked point +ℤ pos rest ≡ negsuc 0) → HasShortAnswer (pointless system)
no-point system picked rest over few is short small sum =
    (few, picked-shows system (minus_one system.vars) picked rest over (length-replicate system.vars (pos 0)) is short (omega arith) (λ point long. form_value-constant system.vars (negsuc 0) point ∙ sym (sum point)))

-- one of two rows
pub picked-one : (rows : List AffineForm) (v w : Worth) → IsPicked rows (v ∷ w ∷ []) → IsPicked rows (v ∷ [])
picked-one [] v w h = h
picked-one (row ∷ rows) v w (inl h) = inl (h.0, picked-none rows)
picked-one (row ∷ rows) v w (inr h) = inr (picked-one rows v w h)

pub picked-other : (rows : List AffineForm) (v w : Worth) → IsPicked rows (v ∷ w ∷ []) → IsPicked rows (w ∷ [])
picked-other [] v w h = absurd h
picked-other (row ∷ rows) v w (inl h) = inr h.1
picked-other (row ∷ rows) v w (inr h) = inr (picked-other rows v w h)

-- a loop that stands in no subscript, or in one
pub either : (b : Bool) → (b ≡ true) ⊎ (b ≡ false)
either true = inl refl
either false = inr refl

module _ (program : AffineProgram) (read : ℕ) (facts : NestFacts program) (same : (reference_of program (record { statement = 0; read = read })).subscripts ≡ (statement_at program 0).writes.subscripts) (rows : List AffineForm) where
  abbrev reader : ReadOf
  reader = record { statement = 0; read = read }

  abbrev n : ℕ
  n = length program.parameters

  abbrev d : ℕ
  d = depth_of program 0

  abbrev wide : ℕ
  wide = width program + d

  abbrev x : ℕ → Worth
  x j = at (n + j)

  abbrev w : ℕ → Worth
  w j = at (width program + j)

  abbrev loops : List Direction
  loops = common_loops program 0 0

  abbrev subscripts : List AffineForm
  subscripts = (statement_at program 0).writes.subscripts

  abbrev inside : List AffineForm
  inside = domain_rows program 0 wide (parameter_point program wide) (writer_values program reader 0 wide)

  abbrev cells : List AffineForm
  cells = equality_rows wide (put_in (parameter_point program wide ++ writer_values program reader 0 wide) subscripts) (put_in (reader_point program reader wide) (reference_of program reader).subscripts)

  abbrev order : ℕ → List AffineForm
  order level = order_rows wide loops level (writer_values program reader 0 wide) (reader_values program reader wide)

  writer-worth : AreWorth w (writer_values program reader 0 wide)
  writer-worth = variables-worth wide (width program) d (omega arith)

  reader-worth : AreWorth x (reader_values program reader wide)
  reader-worth = variables-worth wide n d (omega arith)

  writer-long : length (writer_values program reader 0 wide) ≡ d
  writer-long = length-variables wide (width program) d

  reader-long : length (reader_values program reader wide) ≡ d
  reader-long = length-variables wide n d

  inside-picked : (j : ℕ) → j < d → IsPicked inside (w j ∷ less (ends_of (bounds_at program 0) j) (w j) ∷ [])
  inside-picked j below =
      let bounds : List AffineForm = within_rows wide (bounds_at program 0) (parameter_point program wide) (writer_values program reader 0 wide) in
      let guards : List AffineForm = guard_rows wide (guards_at program 0) (parameter_point program wide ++ writer_values program reader 0 wide) in
      picked-append bounds guards (w j ∷ less (ends_of (bounds_at program 0) j) (w j) ∷ []) []
      (within-picked wide n (bounds_at program 0) (parameter_point program wide) (writer_values program reader 0 wide) (ends_of (bounds_at program 0)) w j facts.runs
      (parameters-kept wide n (omega arith)) writer-worth below (omega (arith, writer-long))) (picked-none guards)

  here-worth : (place : ℕ) → place < d → IsWorth (substitution (variable (width program) (n + place)) (parameter_point program wide ++ writer_values program reader 0 wide)) (w place)
  here-worth place there =
      put-worth (width program) n place (parameter_point program wide) (writer_values program reader 0 wide) w (length-variables wide 0 n) writer-worth (omega (arith, writer-long)) (omega arith)

  there-worth : (place : ℕ) → place < d → IsWorth (substitution (variable (width program) (n + place)) (reader_point program reader wide)) (x place)
  there-worth place there = same-worth (width program) wide (n + place) (omega arith) (omega arith)

  cells-first : (place : ℕ) → place < d → is_kept program place ≡ true → IsPicked cells (less (w place) (x place) ∷ [])
  cells-first place there kept =
      subst (λ (forms : List AffineForm). IsPicked (equality_rows wide (put_in (parameter_point program wide ++ writer_values program reader 0 wide) subscripts) (put_in (reader_point program reader wide) forms)) (less (w place) (x place) ∷ [])) (sym same)
      (equality-first wide (parameter_point program wide ++ writer_values program reader 0 wide) (reader_point program reader wide) (variable (width program) (n + place)) (w place) (x place)
      (here-worth place there) (there-worth place there) subscripts (facts.among place there kept))

  cells-second : (place : ℕ) → place < d → is_kept program place ≡ true → IsPicked cells (less (x place) (w place) ∷ [])
  cells-second place there kept =
      subst (λ (forms : List AffineForm). IsPicked (equality_rows wide (put_in (parameter_point program wide ++ writer_values program reader 0 wide) subscripts) (put_in (reader_point program reader wide) forms)) (less (x place) (w place) ∷ [])) (sym same)
      (equality-second wide (parameter_point program wide ++ writer_values program reader 0 wide) (reader_point program reader wide) (variable (width program) (n + place)) (w place) (x place)
      (here-worth place there) (there-worth place there) subscripts (facts.among place there kept))

  before-last : (level : ℕ) → level < d → IsPicked (order level) (below (x level) (w level) ∷ [])
  before-last level there =
      order-last wide loops level (writer_values program reader 0 wide) (reader_values program reader wide) w x facts.rise writer-worth reader-worth (omega (arith, facts.common)) (omega (arith, writer-long)) (omega (arith, reader-long))

  before-second : (level j : ℕ) → level < d → j < level → IsPicked (order level) (less (x j) (w j) ∷ [])
  before-second level j there first =
      order-second wide loops level (writer_values program reader 0 wide) (reader_values program reader wide) w x j writer-worth reader-worth (omega (arith, facts.common)) (omega (arith, writer-long)) (omega (arith, reader-long)) first

  -- a loop is in its first turn
  abbrev pub IsFirst : ℕ → Type 0
  IsFirst j = IsPicked rows ((λ point. pos 0 -ℤ x j point) ∷ [])

  abbrev written : List AffineForm
  written = write_rows program reader rows 0

  -- one of the rows given, one of the writer's domain, and one of the cells
  written-cells : (v : Worth) → IsPicked cells (v ∷ []) → IsPicked written (v ∷ [])
  written-cells v h = picked-right (map (widened wide) rows ++ inside) cells (v ∷ []) h

  written-inside : (v : Worth) → IsPicked inside (v ∷ []) → IsPicked written (v ∷ [])
  written-inside v h = picked-left (map (widened wide) rows ++ inside) cells v (picked-right (map (widened wide) rows) inside (v ∷ []) h)

  written-first : (j : ℕ) → j < d → IsFirst j → IsPicked written ((λ point. pos 0 -ℤ x j point) ∷ w j ∷ [])
  written-first j there h =
      picked-append (map (widened wide) rows ++ inside) cells ((λ point. pos 0 -ℤ x j point) ∷ w j ∷ []) []
      (picked-append (map (widened wide) rows) inside ((λ point. pos 0 -ℤ x j point) ∷ []) (w j ∷ []) (picked-wide wide rows ((λ point. pos 0 -ℤ x j point) ∷ []) h)
      (picked-one inside (w j) (less (ends_of (bounds_at program 0) j) (w j)) (inside-picked j there))) (picked-none cells)

  -- an earlier write at a level, after rows that hold those of a write
  abbrev pub early : List AffineForm → ℕ → AffineSystem
  early more level = before_reader program reader 0 (written ++ more) level

  module _ (more : List AffineForm) (level : ℕ) (there : level < d) (over : AllOver wide ((written ++ more) ++ order level)) (few : IsFew (length ((written ++ more) ++ order level))) where
    -- the level's loop stands in the reference
    pub kept-level : is_kept program level ≡ true → HasShortAnswer (pointless (early more level))
    kept-level kept =
        no-point (early more level) (less (w level) (x level) ∷ below (x level) (w level) ∷ []) 0 over few
        (picked-append (written ++ more) (order level) (less (w level) (x level) ∷ []) (below (x level) (w level) ∷ [])
        (picked-left written more (less (w level) (x level)) (written-cells (less (w level) (x level)) (cells-first level there kept))) (before-last level there))
        (lit≤ tt) (lit≤ tt) (λ point. omega (arith, ints))

    -- the level's loop is in its first turn
    pub first-level : IsFirst level → HasShortAnswer (pointless (early more level))
    first-level first =
        no-point (early more level) ((λ point. pos 0 -ℤ x level point) ∷ w level ∷ below (x level) (w level) ∷ []) 0 over few
        (picked-append (written ++ more) (order level) ((λ point. pos 0 -ℤ x level point) ∷ w level ∷ []) (below (x level) (w level) ∷ [])
        (picked-append written more ((λ point. pos 0 -ℤ x level point) ∷ w level ∷ []) [] (written-first level there first) (picked-none more)) (before-last level there))
        (lit≤ tt) (lit≤ tt) (λ point. omega (arith, ints))

  -- ---- between the write one turn of a loop before and the read

  module _ (loop : ℕ) (loop_there : loop < d) (other : is_kept program loop ≡ false) (later : (j : ℕ) → loop < j → j < d → is_kept program j ≡ false → IsFirst j) where
    abbrev t : ℕ → Worth
    t = turn_at program loop

    abbrev since : ℕ → List AffineForm
    since after = order_rows wide loops after (turn_before program loop) (writer_values program reader 0 wide)

    turn-long : length (turn_before program loop) ≡ d
    turn-long = turn-many program loop

    after-last : (after : ℕ) → after < d → IsPicked (since after) (below (w after) (t after) ∷ [])
    after-last after there =
        order-last wide loops after (turn_before program loop) (writer_values program reader 0 wide) t w facts.rise (turn-worth program loop) writer-worth (omega (arith, facts.common)) (omega (arith, turn-long)) (omega (arith, writer-long))

    after-second : (after j : ℕ) → after < d → j < after → IsPicked (since after) (less (w j) (t j) ∷ [])
    after-second after j there first =
        order-second wide loops after (turn_before program loop) (writer_values program reader 0 wide) t w j (turn-worth program loop) writer-worth (omega (arith, facts.common)) (omega (arith, turn-long)) (omega (arith, writer-long)) first

    module _ (after level : ℕ) (after_there : after < d) (there : level < d) (over : AllOver wide ((written ++ since after) ++ order level)) (few : IsFew (length ((written ++ since after) ++ order level))) where
      -- the loop of the level after the source stands in the reference
      kept-after : is_kept program after ≡ true → HasShortAnswer (pointless (early (since after) level))
      kept-after kept =
          no-point (early (since after) level) (less (x after) (w after) ∷ below (w after) (t after) ∷ []) 0 over few
          (picked-append (written ++ since after) (order level) (less (x after) (w after) ∷ below (w after) (t after) ∷ []) []
          (picked-append written (since after) (less (x after) (w after) ∷ []) (below (w after) (t after) ∷ [])
          (written-cells (less (x after) (w after)) (cells-second after after_there kept)) (after-last after after_there)) (picked-none (order level)))
          (lit≤ tt) (lit≤ tt) (λ point. let e = turn-kept program loop after point other kept in omega (arith, ints))

      -- it lies behind the loop of the source
      end-after : loop < after → is_kept program after ≡ false → HasShortAnswer (pointless (early (since after) level))
      end-after behind free =
          no-point (early (since after) level) (less (ends_of (bounds_at program 0) after) (w after) ∷ below (w after) (t after) ∷ []) 0 over few
          (picked-append (written ++ since after) (order level) (less (ends_of (bounds_at program 0) after) (w after) ∷ below (w after) (t after) ∷ []) []
          (picked-append written (since after) (less (ends_of (bounds_at program 0) after) (w after) ∷ []) (below (w after) (t after) ∷ [])
          (written-inside (less (ends_of (bounds_at program 0) after) (w after)) (picked-other inside (w after) (less (ends_of (bounds_at program 0) after) (w after)) (inside-picked after after_there)))
          (after-last after after_there)) (picked-none (order level)))
          (lit≤ tt) (lit≤ tt) (λ point. let e = turn-end program loop after point behind free in omega (arith, ints))

      -- the level before the reader is further out
      outer-level : level < after → after ≤ loop → HasShortAnswer (pointless (early (since after) level))
      outer-level out within =
          no-point (early (since after) level) (less (w level) (t level) ∷ below (x level) (w level) ∷ []) 0 over few
          (picked-append (written ++ since after) (order level) (less (w level) (t level) ∷ []) (below (x level) (w level) ∷ [])
          (picked-right written (since after) (less (w level) (t level) ∷ []) (after-second after level after_there out)) (before-last level there))
          (lit≤ tt) (lit≤ tt) (λ point. let e = turn-before program loop level point (omega (arith, out, within)) in omega (arith, ints))

      -- it is further in
      inner-level : after < level → after < loop → HasShortAnswer (pointless (early (since after) level))
      inner-level out within =
          no-point (early (since after) level) (below (w after) (t after) ∷ less (x after) (w after) ∷ []) 0 over few
          (picked-append (written ++ since after) (order level) (below (w after) (t after) ∷ []) (less (x after) (w after) ∷ [])
          (picked-right written (since after) (below (w after) (t after) ∷ []) (after-last after after_there)) (before-second level after there out))
          (lit≤ tt) (lit≤ tt) (λ point. let e = turn-before program loop after point within in omega (arith, ints))

      -- both are one
      same-level : level ≡ after → (after < loop) ⊎ (after ≡ loop) → HasShortAnswer (pointless (early (since after) level))
      same-level one (inl before) =
          no-point (early (since after) level) (below (w after) (t after) ∷ below (x level) (w level) ∷ []) 1 over few
          (picked-append (written ++ since after) (order level) (below (w after) (t after) ∷ []) (below (x level) (w level) ∷ [])
          (picked-right written (since after) (below (w after) (t after) ∷ []) (after-last after after_there)) (before-last level there))
          (lit≤ tt) (lit≤ tt) (λ point. let e = turn-before program loop after point before in let s : x level point ≡ x after point = ap (λ (j : ℕ). x j point) one in
          let r : w level point ≡ w after point = ap (λ (j : ℕ). w j point) one in omega (arith, ints))
      same-level one (inr here) =
          no-point (early (since after) level) (below (w after) (t after) ∷ below (x level) (w level) ∷ []) 0 over few
          (picked-append (written ++ since after) (order level) (below (w after) (t after) ∷ []) (below (x level) (w level) ∷ [])
          (picked-right written (since after) (below (w after) (t after) ∷ []) (after-last after after_there)) (before-last level there))
          (lit≤ tt) (lit≤ tt) (λ point. let e : t after point ≡ x after point +ℤ negsuc 0 = subst (λ (j : ℕ). t j point ≡ x j point +ℤ negsuc 0) (sym here) (turn-here program loop point) in
          let s : x level point ≡ x after point = ap (λ (j : ℕ). x j point) one in let r : w level point ≡ w after point = ap (λ (j : ℕ). w j point) one in omega (arith, ints))

      pub between-answered : HasShortAnswer (pointless (early (since after) level))
      between-answered = elim (either (is_kept program after)) [
        | inl kept ↦ kept-after kept
        | inr free ↦ elim (either (is_kept program level)) [
          | inl kept ↦ kept-level (since after) level there over few kept
          | inr loose ↦ elim (order-of loop after) [
            | inl behind ↦ end-after behind free
            | inr within ↦ elim (order-of loop level) [
              | inl inner ↦ first-level (since after) level there over few (later level inner there loose)
              | inr near ↦ elim (order-of level after) [
                | inl out ↦ inner-or-same out within
                | inr out ↦ at-most out within near
              ]
            ]
          ]
        ]
      ] where
        order-of : (a b : ℕ) → (a < b) ⊎ (b ≤ a)
        order-of a b = cases_lt a b

        inner-or-same : level < after → after ≤ loop → HasShortAnswer (pointless (early (since after) level))
        inner-or-same out within = outer-level out within

        at-most : after ≤ level → after ≤ loop → level ≤ loop → HasShortAnswer (pointless (early (since after) level))
        at-most out within near = elim (eq-or-lt_of_le {n = after} {m = level} out) [
          | inl e ↦ same-level (sym e) (before-or-here (eq-or-lt_of_le {n = after} {m = loop} within))
          | inr inner ↦ inner-level inner (omega (arith, inner, near))
        ] where
          before-or-here : (after ≡ loop) ⊎ (after < loop) → (after < loop) ⊎ (after ≡ loop)
          before-or-here (inl e) = inr e
          before-or-here (inr less) = inl less
