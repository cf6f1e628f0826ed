-- Marks of instances, where those before a place were gone through.
use Rattle.std.proofs.Common.{◌≡◌, refl, sym, ◌∙◌, ap, subst, ℕ, zero, suc, ◌+◌, ◌-◌, ◌<◌, ◌≤◌, Bool, true, false, cond, not, List, [], ◌∷◌, length, map, take, drop, set, get_or, replicate, Option, Some, None, nat_eq, nat_lt, Vec, Global, arith}
use Rattle.std.specs.Prelude.{ℤ, ◌||◌, ◌&&◌, slice_get}
use Rattle.std.specs.List.{list_any, enumerate_from, position_or_len}
use Rattle.std.specs.Option.{option_map_or}
use Rattle.std.proofs.lemmas.Bool.{eqb-true, eq-eqb, ne_eqb, ltb-true, lt-ltb, false_from_ne_true}
use Rattle.std.proofs.lemmas.List.{get_or-set_same, get_or-set_other, get_or-drop, length-drop, length-replicate, length-set, set_past, take_rest}
use Rattle.std.proofs.lemmas.List.Folds.{list_any_more}
use Rattle.std.proofs.lemmas.Option.{slice_get-get_or, slice_get_within}
use Rattle.iolb_model.specs.Program.{AffineProgram}
use Rattle.iolb_model.specs.Execution.{Instance, execution}
use Rattle.iolb_model.specs.Source.{Cell, same_cell, written_cell, writes_at}
use Rattle.iolb_model.specs.Graph.{distinct, is_last_writer, placed}
use Rattle.execution_laws.proofs.Cells.{same_cell-equal, same_cell_refl}
use Rattle.arrayvec.specs.ArrayVec.{ArrayVec}
use Rattle.base_laws.proofs.Lists.{add-one}
use Rattle.loop_graph.specs.Runs.{with_point, run_of}
use Rattle.loop_graph.specs.declared.listed.Run.{Run}
use Rattle.loop_graph.specs.Cells.{cell_view, cell_written}
use Rattle.loop_graph.specs.Found.{unmarked, AreListed}
use Rattle.loop_graph.specs.Known.{known_vertex, vertex_in}
use Rattle.loop_graph.specs.declared.known.Known.{Known}
use Rattle.loop_graph.proofs.Distinct.{flips}
use Rattle.loop_graph.proofs.Scanned.{paired, writer_before, known-run, IsScanned, GivesRun}

-- ---- marks taken off

-- whether this place is the one
abbrev pub is_place : ℕ → Option ℕ → Bool
is_place j None = false
is_place j (Some w) = nat_eq w j

and-yes : (b : Bool) → b ≡ (b && true)
and-yes true = refl
and-yes false = refl

and-no : (b : Bool) → false ≡ (b && false)
and-no true = refl
and-no false = refl

mark-left : (last : List Bool) (o : Option ℕ) (j : ℕ) → j < length last → get_or (unmarked last o) j true ≡ (get_or last j true && not (is_place j o))
mark-left last None j below = and-yes (get_or last j true)
mark-left last (Some w) j below = by (nat_eq w j) refl where
  by : (b : Bool) → nat_eq w j ≡ b → get_or (set last w false) j true ≡ (get_or last j true && not b)
  by true e = ap (λ (v : ℕ). get_or (set last v false) j true) (eqb-true w j e) ∙ get_or-set_same last j false true below ∙ and-no (get_or last j true)
  by false e = get_or-set_other last w j false true (λ same. let yes : nat_eq w j ≡ true = eq-eqb w j (sym same) in absurd cc) ∙ and-yes (get_or last j true)

-- an input is none of the instances
only-written : (last : List Bool) (instances : ℕ) (cells : List Cell) (o : Option ℕ) (cell : Cell) → length last ≡ instances → unmarked last (vertex_in instances cells o cell) ≡ unmarked last o
only-written last instances cells (Some w) cell many = refl
only-written last instances cells None cell many = by (list_any (same_cell cell) cells) where
  by : (b : Bool) → unmarked last (cond b (Some (instances + position_or_len (same_cell cell) cells)) None) ≡ last
  by true = set_past last (instances + position_or_len (same_cell cell) cells) false (omega (arith, many))
  by false = refl

module _ (program : AffineProgram) (parameters : List ℤ) where
  abbrev runs : List Instance
  runs = execution program parameters

  -- whether an instance before a place is the last before it that writes its cell; and those from the place on are marked
  abbrev pub mark_at : ℕ → ℕ × Instance → Bool
  mark_at i at = cond (nat_lt at.0 i) (is_place at.0 (writer_before program parameters i (written_cell program parameters at.1))) true

  pub record IsMarked (i : ℕ) (last : List Bool) : Type 0 where
    pub many : length last ≡ length runs
    pub each : (j : ℕ) (x : Instance) → slice_get runs j ≡ Some x → get_or last j true ≡ mark_at i (j, x)

  -- ---- writers

  -- the last writer before a place stands before it, and writes the cell
  writes : (i : ℕ) (cell : Cell) (w : ℕ) → writer_before program parameters i cell ≡ Some w → (w < i) × (writes_at program parameters runs cell w ≡ true)
  writes zero cell w e = absurd cc
  writes (suc i) cell w e = by (writes_at program parameters runs cell i) refl e (λ f. writes i cell w f) where
    by : (b : Bool) → writes_at program parameters runs cell i ≡ b → cond b (Some i) (writer_before program parameters i cell) ≡ Some w
        → (writer_before program parameters i cell ≡ Some w → (w < i) × (writes_at program parameters runs cell w ≡ true)) → (w < suc i) × (writes_at program parameters runs cell w ≡ true)
    by true here is rest = let same : i ≡ w = cc in (omega (arith, same), subst (λ (v : ℕ). writes_at program parameters runs cell v ≡ true) same here)
    by false here is rest = let found = rest is in (omega (arith, found.0), found.1)

  own-writes : (j : ℕ) (x : Instance) (cell : Cell) → slice_get runs j ≡ Some x → writes_at program parameters runs cell j ≡ same_cell (written_cell program parameters x) cell
  own-writes j x cell here = ap (λ (o : Option Instance). option_map_or (λ (instance : Instance). same_cell (written_cell program parameters instance) cell) o false) here

  -- ---- one instance more

  not-yet : (i j : ℕ) (cell : Cell) → (j < i → ⊥) → is_place j (writer_before program parameters i cell) ≡ false
  not-yet i j cell late = by (writer_before program parameters i cell) refl where
    by : (o : Option ℕ) → writer_before program parameters i cell ≡ o → is_place j o ≡ false
    by None e = refl
    by (Some w) e = ne_eqb w j (λ same. late (let low = (writes i cell w e).0 in omega (arith, low, same)))

  apart : (i j : ℕ) (y : Instance) (cell : Cell) → slice_get runs j ≡ Some y → same_cell cell (written_cell program parameters y) ≡ false → is_place j (writer_before program parameters i cell) ≡ false
  apart i j y cell here other = by (writer_before program parameters i cell) refl where
    by : (o : Option ℕ) → writer_before program parameters i cell ≡ o → is_place j o ≡ false
    by None e = refl
    by (Some w) e = ne_eqb w j (λ same.
        let wrote : writes_at program parameters runs cell j ≡ true = subst (λ (v : ℕ). writes_at program parameters runs cell v ≡ true) same (writes i cell w e).1 in
        let yes : same_cell cell (written_cell program parameters y) ≡ true = flips same_cell same_cell-equal same_cell_refl cell (written_cell program parameters y) ∙ sym (own-writes j y cell here) ∙ wrote in absurd cc)

  -- the marks after the instance at place i
  mark-more : (i j : ℕ) (x y : Instance) → slice_get runs i ≡ Some x → slice_get runs j ≡ Some y
      → (mark_at i (j, y) && not (is_place j (writer_before program parameters i (written_cell program parameters x)))) ≡ mark_at (suc i) (j, y)
  mark-more i j x y at here = by (nat_lt j i) (nat_lt j (suc i)) refl refl ∙ sym (ap (λ (o : Option ℕ). cond (nat_lt j (suc i)) (is_place j o) true) next) where
    cx : Cell
    cx = written_cell program parameters x

    cy : Cell
    cy = written_cell program parameters y

    next : writer_before program parameters (suc i) cy ≡ cond (same_cell cx cy) (Some i) (writer_before program parameters i cy)
    next = ap (λ (b : Bool). cond b (Some i) (writer_before program parameters i cy)) (own-writes i x cy at)

    same-cells : same_cell cx cy ≡ true → j < i → (is_place j (writer_before program parameters i cy) && not (is_place j (writer_before program parameters i cx))) ≡ nat_eq i j
    same-cells s low =
        ap (λ (c : Cell). is_place j (writer_before program parameters i cy) && not (is_place j (writer_before program parameters i c))) (same_cell-equal cx cy s)
        ∙ never (is_place j (writer_before program parameters i cy)) ∙ sym (ne_eqb i j (λ e. omega (arith, e, low))) where
          never : (b : Bool) → (b && not b) ≡ false
          never true = refl
          never false = refl

    earlier : (s : Bool) → same_cell cx cy ≡ s → j < i
        → (is_place j (writer_before program parameters i cy) && not (is_place j (writer_before program parameters i cx))) ≡ is_place j (cond s (Some i) (writer_before program parameters i cy))
    earlier true s low = same-cells s low
    earlier false s low =
        ap (λ (b : Bool). is_place j (writer_before program parameters i cy) && not b) (apart i j y cx here s) ∙ sym (and-yes (is_place j (writer_before program parameters i cy)))

    by : (a b : Bool) → nat_lt j i ≡ a → nat_lt j (suc i) ≡ b
        → (cond a (is_place j (writer_before program parameters i cy)) true && not (is_place j (writer_before program parameters i cx))) ≡ cond b (is_place j (cond (same_cell cx cy) (Some i) (writer_before program parameters i cy))) true
    by true true e f = earlier (same_cell cx cy) refl (ltb-true j i e)
    by true false e f = absurd (let low : j < i = ltb-true j i e in let yes : nat_lt j (suc i) ≡ true = lt-ltb j (suc i) (omega (arith, low)) in cc)
    by false b e f = ap not (not-yet i j cx (λ low. let yes : nat_lt j i ≡ true = lt-ltb j i low in absurd cc)) ∙ late b f where
      late : (b : Bool) → nat_lt j (suc i) ≡ b → true ≡ cond b (is_place j (cond (same_cell cx cy) (Some i) (writer_before program parameters i cy))) true
      late false g = refl
      late true g =
          let low : j < suc i = ltb-true j (suc i) g in
          let high : j < i → ⊥ = λ h. let yes : nat_lt j i ≡ true = lt-ltb j i h in absurd cc in
          let same : j ≡ i = last_of j i low high in
          let instance : x ≡ y = let is : slice_get runs j ≡ Some x = ap (slice_get runs) same ∙ at in cc in
          let own : same_cell cx cy ≡ true = ap (λ (z : Instance). same_cell cx (written_cell program parameters z)) (sym instance) ∙ same_cell_refl cx in
          sym (ap (λ (s : Bool). is_place j (cond s (Some i) (writer_before program parameters i cy))) own ∙ eq-eqb i j (sym same)) where
            last_of : (j i : ℕ) → j < suc i → (j < i → ⊥) → j ≡ i
            last_of j i low high = omega (arith, low, high)

  pub mark-step : (i : ℕ) (x : Instance) (cells : List Cell) (last : List Bool) → slice_get runs i ≡ Some x → IsMarked i last
      → IsMarked (suc i) (unmarked last (vertex_in (length runs) cells (writer_before program parameters i (written_cell program parameters x)) (written_cell program parameters x)))
  mark-step i x cells last at so_far = subst (IsMarked (suc i)) (sym (only-written last (length runs) cells before (written_cell program parameters x) so_far.many)) (record {
    many = length-unmarked last before ∙ so_far.many;
    each = λ j y here. mark-left last before j (let low = slice_get_within runs j y here in omega (arith, low, so_far.many))
        ∙ ap (λ (b : Bool). b && not (is_place j before)) (so_far.each j y here) ∙ mark-more i j x y at here;
  }) where
    before : Option ℕ
    before = writer_before program parameters i (written_cell program parameters x)

    length-unmarked : (last : List Bool) (o : Option ℕ) → length (unmarked last o) ≡ length last
    length-unmarked last None = refl
    length-unmarked last (Some w) = length-set last w false

  -- ---- all instances

  later-writes : (j : ℕ) (y : Instance) (k : ℕ) → slice_get runs j ≡ Some y → suc j + k ≤ length runs
      → is_place j (writer_before program parameters (suc j + k) (written_cell program parameters y)) ≡ not (list_any (λ later. same_cell (written_cell program parameters later) (written_cell program parameters y)) (take k (drop (suc j) runs)))
  later-writes j y zero here below =
      let none : suc j + zero ≡ suc j = omega arith in
      ap (λ (n : ℕ). is_place j (writer_before program parameters n cy)) none
      ∙ ap (λ (b : Bool). is_place j (cond b (Some j) (writer_before program parameters j cy))) (own-writes j y cy here ∙ same_cell_refl cy) ∙ eq-eqb j j refl where
        cy : Cell
        cy = written_cell program parameters y
  later-writes j y (suc k) here below =
      ap (λ (n : ℕ). is_place j (writer_before program parameters n cy)) one
      ∙ ap (λ (b : Bool). is_place j (cond b (Some (suc j + k)) (writer_before program parameters (suc j + k) cy))) (own-writes (suc j + k) x cy at)
      ∙ by (p x) (later-writes j y k here (omega (arith, below))) ∙ sym (ap not (ap (λ (n : ℕ). list_any p (take n (drop (suc j) runs))) more ∙ list_any_more p (drop (suc j) runs) k y (omega (arith, length-drop (suc j) runs, below))
      ∙ ap (λ (z : Instance). list_any p (take k (drop (suc j) runs)) || p z) (get_or-drop (suc j) runs k y))) where
        cy : Cell
        cy = written_cell program parameters y

        p : Instance → Bool
        p later = same_cell (written_cell program parameters later) cy

        x : Instance
        x = get_or runs (suc j + k) y

        one : suc j + suc k ≡ suc (suc j + k)
        one = omega arith

        more : suc k ≡ k + 1
        more = omega arith

        at : slice_get runs (suc j + k) ≡ Some x
        at = slice_get-get_or runs (suc j + k) y (omega (arith, below))

        or-true : (b : Bool) → (b || true) ≡ true
        or-true true = refl
        or-true false = refl

        or-false : (b : Bool) → (b || false) ≡ b
        or-false true = refl
        or-false false = refl

        by : (b : Bool) → is_place j (writer_before program parameters (suc j + k) cy) ≡ not (list_any p (take k (drop (suc j) runs)))
            → is_place j (cond b (Some (suc j + k)) (writer_before program parameters (suc j + k) cy)) ≡ not (list_any p (take k (drop (suc j) runs)) || b)
        by true rest = ne_eqb (suc j + k) j (λ e. omega (arith, e)) ∙ sym (ap not (or-true (list_any p (take k (drop (suc j) runs)))))
        by false rest = rest ∙ sym (ap not (or-false (list_any p (take k (drop (suc j) runs)))))

  last-at : (j : ℕ) (y : Instance) → slice_get runs j ≡ Some y → mark_at (length runs) (j, y) ≡ is_last_writer program parameters runs (j, y)
  last-at j y here =
      let low : j < length runs = slice_get_within runs j y here in
      let all : suc j + (length runs - suc j) ≡ length runs = omega (arith, low) in
      ap (λ (b : Bool). cond b (is_place j (writer_before program parameters (length runs) (written_cell program parameters y))) true) (lt-ltb j (length runs) low)
      ∙ ap (λ (n : ℕ). is_place j (writer_before program parameters n (written_cell program parameters y))) (sym all)
      ∙ later-writes j y (length runs - suc j) here (omega (arith, all))
      ∙ ap (λ (l : List Instance). not (list_any (λ later. same_cell (written_cell program parameters later) (written_cell program parameters y)) l)) (take_rest runs (suc j))

  listed : (last : List Bool) (rest : List Instance) (k : ℕ) (f : ℕ × Instance → Bool) → length last ≡ length rest → ((j : ℕ) (x : Instance) → slice_get rest j ≡ Some x → get_or last j true ≡ f (k + j, x))
      → last ≡ map f (enumerate_from k rest)
  listed [] [] k f many each = refl
  listed [] (x ∷ rest) k f many each = absurd (omega (arith, many))
  listed (b ∷ last) [] k f many each = absurd (omega (arith, many))
  listed (b ∷ last) (x ∷ rest) k f many each =
      let none : k + 0 ≡ k = omega arith in
      ap (λ (c : Bool). c ∷ last) (each 0 x refl ∙ ap (λ (n : ℕ). f (n, x)) none)
      ∙ ap (λ (l : List Bool). f (k, x) ∷ l) (listed last rest (k + 1) f (omega (arith, many)) (λ j y here. each (suc j) y here ∙ ap (λ (n : ℕ). f (n, y)) (shift k j))) where
        shift : (k j : ℕ) → k + suc j ≡ (k + 1) + j
        shift k j = omega arith

  -- all are marked before the first instance
  pub start-marked : (count : ℕ) (last : List Bool) → last ≡ replicate count true → count ≡ length runs → IsMarked 0 last
  start-marked count last is many = record {
    many = ap length is ∙ length-replicate count true ∙ many;
    each = λ j x here. ap (λ (l : List Bool). get_or l j true) is ∙ all-true count j
        ∙ sym (ap (λ (b : Bool). cond b (is_place j (writer_before program parameters 0 (written_cell program parameters x))) true) (false_from_ne_true (nat_lt j 0) (λ e. let low : j < 0 = ltb-true j 0 e in omega (arith, low))));
  } where
    all-true : (count j : ℕ) → get_or (replicate count true) j true ≡ true
    all-true zero j = refl
    all-true (suc count) zero = refl
    all-true (suc count) (suc j) = all-true count j

  -- behind the last, the marks are those of the last writers
  pub last-marked : (last : List Bool) → IsMarked (length runs) last → last ≡ map (is_last_writer program parameters runs) (placed runs)
  last-marked last marked = listed last runs 0 (is_last_writer program parameters runs) marked.many (λ j x here. marked.each j x here ∙ last-at j x here ∙ ap (λ (n : ℕ). is_last_writer program parameters runs (n, x)) (start j)) where
    start : (j : ℕ) → j ≡ 0 + j
    start j = omega arith

-- ---- the same of runs

module _ (program : AffineProgram) (parameters : List ℤ) (runs : List Run) (listed : AreListed program parameters runs) where
  pub mark-run : (i : ℕ) (run : Run) (instances : ℕ) (known read : Known) (preds : List (Vec ℕ Global)) (found : Vec ℕ Global) (written : ℕ × ArrayVec ℤ) (last new : List Bool) (before : Option ℕ)
      → i < length runs → run ≡ get_or runs i run → instances ≡ length runs → IsScanned program parameters i known preds → GivesRun program instances run known read found
      → cell_view written ≡ cell_written program (run_of run) → before ≡ known_vertex read written → new ≡ unmarked last before → IsMarked program parameters i last → IsMarked program parameters (i + 1) new
  mark-run i run instances known read preds found written last new before below is many scanned gives wrote stood unmarks so_far =
      let at = paired run_of (with_point parameters) runs (execution program parameters) i run listed below is in
      let met = known-run program parameters runs listed i run instances known read preds found below is many scanned gives in
      let cell : cell_view written ≡ written_cell program parameters at.0 = wrote ∙ ap (cell_written program) at.1.2 in
      let vertex : before ≡ vertex_in (length (execution program parameters)) (distinct same_cell met.0) (writer_before program parameters i (written_cell program parameters at.0)) (written_cell program parameters at.0) =
      stood ∙ met.1.each written ∙ ap (λ (c : Cell). vertex_in (length (execution program parameters)) (distinct same_cell met.0) (writer_before program parameters i c) c) cell in
      subst (λ (n : ℕ). IsMarked program parameters n new) (add-one i)
      (subst (IsMarked program parameters (suc i)) (sym (unmarks ∙ ap (unmarked last) vertex)) (mark-step program parameters i at.0 (distinct same_cell met.0) last at.1.1 so_far))
