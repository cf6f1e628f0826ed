-- The computation graph of a program is well formed.
use Rattle.std.proofs.Common.{◌≡◌, refl, sym, ◌∙◌, ap, subst, ℕ, zero, suc, ◌+◌, ◌<◌, Bool, true, false, cond, not, List, [], ◌∷◌, length, map, get_or, arith}
use Rattle.std.specs.Prelude.{ℤ, nat_eq, Option, Some, None, slice_get, filter_map, flat_map}
use Rattle.std.specs.List.{AllByRecursion, IsDistinct, position_or_len}
use Rattle.std.proofs.lemmas.List.{length-map, get_or-map}
use Rattle.std.proofs.lemmas.List.FromFn.{length-enumerate_from, get_or-enumerate_from}
use Rattle.base_laws.proofs.Lists.{All-map, All-weaken}
use Rattle.iolb_model.specs.Program.{AffineProgram}
use Rattle.iolb_model.specs.Execution.{Instance, execution}
use Rattle.iolb_model.specs.Source.{Cell, same_cell, read_cells, writes_at, last_write_before, Source, input, source_or, source_of, sources_of}
use Rattle.iolb_model.specs.Graph.{distinct, placed, input_cell, input_cells, vertex_of, predecessors_of, is_last_writer, computation_graph}
use Rattle.iolb_model.specs.Game.{predecessors_at}
use Rattle.execution_laws.proofs.Members.{Member, Member-map, Member-flat_map, Member-filter_map, Member-distinct, Member-enumerate}
use Rattle.execution_laws.proofs.Cells.{same_cell-equal, position-Member}
use Rattle.execution_laws.proofs.Ordered.{All-from, All-member}
use Rattle.pebble_game.specs.Graphs.{IsWellFormedGraph}
use Rattle.pebble_game.proofs.Marks.{all-filtered, distinct-filtered}
use Rattle.pebble_game.proofs.InputVertices.{slice_get-below}

-- what holds of each member holds of all that are taken once
pub All-distinct : (P : ℕ → Type 0) (xs : List ℕ) → AllByRecursion P xs → AllByRecursion P (distinct nat_eq xs)
All-distinct P [] h = tt
All-distinct P (x ∷ xs) h =
    let rest : AllByRecursion P (distinct nat_eq xs) = All-distinct P xs h.1 in
    (h.0, all-filtered P (λ (y : ℕ). not (nat_eq x y)) (distinct nat_eq xs) (λ y m t. All-member P (distinct nat_eq xs) y rest m))

apart : (b : Bool) → not b ≡ true → b ≡ false
apart true e = cc
apart false e = refl

-- members that are taken once are different
pub IsDistinct-distinct : (xs : List ℕ) → IsDistinct nat_eq (distinct nat_eq xs)
unfolding IsDistinct
IsDistinct-distinct [] = tt
IsDistinct-distinct (x ∷ xs) = (
  all-filtered (λ (y : ℕ). nat_eq x y ≡ false) (λ (y : ℕ). not (nat_eq x y)) (distinct nat_eq xs) (λ y m t. apart (nat_eq x y) t),
  distinct-filtered (λ (y : ℕ). not (nat_eq x y)) (distinct nat_eq xs) (IsDistinct-distinct xs),
)

-- an earlier write is earlier
last_write-below : (program : AffineProgram) (parameters : List ℤ) (runs : List Instance) (cell : Cell) (place writer : ℕ)
    → last_write_before program parameters runs cell place ≡ Some writer → writer < place
last_write-below program parameters runs cell zero writer e = absurd cc
last_write-below program parameters runs cell (suc place) writer e =
    by (writes_at program parameters runs cell place) e (λ (f : last_write_before program parameters runs cell place ≡ Some writer). last_write-below program parameters runs cell place writer f) where
      by : (b : Bool) → cond b (Some place) (last_write_before program parameters runs cell place) ≡ Some writer
          → (last_write_before program parameters runs cell place ≡ Some writer → writer < place) → writer < suc place
      by true f later = let same : place ≡ writer = cc in omega (arith, same)
      by false f later = omega (arith, later f)

module _ (program : AffineProgram) (parameters : List ℤ) where
  abbrev pub runs : List Instance
  runs = execution program parameters

  abbrev pub cells : List Cell
  cells = input_cells program parameters

  -- a cell that is read, and that nothing writes before, is an input cell
  Member-cells : (place : ℕ) (instance : Instance) (cell : Cell) → slice_get runs place ≡ Some instance → Member cell (read_cells program parameters instance)
      → last_write_before program parameters runs cell place ≡ None → Member cell cells
  Member-cells place instance cell here read unwritten =
      let source : source_of program parameters runs place cell ≡ input cell = ap (λ (o : Option ℕ). source_or o cell) unwritten in
      let among : Member (input cell) (sources_of program parameters runs (place, instance)) =
      subst (λ (z : Source). Member z (sources_of program parameters runs (place, instance))) source
      (Member-map (source_of program parameters runs place) cell (read_cells program parameters instance) read) in
      let standing : Member {A = ℕ × Instance} (place, instance) (placed runs) =
      subst (λ (n : ℕ). Member {A = ℕ × Instance} (n, instance) (placed runs)) (zero_more place) (Member-enumerate 0 runs place instance here) in
      Member-distinct same_cell same_cell-equal cell (filter_map input_cell (flat_map (sources_of program parameters runs) (placed runs)))
      (Member-filter_map input_cell (input cell) (flat_map (sources_of program parameters runs) (placed runs)) cell
      (Member-flat_map (sources_of program parameters runs) (place, instance) (placed runs) (input cell) standing among) refl) where
        zero_more : (n : ℕ) → 0 + n ≡ n
        zero_more n = omega arith

  -- the vertex of a source is a vertex, and an instance only where it comes before
  abbrev pub IsEarlier : ℕ → ℕ → Type 0
  IsEarlier place vertex = (vertex < length runs + length cells) × (vertex < length runs → vertex < place)

  pub source-earlier : (place : ℕ) (instance : Instance) (cell : Cell) → slice_get runs place ≡ Some instance → Member cell (read_cells program parameters instance)
      → IsEarlier place (vertex_of (length runs) cells (source_of program parameters runs place cell))
  source-earlier place instance cell here read = by (last_write_before program parameters runs cell place) refl where
    by : (o : Option ℕ) → last_write_before program parameters runs cell place ≡ o → IsEarlier place (vertex_of (length runs) cells (source_or o cell))
    by None e =
        let among : position_or_len (same_cell cell) cells < length cells =
        slice_get-below cells (position_or_len (same_cell cell) cells) cell (position-Member cell cells (Member-cells place instance cell here read e)) in
        (omega (arith, among), λ h. absurd (omega (arith, h)))
    by (Some writer) e =
        let before : writer < place = last_write-below program parameters runs cell place writer e in
        (omega (arith, before, slice_get-below runs place instance here), λ h. before)

  -- the predecessors of the instance at a place
  pub predecessors-at : (place : ℕ) (instance : Instance) → place < length runs → slice_get runs place ≡ Some instance
      → predecessors_at (computation_graph program parameters) place ≡ predecessors_of program parameters runs cells (place, instance)
  predecessors-at place instance below here =
      get_or-map (predecessors_of program parameters runs cells) (placed runs) place (0, instance) [] (subst (λ (n : ℕ). place < n) (sym (length-enumerate_from 0 runs)) below)
      ∙ ap (predecessors_of program parameters runs cells) (get_or-enumerate_from 0 runs place (0, instance) below ∙ pair (0 + place) place (get_or runs place instance) instance (omega arith) (found runs place here)) where
        pair : (a b : ℕ) (x y : Instance) → a ≡ b → x ≡ y → ◌≡◌ {A = ℕ × Instance} (a, x) (b, y)
        pair a b x y e f = cc

        found : (xs : List Instance) (n : ℕ) → slice_get xs n ≡ Some instance → get_or xs n instance ≡ instance
        found [] n e = refl
        found (x ∷ xs) zero e = cc
        found (x ∷ xs) (suc n) e = found xs n e

  standing : (xs : List Instance) (n : ℕ) → n < length xs → (x : Instance) × (slice_get xs n ≡ Some x)
  standing [] n h = absurd (omega (arith, h))
  standing (x ∷ xs) zero h = (x, refl)
  standing (x ∷ xs) (suc n) h = standing xs n (omega (arith, h))

  all-earlier : (place : ℕ) → place < length runs → AllByRecursion (IsEarlier place) (predecessors_at (computation_graph program parameters) place)
  all-earlier place below =
      let here : (x : Instance) × (slice_get runs place ≡ Some x) = standing runs place below in
      subst (λ (l : List ℕ). AllByRecursion (IsEarlier place) l) (sym (predecessors-at place here.0 below here.1))
      (All-distinct (IsEarlier place) (map (vertex_of (length runs) cells) (sources_of program parameters runs (place, here.0)))
      (All-map (IsEarlier place) (vertex_of (length runs) cells) (sources_of program parameters runs (place, here.0))
      (All-map (λ (z : Source). IsEarlier place (vertex_of (length runs) cells z)) (source_of program parameters runs place) (read_cells program parameters here.0)
      (All-from (λ (c : Cell). IsEarlier place (vertex_of (length runs) cells (source_of program parameters runs place c))) (read_cells program parameters here.0)
      (λ c m. source-earlier place here.0 c here.1 m)))))

  pub computation_graph-well_formed : IsWellFormedGraph (computation_graph program parameters)
  computation_graph-well_formed = record {
    lists = length-map (placed runs) (predecessors_of program parameters runs cells) ∙ length-enumerate_from 0 runs;
    marks = length-map (placed runs) (is_last_writer program parameters runs) ∙ length-enumerate_from 0 runs;
    there = λ v h. All-weaken (IsEarlier v) (λ (u : ℕ). u < length runs + length cells) (predecessors_at (computation_graph program parameters) v) (λ u e. e.0) (all-earlier v h);
    earlier = λ v h. All-weaken (IsEarlier v) (λ (u : ℕ). u < length runs → u < v) (predecessors_at (computation_graph program parameters) v) (λ u e. e.1) (all-earlier v h);
    different = λ v h. let here : (x : Instance) × (slice_get runs v ≡ Some x) = standing runs v h in
        subst (λ (l : List ℕ). IsDistinct nat_eq l) (sym (predecessors-at v here.0 h here.1))
        (IsDistinct-distinct (map (vertex_of (length runs) cells) (sources_of program parameters runs (v, here.0))));
  }
