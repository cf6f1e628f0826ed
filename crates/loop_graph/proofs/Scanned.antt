-- What is known at a place of the execution, where the reads of all instances before it were gone through.
use Rattle.std.proofs.Common.{◌≡◌, refl, sym, ◌∙◌, ap, subst, ℕ, zero, suc, ◌+◌, ◌<◌, ◌≤◌, Bool, true, false, cond, List, [], ◌∷◌, ◌++◌, length, map, drop, get_or, Some, nat_eq, Vec, Global, arith}
use Rattle.std.specs.Prelude.{ℤ, Option, slice_get, filter_map, flat_map}
use Rattle.std.specs.HashMap.{get}
use Rattle.std.specs.List.{enumerate_from}
use Rattle.std.specs.Map.{lookup}
use Rattle.arrayvec.specs.ArrayVec.{ArrayVec}
use Rattle.std.specs.Option.{option_map_or}
use Rattle.std.proofs.lemmas.List.{append-nil, append_assoc, drop_all, length-append, length-map, map_push}
use Rattle.std.proofs.lemmas.List.Elements.{filter_map-append}
use Rattle.base_laws.proofs.Lists.{add-one}
use Rattle.iolb_model.specs.Program.{AffineProgram}
use Rattle.iolb_model.specs.Execution.{Instance, execution}
use Rattle.iolb_model.specs.Source.{Cell, same_cell, written_cell, read_cells, last_write_before, sources_of}
use Rattle.iolb_model.specs.Graph.{distinct, placed, input_cell, input_cells, vertex_of, predecessors_of, computation_graph}
use Rattle.iolb_model.specs.Game.{vertices}
use Rattle.execution_laws.proofs.Cells.{same_cell-equal, same_cell_refl}
use Rattle.loop_graph.specs.Runs.{with_point, run_of}
use Rattle.loop_graph.specs.declared.listed.Run.{Run}
use Rattle.loop_graph.specs.Cells.{cell_view, is_cell, cell_written, cells_read}
use Rattle.loop_graph.specs.Known.{newest_or, source_by, vertex_in, AreKnown, ArePreceded, KnowsNothing, Puts}
use Rattle.loop_graph.specs.declared.known.Known.{Known}
use Rattle.loop_graph.specs.Found.{AreListed}
use Rattle.loop_graph.specs.declared.limits.TheConstants.{VERTICES}
use Rattle.loop_graph.proofs.Distinct.{distinct-append}

-- what two lists with the same images have at a place
pub paired : {A B C : Type 0} (f : A → C) (g : B → C) (xs : List A) (ys : List B) (i : ℕ) (a : A) → map f xs ≡ map g ys → i < length xs → a ≡ get_or xs i a
    → (b : B) × ((drop i ys ≡ b ∷ drop (suc i) ys) × (slice_get ys i ≡ Some b) × (f a ≡ g b))
paired f g [] ys i a same below is = absurd (omega arith)
paired f g (x ∷ xs) [] i a same below is = absurd cc
paired f g (x ∷ xs) (y ∷ ys) zero a same below is = (y, (refl, refl, ap f is ∙ first)) where
  first : f x ≡ g y
  first = cc
paired f g (x ∷ xs) (y ∷ ys) (suc i) a same below is = paired f g xs ys i a rest (omega arith) is where
  rest : map f xs ≡ map g ys
  rest = cc

abbrev pub items : Vec ℕ Global → List ℕ
items preds = preds.items

-- the instances from a place on, with their places
abbrev pub rest_from : List Instance → ℕ → List (ℕ × Instance)
rest_from runs i = enumerate_from i (drop i runs)

pub rest-step : (runs : List Instance) (i : ℕ) (x : Instance) → drop i runs ≡ x ∷ drop (suc i) runs → rest_from runs i ≡ (i, x) ∷ rest_from runs (suc i)
rest-step runs i x is =
    ap (enumerate_from i) is ∙ ap (λ (n : ℕ). (i, x) ∷ enumerate_from n (drop (suc i) runs)) (sym (add-one i))

-- the input cells that some instances read, repeats included
abbrev pub cells_of : AffineProgram → List ℤ → List (ℕ × Instance) → List Cell
cells_of program parameters placed = filter_map input_cell (flat_map (sources_of program parameters (execution program parameters)) placed)

-- the predecessors of an instance in the program's graph
abbrev pub preds_at : AffineProgram → List ℤ → ℕ × Instance → List ℕ
preds_at program parameters placed = predecessors_of program parameters (execution program parameters) (input_cells program parameters) placed

-- the last instance before a place that writes a cell
abbrev pub writer_before : AffineProgram → List ℤ → ℕ → Cell → Option ℕ
writer_before program parameters place cell = last_write_before program parameters (execution program parameters) cell place

-- The input cells that were met, with those that the instances from the place on read, are those of the program; and the
-- predecessors that were found, with those of the instances from the place on.
pub record IsScanned (program : AffineProgram) (parameters : List ℤ) (i : ℕ) (known : Known) (found : List (Vec ℕ Global)) : Type 0 where
  pub met : List Cell
  pub are : AreKnown (length (execution program parameters)) (writer_before program parameters i) met known
  pub left : met ++ cells_of program parameters (rest_from (execution program parameters) i) ≡ cells_of program parameters (placed (execution program parameters))
  pub preds : map items found ++ map (preds_at program parameters) (rest_from (execution program parameters) i) ≡ map (preds_at program parameters) (placed (execution program parameters))

-- what the reads of an instance give
abbrev pub Gives : AffineProgram → List ℤ → Instance → Known → Known → Vec ℕ Global → Type 0
Gives program parameters x known read found = (writer : Cell → Option ℕ) (before : List Cell) → AreKnown (length (execution program parameters)) writer before known
    → ArePreceded (length (execution program parameters)) writer before (map (source_by writer) (read_cells program parameters x)) read found.items

later-writer : (instances : ℕ) (cells : List Cell) (cell : Cell) (i : ℕ) (b : Bool) (o : Option ℕ) → cond b (Some i) (vertex_in instances cells o cell) ≡ vertex_in instances cells (cond b (Some i) o) cell
later-writer instances cells cell i true o = refl
later-writer instances cells cell i false o = refl

module _ (program : AffineProgram) (parameters : List ℤ) where
  -- the next instance's reads
  met-more : (i : ℕ) (x : Instance) (met : List Cell) → drop i (execution program parameters) ≡ x ∷ drop (suc i) (execution program parameters)
      → met ++ cells_of program parameters (rest_from (execution program parameters) i) ≡ cells_of program parameters (placed (execution program parameters))
      → (met ++ filter_map input_cell (sources_of program parameters (execution program parameters) (i, x))) ++ cells_of program parameters (rest_from (execution program parameters) (suc i))
      ≡ cells_of program parameters (placed (execution program parameters))
  met-more i x met is left =
      append_assoc met (filter_map input_cell (sources_of program parameters (execution program parameters) (i, x))) (cells_of program parameters (rest_from (execution program parameters) (suc i)))
      ∙ ap (λ (l : List Cell). met ++ l) (sym (filter_map-append input_cell (sources_of program parameters (execution program parameters) (i, x))
      (flat_map (sources_of program parameters (execution program parameters)) (rest_from (execution program parameters) (suc i)))))
      ∙ ap (λ (l : List (ℕ × Instance)). met ++ cells_of program parameters l) (sym (rest-step (execution program parameters) i x is)) ∙ left

  -- so many input cells are those of the graph, or fewer
  inputs-within : (met later : List Cell) (count : ℕ) → count ≡ length (distinct same_cell met) → met ++ later ≡ cells_of program parameters (placed (execution program parameters))
      → count ≤ length (input_cells program parameters)
  inputs-within met later count many left =
      let more = distinct-append same_cell same_cell-equal same_cell_refl met later in
      let whole : input_cells program parameters ≡ distinct same_cell met ++ more.0 = ap (distinct same_cell) (sym left) ∙ more.1 in
      omega (arith, many, ap length whole, length-append (distinct same_cell met) more.0)

  -- what is known once an instance has written
  known-more : (i : ℕ) (x : Instance) (met : List Cell) (known new : Known) (written : ℕ × ArrayVec ℤ) → slice_get (execution program parameters) i ≡ Some x
      → AreKnown (length (execution program parameters)) (writer_before program parameters i) met known
      → cell_view written ≡ written_cell program parameters x → Puts known new written i → new.inputs ≡ known.inputs
      → AreKnown (length (execution program parameters)) (writer_before program parameters (suc i)) met new
  known-more i x met known new written here are is puts same = record {
    many = same ∙ are.many;
    each = λ cell. puts cell
        ∙ ap (λ (o : Option ℕ). cond (same_cell (cell_view written) (cell_view cell)) (Some i) o) (are.each cell)
        ∙ ap (λ (c : Cell). cond (same_cell c (cell_view cell)) (Some i) (vertex_in (length (execution program parameters)) (distinct same_cell met) (writer_before program parameters i (cell_view cell)) (cell_view cell))) is
        ∙ later-writer (length (execution program parameters)) (distinct same_cell met) (cell_view cell) i (same_cell (written_cell program parameters x) (cell_view cell)) (writer_before program parameters i (cell_view cell))
        ∙ sym (ap (λ (o : Option Instance). vertex_in (length (execution program parameters)) (distinct same_cell met)
        (cond (option_map_or (λ (instance : Instance). same_cell (written_cell program parameters instance) (cell_view cell)) o false) (Some i) (writer_before program parameters i (cell_view cell))) (cell_view cell)) here);
  }

  pub scan-step : (i : ℕ) (x : Instance) (known read new : Known) (preds : List (Vec ℕ Global)) (found : Vec ℕ Global) (written : ℕ × ArrayVec ℤ)
      → drop i (execution program parameters) ≡ x ∷ drop (suc i) (execution program parameters) → slice_get (execution program parameters) i ≡ Some x
      → IsScanned program parameters i known preds → Gives program parameters x known read found
      → cell_view written ≡ written_cell program parameters x → Puts read new written i → new.inputs ≡ read.inputs
      → IsScanned program parameters (suc i) new (preds ++ found ∷ [])
  scan-step i x known read new preds found written is here so_far gives wrote puts same = record {
    met = so_far.met ++ filter_map input_cell (sources_of program parameters (execution program parameters) (i, x));
    are = known-more i x (so_far.met ++ filter_map input_cell (sources_of program parameters (execution program parameters) (i, x))) read new written here given.read.met wrote puts same;
    left = whole;
    preds = ap (λ (l : List (List ℕ)). l ++ map (preds_at program parameters) (rest_from (execution program parameters) (suc i))) (map_push items preds found)
        ∙ append_assoc (map items preds) (found.items ∷ []) (map (preds_at program parameters) (rest_from (execution program parameters) (suc i)))
        ∙ ap (λ (l : List ℕ). map items preds ++ (l ∷ map (preds_at program parameters) (rest_from (execution program parameters) (suc i)))) own
        ∙ ap (λ (l : List (ℕ × Instance)). map items preds ++ map (preds_at program parameters) l) (sym (rest-step (execution program parameters) i x is))
        ∙ so_far.preds;
  } where
    given : ArePreceded (length (execution program parameters)) (writer_before program parameters i) so_far.met (sources_of program parameters (execution program parameters) (i, x)) read found.items
    given = gives (writer_before program parameters i) so_far.met so_far.are

    whole : (so_far.met ++ filter_map input_cell (sources_of program parameters (execution program parameters) (i, x))) ++ cells_of program parameters (rest_from (execution program parameters) (suc i))
        ≡ cells_of program parameters (placed (execution program parameters))
    whole = met-more i x so_far.met is so_far.left

    own : found.items ≡ preds_at program parameters (i, x)
    own =
        given.once ∙ ap (distinct nat_eq) (given.read.each (cells_of program parameters (rest_from (execution program parameters) (suc i)))
        ∙ ap (λ (l : List Cell). map (vertex_of (length (execution program parameters)) (distinct same_cell l)) (sources_of program parameters (execution program parameters) (i, x))) whole)

  -- too many input cells were met
  pub scan-stops : (i : ℕ) (x : Instance) (known read : Known) (preds : List (Vec ℕ Global)) (found : Vec ℕ Global) (runs : ℕ)
      → drop i (execution program parameters) ≡ x ∷ drop (suc i) (execution program parameters)
      → IsScanned program parameters i known preds → Gives program parameters x known read found → runs ≡ length (execution program parameters) → VERTICES < runs + read.inputs
      → VERTICES < vertices (computation_graph program parameters)
  scan-stops i x known read preds found runs is so_far gives many past =
      let given : ArePreceded (length (execution program parameters)) (writer_before program parameters i) so_far.met (sources_of program parameters (execution program parameters) (i, x)) read found.items =
      gives (writer_before program parameters i) so_far.met so_far.are in
      let few : read.inputs ≤ length (input_cells program parameters) =
      inputs-within (so_far.met ++ filter_map input_cell (sources_of program parameters (execution program parameters) (i, x))) (cells_of program parameters (rest_from (execution program parameters) (suc i)))
      read.inputs given.read.met.many (met-more i x so_far.met is so_far.left) in
      omega (arith, few, many, past)

module _ (program : AffineProgram) (parameters : List ℤ) where
  -- nothing is known before the first instance
  pub scan-start : (known : Known) (preds : List (Vec ℕ Global)) → KnowsNothing known → preds ≡ [] → IsScanned program parameters 0 known preds
  scan-start known preds nothing none = record {
    met = [];
    are = record {
      many = nothing.zero_inputs;
      each = λ cell. ap (λ newest. newest_or newest (get is_cell known.others cell) cell) nothing.none ∙ ap (λ entries. lookup (is_cell cell) entries) nothing.no_others;
    };
    left = refl;
    preds = ap (λ (l : List (Vec ℕ Global)). map items l ++ map (preds_at program parameters) (rest_from (execution program parameters) 0)) none;
  }

  -- and behind the last all of the graph
  module _ (i : ℕ) (known : Known) (preds : List (Vec ℕ Global)) (last : i ≡ length (execution program parameters)) (scanned : IsScanned program parameters i known preds) where
    none-left : rest_from (execution program parameters) i ≡ []
    none-left = ap (enumerate_from i) (drop_all i (execution program parameters) (omega (arith, last)))

    all-met : scanned.met ≡ cells_of program parameters (placed (execution program parameters))
    all-met = sym (append-nil scanned.met) ∙ ap (λ (l : List (ℕ × Instance)). scanned.met ++ cells_of program parameters l) (sym none-left) ∙ scanned.left

    pub scan-inputs : known.inputs ≡ (computation_graph program parameters).inputs
    scan-inputs = scanned.are.many ∙ ap (λ (l : List Cell). length (distinct same_cell l)) all-met

    pub scan-preds : map items preds ≡ (computation_graph program parameters).predecessors
    scan-preds =
        sym (append-nil (map items preds)) ∙ ap (λ (l : List (ℕ × Instance)). map items preds ++ map (preds_at program parameters) l) (sym none-left) ∙ scanned.preds

-- ---- the same of runs

pub runs-many : (program : AffineProgram) (parameters : List ℤ) (runs : List Run) → AreListed program parameters runs → length runs ≡ length (execution program parameters)
runs-many program parameters runs listed =
    sym (length-map runs run_of) ∙ ap length listed ∙ length-map (execution program parameters) (with_point parameters)

-- what the reads of a run give
abbrev pub GivesRun : AffineProgram → ℕ → Run → Known → Known → Vec ℕ Global → Type 0
GivesRun program instances run known read found = (writer : Cell → Option ℕ) (before : List Cell) → AreKnown instances writer before known
    → ArePreceded instances writer before (map (source_by writer) (cells_read program (run_of run))) read found.items

module _ (program : AffineProgram) (parameters : List ℤ) (runs : List Run) (listed : AreListed program parameters runs) where
  gives-run : (run : Run) (x : Instance) (instances : ℕ) (known read : Known) (found : Vec ℕ Global) → instances ≡ length runs → run_of run ≡ with_point parameters x
      → GivesRun program instances run known read found → Gives program parameters x known read found
  gives-run run x instances known read found many at gives writer before met =
      let all : instances ≡ length (execution program parameters) = many ∙ runs-many program parameters runs listed in
      subst (λ (n : ℕ). ArePreceded n writer before (map (source_by writer) (read_cells program parameters x)) read found.items) all
      (subst (λ (p : ℕ × List ℤ). ArePreceded instances writer before (map (source_by writer) (cells_read program p)) read found.items) at
      (gives writer before (subst (λ (n : ℕ). AreKnown n writer before known) (sym all) met)))

  -- what is known where the reads of the run at a place were gone through
  pub known-run : (i : ℕ) (run : Run) (instances : ℕ) (known read : Known) (preds : List (Vec ℕ Global)) (found : Vec ℕ Global)
      → i < length runs → run ≡ get_or runs i run → instances ≡ length runs → IsScanned program parameters i known preds → GivesRun program instances run known read found
      → (met : List Cell) × AreKnown (length (execution program parameters)) (writer_before program parameters i) met read
  known-run i run instances known read preds found below is many so_far gives =
      let at = paired run_of (with_point parameters) runs (execution program parameters) i run listed below is in
      let given : ArePreceded (length (execution program parameters)) (writer_before program parameters i) so_far.met (sources_of program parameters (execution program parameters) (i, at.0)) read found.items =
      gives-run run at.0 instances known read found many at.1.2 gives (writer_before program parameters i) so_far.met so_far.are in
      (so_far.met ++ filter_map input_cell (sources_of program parameters (execution program parameters) (i, at.0)), given.read.met)

  pub scan-run : (i : ℕ) (run : Run) (instances : ℕ) (known read new : Known) (preds : List (Vec ℕ Global)) (found : Vec ℕ Global) (written : ℕ × ArrayVec ℤ)
      → i < length runs → run ≡ get_or runs i run → instances ≡ length runs → IsScanned program parameters i known preds → GivesRun program instances run known read found
      → cell_view written ≡ cell_written program (run_of run) → Puts read new written i → new.inputs ≡ read.inputs
      → IsScanned program parameters (i + 1) new (preds ++ found ∷ [])
  scan-run i run instances known read new preds found written below is many so_far gives wrote puts same =
      let at = paired run_of (with_point parameters) runs (execution program parameters) i run listed below is in
      subst (λ (n : ℕ). IsScanned program parameters n new (preds ++ found ∷ [])) (add-one i)
      (scan-step program parameters i at.0 known read new preds found written at.1.0 at.1.1 so_far (gives-run run at.0 instances known read found many at.1.2 gives)
      (wrote ∙ ap (cell_written program) at.1.2) puts same)

  pub stops-run : (i : ℕ) (run : Run) (instances : ℕ) (known read : Known) (preds : List (Vec ℕ Global)) (found : Vec ℕ Global)
      → i < length runs → run ≡ get_or runs i run → instances ≡ length runs → IsScanned program parameters i known preds → GivesRun program instances run known read found
      → VERTICES < instances + read.inputs → VERTICES < vertices (computation_graph program parameters)
  stops-run i run instances known read preds found below is many so_far gives past =
      let at = paired run_of (with_point parameters) runs (execution program parameters) i run listed below is in
      scan-stops program parameters i at.0 known read preds found instances at.1.0 so_far (gives-run run at.0 instances known read found many at.1.2 gives)
      (many ∙ runs-many program parameters runs listed) past
