-- The vertices whose words stand in cells, where the reads of a program are gone through.
use Rattle.std.specs.Prelude.{◌≡◌, ℕ, nat_eq, if◌then◌else◌, Bool, false, cond, ℤ, List, [], ◌++◌, map, length, filter_map, Option, Some, None}
use Rattle.std.specs.HashMap.{get}
use Rattle.std.specs.List.{list_any}
use Rattle.arrayvec.specs.ArrayVec.{ArrayVec}
use Rattle.iolb_model.specs.Source.{Cell, same_cell, Source, input, source_or}
use Rattle.iolb_model.specs.Graph.{distinct, input_cell, vertex_of}
use Rattle.loop_graph.specs.Cells.{cell_view, is_cell}
use Rattle.loop_graph.specs.declared.known.Known.{Known}

-- the vertex of an input cell where the graph has so many instances and these input cells, if it is one of them
abbrev pub vertex_among : ℕ → List Cell → Cell → Option ℕ
vertex_among instances cells cell = if list_any (same_cell cell) cells then Some (vertex_of instances cells (input cell)) else None

-- the vertex whose word stands in a cell: its last writer, if there is one, and else the input, if it is one of these
abbrev pub vertex_in : ℕ → List Cell → Option ℕ → Cell → Option ℕ
vertex_in instances cells None cell = vertex_among instances cells cell
vertex_in instances cells (Some writer) cell = Some writer

-- whether a cell is that of the newest entry
abbrev pub is_newest : Option ((ℕ × ArrayVec ℤ) × ℕ) → ℕ × ArrayVec ℤ → Bool
is_newest None cell = false
is_newest (Some entry) cell = is_cell entry.0 cell

-- what the newest entry says of a cell, or else the others
abbrev pub newest_or : Option ((ℕ × ArrayVec ℤ) × ℕ) → Option ℕ → ℕ × ArrayVec ℤ → Option ℕ
newest_or None other cell = other
newest_or (Some entry) other cell = cond (is_cell entry.0 cell) (Some entry.1) other

-- the vertex whose word stands in a cell, if it is known
abbrev pub known_vertex : Known → ℕ × ArrayVec ℤ → Option ℕ
known_vertex known cell = newest_or known.newest (get is_cell known.others cell) cell

-- the same is known
abbrev pub KnowsSame : Known → Known → Type 0
KnowsSame old new = (cell : ℕ × ArrayVec ℤ) → known_vertex new cell ≡ known_vertex old cell

-- the word of a vertex was put into a cell, and every other cell has what it had
abbrev pub Puts : Known → Known → ℕ × ArrayVec ℤ → ℕ → Type 0
Puts old new cell vertex = (other : ℕ × ArrayVec ℤ) → known_vertex new other ≡ cond (is_cell cell other) (Some vertex) (known_vertex old other)

-- nothing is known
pub record KnowsNothing (known : Known) : Type 0 where
  pub none : known.newest ≡ None
  pub no_others : known.others.entries ≡ []
  pub zero_inputs : known.inputs ≡ 0

-- What is known where cells have these last writers, and these input cells were met: how many they are, each counted once,
-- and the vertex whose word stands in each cell.
pub record AreKnown (instances : ℕ) (writer : Cell → Option ℕ) (cells : List Cell) (known : Known) : Type 0 where
  pub many : known.inputs ≡ length (distinct same_cell cells)
  pub each : (cell : ℕ × ArrayVec ℤ) → known_vertex known cell ≡ vertex_in instances (distinct same_cell cells) (writer (cell_view cell)) (cell_view cell)

-- the source of a read of a cell, where cells have these last writers
abbrev pub source_by : (Cell → Option ℕ) → Cell → Source
source_by writer cell = source_or (writer cell) cell

-- Where reads have these sources, the input cells that were met are those before the reads, and then the sources'. The
-- vertices are those of the sources, whatever input cells are met later.
pub record AreRead (instances : ℕ) (writer : Cell → Option ℕ) (before : List Cell) (sources : List Source) (known : Known) (vertices : List ℕ) : Type 0 where
  pub met : AreKnown instances writer (before ++ filter_map input_cell sources) known
  pub each : (later : List Cell) → vertices ≡ map (vertex_of instances (distinct same_cell ((before ++ filter_map input_cell sources) ++ later))) sources

-- the same of the predecessors of an instance, which are the different vertices that it reads
pub record ArePreceded (instances : ℕ) (writer : Cell → Option ℕ) (before : List Cell) (sources : List Source) (known : Known) (preds : List ℕ) : Type 0 where
  pub vertices : List ℕ
  pub read : AreRead instances writer before sources known vertices
  pub once : preds ≡ distinct nat_eq vertices
