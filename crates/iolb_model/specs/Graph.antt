-- The computation graph of an execution (Hong and Kung 1981): its vertices are the instances and the input cells
-- that are read, and each source is a predecessor of its reader.
use Rattle.std.specs.Prelude.{ℕ, suc, ◌+◌, ℤ, Bool, not, nat_eq, List, [], ◌∷◌, map, length, drop, filter, filter_map, flat_map, Option, Some, None}
use Rattle.std.specs.List.{enumerate_from, list_any, position_or_len}
use Rattle.iolb_model.specs.Program.{AffineProgram}
use Rattle.iolb_model.specs.Execution.{Instance, execution}
use Rattle.iolb_model.specs.Source.{Cell, same_cell, written_cell, Source, written_at, input, sources_of}

-- Any computation graph. The instances are the vertices 0, 1, .. in the order of execution, and the inputs follow.
-- For each instance there are its predecessors and a mark that says whether it is a last writer.
pub record ComputationGraph : Type 0 where
  pub instances : ℕ
  pub inputs : ℕ
  pub predecessors : List (List ℕ)
  pub last_writers : List Bool

-- each member once, where it first stands
abbrev pub distinct : {A : Type 0} → (A → A → Bool) → List A → List A
distinct same [] = []
distinct same (x ∷ xs) = x ∷ filter (λ y. not (same x y)) (distinct same xs)

-- the instances with their places, from 0
abbrev pub placed : List Instance → List (ℕ × Instance)
placed runs = enumerate_from 0 runs

-- the cell of a source that is an input
abbrev pub input_cell : Source → Option Cell
input_cell (written_at place) = None
input_cell (input cell) = Some cell

-- the input cells that are a source of some read, in the order of first read
abbrev pub input_cells : AffineProgram → List ℤ → List Cell
input_cells program parameters =
    let runs = execution program parameters
    in distinct same_cell (filter_map input_cell (flat_map (sources_of program parameters runs) (placed runs)))

-- a source's vertex: an instance's place, or past the instances the place of the input cell among the input cells
abbrev pub vertex_of : ℕ → List Cell → Source → ℕ
vertex_of instances cells (written_at place) = place
vertex_of instances cells (input cell) = instances + position_or_len (same_cell cell) cells

-- the vertex of an input cell that is read
abbrev pub input_vertex : AffineProgram → List ℤ → Cell → ℕ
input_vertex program parameters cell = vertex_of (length (execution program parameters)) (input_cells program parameters) (input cell)

-- the distinct sources of an instance's reads, as vertices, in the order of the reads
abbrev pub predecessors_of : AffineProgram → List ℤ → List Instance → List Cell → ℕ × Instance → List ℕ
predecessors_of program parameters runs cells placed =
    distinct nat_eq (map (vertex_of (length runs) cells) (sources_of program parameters runs placed))

-- whether no later instance writes the cell that this one writes
abbrev pub is_last_writer : AffineProgram → List ℤ → List Instance → ℕ × Instance → Bool
is_last_writer program parameters runs placed =
    not (list_any (λ later. same_cell (written_cell program parameters later) (written_cell program parameters placed.1)) (drop (suc placed.0) runs))

-- the computation graph of a program at these parameter values
abbrev pub computation_graph : AffineProgram → List ℤ → ComputationGraph
computation_graph program parameters =
    let runs = execution program parameters
    in let cells = input_cells program parameters
    in record {
      instances = length runs;
      inputs = length cells;
      predecessors = map (predecessors_of program parameters runs cells) (placed runs);
      last_writers = map (is_last_writer program parameters runs) (placed runs);
    }
