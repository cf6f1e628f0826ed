-- Sources of reads: the last earlier write of the cell, or the cell as it was before the program. (Feautrier 1991.)
use Rattle.std.specs.Prelude.{ℕ, zero, suc, ℤ, Bool, false, ◌&&◌, ◌==◌, if◌then◌else◌, List, ◌++◌, map, Option, Some, None, slice_get}
use Rattle.std.specs.Option.{option_map_or}
use lib.Pointwise.{pointwise}
use Rattle.std.specs.Ordering.{int_eq}
use Rattle.iolb_model.specs.Form.{form_value}
use Rattle.iolb_model.specs.Program.{Access, AffineProgram, statement_at, read_at}
use Rattle.iolb_model.specs.Execution.{Instance}

-- a cell of an array: which array, and a whole number for each subscript
pub record Cell : Type 0 where
  pub array : ℕ
  pub subscripts : List ℤ

-- whether two cells are one
abbrev pub same_cell : Cell → Cell → Bool
same_cell a b = (a.array == b.array) && pointwise int_eq a.subscripts b.subscripts

-- the cell of a reference at a point
abbrev pub cell_of : Access → List ℤ → Cell
cell_of access point = record { array = access.array; subscripts = map (λ form. form_value form point) access.subscripts }

-- the cell that an instance writes
abbrev pub written_cell : AffineProgram → List ℤ → Instance → Cell
written_cell program parameters instance =
    cell_of (statement_at program instance.statement).writes (parameters ++ instance.values)

-- the cells that an instance reads, in the order of its reads, repeats included
abbrev pub read_cells : AffineProgram → List ℤ → Instance → List Cell
read_cells program parameters instance =
    map (λ access. cell_of access (parameters ++ instance.values)) (statement_at program instance.statement).reads

-- the cell of a statement's read at these loop values
abbrev pub read_cell : AffineProgram → List ℤ → ℕ → ℕ → List ℤ → Cell
read_cell program parameters statement read values = cell_of (read_at program statement read) (parameters ++ values)

-- whether the instance at this place of the execution is there and writes the cell
abbrev pub writes_at : AffineProgram → List ℤ → List Instance → Cell → ℕ → Bool
writes_at program parameters runs cell place =
    option_map_or (λ instance. same_cell (written_cell program parameters instance) cell) (slice_get runs place) false

-- the greatest place below this one whose instance writes the cell, if there is one
abbrev pub last_write_before : AffineProgram → List ℤ → List Instance → Cell → ℕ → Option ℕ
last_write_before program parameters runs cell zero = None
last_write_before program parameters runs cell (suc place) =
    if writes_at program parameters runs cell place then Some place else last_write_before program parameters runs cell place

-- where the word of a read comes from: the instance at this place, or the input cell
pub data Source : Type 0 where
  written_at : ℕ → Source
  input : Cell → Source

-- the place if there is one, and else the input cell
abbrev pub source_or : Option ℕ → Cell → Source
source_or None cell = input cell
source_or (Some place) cell = written_at place

-- the source of a read of the cell by the instance at this place, which reads before it writes
abbrev pub source_of : AffineProgram → List ℤ → List Instance → ℕ → Cell → Source
source_of program parameters runs place cell =
    source_or (last_write_before program parameters runs cell place) cell

-- the sources of an instance's reads, in the order of the reads
abbrev pub sources_of : AffineProgram → List ℤ → List Instance → ℕ × Instance → List Source
sources_of program parameters runs placed =
    map (source_of program parameters runs placed.0) (read_cells program parameters placed.1)
