-- The code's instances, cells and sources, as those of the definitions.
use Rattle.std.specs.Prelude.{List, [], map}
use Rattle.iolb_model.specs.Program.{AffineProgram}
use Rattle.iolb_model.specs.Execution.{Instance as ModelInstance}
use Rattle.iolb_model.specs.Source.{Cell as ModelCell, Source as ModelSource, written_at, input}
use Rattle.affine_program.specs.declared.statement.Statement.{Statement}
use Rattle.affine_program.specs.declared.item.Item.{Item}
use Rattle.affine_program.specs.Tree.{row_of}
use Rattle.affine_program.specs.Parts.{statement_of}
use Rattle.plain_graph.specs.declared.runs.Instance.{Instance}
use Rattle.plain_graph.specs.declared.cells.Cell.{Cell}
use Rattle.plain_graph.specs.declared.sources.Source.{Source}
use Rattle.plain_graph.specs.declared.sources.Source.TheVariants.{Written, Input}

abbrev pub instance_of : Instance → ModelInstance
instance_of instance = record { statement = instance.statement; values = instance.values.items }

abbrev pub cell_view : Cell → ModelCell
cell_view cell = record { array = cell.array; subscripts = cell.subscripts.items }

abbrev pub source_view : Source → ModelSource
source_view (Written place) = written_at place
source_view (Input cell) = input (cell_view cell)

-- the program of these statements and this tree, of whose names and assumptions nothing is said
abbrev pub program_with : List Statement → List Item → AffineProgram
program_with statements tree = record { parameters = []; assumptions = []; arrays = []; statements = map statement_of statements; tree = row_of tree }

-- what stands past the last instance
abbrev pub no_instance : ModelInstance
no_instance = record { statement = 0; values = [] }
