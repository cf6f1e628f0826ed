-- The source of a read is a predecessor of its reader, and an instance only where it comes before.
use Rattle.std.proofs.Common.{◌≡◌, sym, subst, ℕ, ◌<◌, List, ◌++◌, length, map}
use Rattle.std.specs.Prelude.{ℤ, nat_eq, Contains}
use Rattle.std.proofs.lemmas.Bool.{eqb-true}
use Rattle.iolb_model.specs.Program.{Access, AffineProgram, statement_at, no_statement, read_at}
use Rattle.iolb_model.specs.Execution.{Instance, execution}
use Rattle.iolb_model.specs.Source.{Cell, cell_of, Source, written_at, source_of, sources_of, read_cell, read_cells}
use Rattle.iolb_model.specs.Graph.{input_cells, vertex_of, predecessors_of, computation_graph}
use Rattle.iolb_model.specs.Game.{predecessors_at}
use Rattle.iolb_model.specs.Domain.{IsAt}
use Rattle.execution_laws.proofs.Members.{Member, Member-map, Member-distinct, Contains-member}
use Rattle.pebble_game.proofs.InputVertices.{slice_get-below, Member-get_or}
use Rattle.pebble_game.proofs.WellFormed.{predecessors-at, source-earlier}
use Rattle.dep_quast.specs.Context.{ReadOf}
use Rattle.dep_quast.specs.Truth.{ReadFits, source_at}

module _ (program : AffineProgram) (parameters : List ℤ) (reader : ReadOf) (place : ℕ) (values : List ℤ) (fits : ReadFits program reader)
    (here : IsAt program parameters place (record { statement = reader.statement; values = values })) where
  abbrev instance : Instance
  instance = record { statement = reader.statement; values = values }

  -- the place is one of the execution
  pub place-there : place < length (execution program parameters)
  place-there = slice_get-below (execution program parameters) place instance here

  -- the cell is one of those that the instance reads
  cell-read : Member (read_cell program parameters reader.statement reader.read values) (read_cells program parameters instance)
  cell-read =
      let reads : List Access = (statement_at program reader.statement).reads in
      Member-map (λ (a : Access). cell_of a (parameters ++ values)) (read_at program reader.statement reader.read) reads
      (Member-get_or reads reader.read no_statement.writes fits.read)

  -- the vertex of the source is a predecessor
  pub source-read : Contains (predecessors_at (computation_graph program parameters) place)
      (vertex_of (length (execution program parameters)) (input_cells program parameters) (source_at program parameters reader place values))
  source-read =
      let runs : List Instance = execution program parameters in
      let cells : List Cell = input_cells program parameters in
      let from : Source = source_at program parameters reader place values in
      let among : Member from (sources_of program parameters runs (place, instance)) =
      Member-map (source_of program parameters runs place) (read_cell program parameters reader.statement reader.read values) (read_cells program parameters instance) cell-read in
      let vertex : Member (vertex_of (length runs) cells from) (predecessors_of program parameters runs cells (place, instance)) =
      Member-distinct nat_eq eqb-true (vertex_of (length runs) cells from) (map (vertex_of (length runs) cells) (sources_of program parameters runs (place, instance)))
      (Member-map (vertex_of (length runs) cells) from (sources_of program parameters runs (place, instance)) among) in
      Contains-member (vertex_of (length runs) cells from) (predecessors_at (computation_graph program parameters) place)
      (subst (λ (l : List ℕ). Member (vertex_of (length runs) cells from) l) (sym (predecessors-at program parameters place instance place-there here)) vertex)

  -- a source that is an instance comes before
  pub source-before : (at : ℕ) → at < length (execution program parameters) → source_at program parameters reader place values ≡ written_at at → at < place
  source-before at there is =
      (subst (λ (s : Source). vertex_of (length (execution program parameters)) (input_cells program parameters) s < length (execution program parameters)
      → vertex_of (length (execution program parameters)) (input_cells program parameters) s < place) is
      (source-earlier program parameters place instance (read_cell program parameters reader.statement reader.read values) here cell-read).1) there
