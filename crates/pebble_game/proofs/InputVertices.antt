-- An input cell that is the source of a read is an input vertex that is read, and cells that differ are different vertices.
use Rattle.std.proofs.Common.{◌≡◌, refl, sym, ◌∙◌, ap, subst, inl, inr, ℕ, zero, suc, ◌+◌, ◌<◌, ◌≤◌, false, List, [], ◌∷◌, ◌++◌, length, map, get_or, arith}
use Rattle.std.specs.Prelude.{ℤ, nat_eq, Some, slice_get, filter_map, flat_map}
use Rattle.std.specs.List.{AllByRecursion, IsDistinct, enumerate_from, position_or_len}
use Rattle.std.proofs.lemmas.Bool.{eqb-true, ne_eqb}
use Rattle.std.proofs.lemmas.List.{length-map}
use Rattle.iolb_model.specs.Program.{Access, AffineProgram, statement_at, no_statement, read_at}
use Rattle.iolb_model.specs.Execution.{Instance, execution}
use Rattle.iolb_model.specs.Source.{Cell, same_cell, cell_of, Source, input, source_of, sources_of, read_cell}
use Rattle.iolb_model.specs.Graph.{placed, input_cell, input_cells, vertex_of, input_vertex, predecessors_of, computation_graph}
use Rattle.iolb_model.specs.Game.{predecessors_at, loads_of}
use Rattle.pebble_game.specs.Inputs.{IsReadInput}
use Rattle.pebble_game.proofs.Loaded.{each_input_loaded, read_inputs_loaded}
use Rattle.pebble_game.specs.Cold.{read_vertices, ReadsInput, EachInputReadIsLoaded, InputReadsAreVertices, InputReadsAreLoaded}
use Rattle.execution_laws.proofs.Members.{Member, Member-map, Member-flat_map, Member-filter_map, Member-distinct, Member-enumerate, Contains-member}
use Rattle.execution_laws.proofs.Cells.{same_cell-equal, position-Member, position-apart}

-- an element that is there is a member
pub Member-get_or : {A : Type 0} (xs : List A) (n : ℕ) (d : A) → n < length xs → Member (get_or xs n d) xs
Member-get_or [] n d h = absurd (omega (arith, h))
Member-get_or (x ∷ xs) zero d h = inl refl
Member-get_or (x ∷ xs) (suc n) d h = inr (Member-get_or xs n d (omega (arith, h)))

place_and : {A : Type 0} (a b : ℕ) (x y : A) → a ≡ b → y ≡ x → ◌≡◌ {A = ℕ × A} (b, y) (a, x)
place_and a b x y e w = cc

-- what a list of images has at a place
get_or-map_some : {A B : Type 0} (f : ℕ × A → B) (first : ℕ) (xs : List A) (n : ℕ) (x : A) (d : B) → slice_get xs n ≡ Some x
    → get_or (map f (enumerate_from first xs)) n d ≡ f (first + n, x)
get_or-map_some f first [] n x d e = absurd cc
get_or-map_some f first (y ∷ xs) zero x d e = ap f (place_and (first + 0) first x y (omega arith) cc)
get_or-map_some f first (y ∷ xs) (suc n) x d e = get_or-map_some f (first + 1) xs n x d e ∙ ap f (place_and (first + suc n) (first + 1 + n) x x (omega arith) refl)

-- a place where something stands is below the length
pub slice_get-below : {A : Type 0} (xs : List A) (n : ℕ) (x : A) → slice_get xs n ≡ Some x → n < length xs
slice_get-below [] n x e = absurd cc
slice_get-below (y ∷ xs) zero x e = omega arith
slice_get-below (y ∷ xs) (suc n) x e = omega (arith, slice_get-below xs n x e)

-- the source is among the sources of its instance's reads
Member-sources : (program : AffineProgram) (parameters : List ℤ) (statement read : ℕ) (values : List ℤ) (point : ReadsInput program parameters statement read values)
    → Member (input (read_cell program parameters statement read values))
    (sources_of program parameters (execution program parameters) (point.place, record { statement = statement; values = values }))
Member-sources program parameters statement read values point =
    let runs : List Instance = execution program parameters in
    let cell : Cell = read_cell program parameters statement read values in
    let reads : List Access = (statement_at program statement).reads in
    let access : Member (read_at program statement read) reads = Member-get_or reads read no_statement.writes (omega (arith, point.there)) in
    let cells : Member cell (map (λ (a : Access). cell_of a (parameters ++ values)) reads) = Member-map (λ (a : Access). cell_of a (parameters ++ values)) (read_at program statement read) reads access in
    subst (λ (z : Source). Member z (map (source_of program parameters runs point.place) (map (λ (a : Access). cell_of a (parameters ++ values)) reads)))
    point.source (Member-map (source_of program parameters runs point.place) cell (map (λ (a : Access). cell_of a (parameters ++ values)) reads) cells)

-- the instance stands with its place
Member-placed : (program : AffineProgram) (parameters : List ℤ) (statement read : ℕ) (values : List ℤ) (point : ReadsInput program parameters statement read values)
    → Member {A = ℕ × Instance} (point.place, record { statement = statement; values = values }) (placed (execution program parameters))
Member-placed program parameters statement read values point =
    let zero_place : 0 + point.place ≡ point.place = omega arith in
    subst (λ (n : ℕ). Member {A = ℕ × Instance} (n, record { statement = statement; values = values }) (placed (execution program parameters))) zero_place
    (Member-enumerate 0 (execution program parameters) point.place (record { statement = statement; values = values }) point.executed)

-- the cell is among the input cells
pub Member-input_cells : (program : AffineProgram) (parameters : List ℤ) (statement read : ℕ) (values : List ℤ) → ReadsInput program parameters statement read values
    → Member (read_cell program parameters statement read values) (input_cells program parameters)
Member-input_cells program parameters statement read values point =
    let runs : List Instance = execution program parameters in
    let cell : Cell = read_cell program parameters statement read values in
    let sources : Member (input cell) (flat_map (sources_of program parameters runs) (placed runs)) =
    Member-flat_map (sources_of program parameters runs) (point.place, record { statement = statement; values = values }) (placed runs) (input cell)
    (Member-placed program parameters statement read values point) (Member-sources program parameters statement read values point) in
    Member-distinct same_cell same_cell-equal cell (filter_map input_cell (flat_map (sources_of program parameters runs) (placed runs)))
    (Member-filter_map input_cell (input cell) (flat_map (sources_of program parameters runs) (placed runs)) cell sources refl)

-- its vertex is an input that is read
is_read_input : (program : AffineProgram) (parameters : List ℤ) (statement read : ℕ) (values : List ℤ) → ReadsInput program parameters statement read values
    → IsReadInput (computation_graph program parameters) (input_vertex program parameters (read_cell program parameters statement read values))
is_read_input program parameters statement read values point =
    let runs : List Instance = execution program parameters in
    let cells : List Cell = input_cells program parameters in
    let cell : Cell = read_cell program parameters statement read values in
    let instance : ℕ × Instance = (point.place, record { statement = statement; values = values }) in
    let row : predecessors_at (computation_graph program parameters) point.place ≡ predecessors_of program parameters runs cells instance =
    get_or-map_some (predecessors_of program parameters runs cells) 0 runs point.place instance.1 [] point.executed
    ∙ ap (predecessors_of program parameters runs cells) (place_and point.place (0 + point.place) instance.1 instance.1 (omega arith) refl) in
    let vertex : Member (input_vertex program parameters cell) (predecessors_of program parameters runs cells instance) =
    Member-distinct nat_eq eqb-true (input_vertex program parameters cell) (map (vertex_of (length runs) cells) (sources_of program parameters runs instance))
    (Member-map (vertex_of (length runs) cells) (input cell) (sources_of program parameters runs instance) (Member-sources program parameters statement read values point)) in
    record {
      input = omega arith;
      reader = point.place;
      there = slice_get-below runs point.place instance.1 point.executed;
      read = Contains-member (input_vertex program parameters cell) (predecessors_at (computation_graph program parameters) point.place)
          (subst (λ (l : List ℕ). Member (input_vertex program parameters cell) l) (sym row) vertex);
    }

-- each point's vertex is an input that is read
are_read_inputs : (program : AffineProgram) (parameters : List ℤ) (statement read : ℕ) (points : List (List ℤ)) → AllByRecursion (ReadsInput program parameters statement read) points
    → AllByRecursion (IsReadInput (computation_graph program parameters)) (map (λ (values : List ℤ). input_vertex program parameters (read_cell program parameters statement read values)) points)
are_read_inputs program parameters statement read [] h = tt
are_read_inputs program parameters statement read (values ∷ points) h =
    (is_read_input program parameters statement read values h.0, are_read_inputs program parameters statement read points h.1)

-- a cell that differs from others has another vertex
vertices_apart : (program : AffineProgram) (parameters : List ℤ) (statement read : ℕ) (first : List ℤ) (points : List (List ℤ)) → ReadsInput program parameters statement read first
    → AllByRecursion (ReadsInput program parameters statement read) points
    → AllByRecursion (λ (c : Cell). same_cell (read_cell program parameters statement read first) c ≡ false) (map (read_cell program parameters statement read) points)
    → AllByRecursion (λ (v : ℕ). nat_eq (input_vertex program parameters (read_cell program parameters statement read first)) v ≡ false)
    (map (λ (values : List ℤ). input_vertex program parameters (read_cell program parameters statement read values)) points)
vertices_apart program parameters statement read first [] here h apart = tt
vertices_apart program parameters statement read first (values ∷ points) here h apart = (
  ne_eqb _ _ (λ e. position-apart (read_cell program parameters statement read first) (read_cell program parameters statement read values) (input_cells program parameters)
      (Member-input_cells program parameters statement read first here) (Member-input_cells program parameters statement read values h.0) apart.0 (omega (arith, e))),
  vertices_apart program parameters statement read first points here h.1 apart.1,
)

vertices_distinct : (program : AffineProgram) (parameters : List ℤ) (statement read : ℕ) (points : List (List ℤ))
    → AllByRecursion (ReadsInput program parameters statement read) points
    → IsDistinct same_cell (map (read_cell program parameters statement read) points)
    → IsDistinct nat_eq (map (λ (values : List ℤ). input_vertex program parameters (read_cell program parameters statement read values)) points)
unfolding IsDistinct
vertices_distinct program parameters statement read [] h d = tt
vertices_distinct program parameters statement read (values ∷ points) h d =
    (vertices_apart program parameters statement read values points h.0 h.1 d.0, vertices_distinct program parameters statement read points h.1 d.1)

pub input_reads_vertices : InputReadsAreVertices
input_reads_vertices program parameters statement read [] h = tt
input_reads_vertices program parameters statement read (values ∷ points) h =
    let cell : Cell = read_cell program parameters statement read values in
    let cells : List Cell = input_cells program parameters in
    let place : position_or_len (same_cell cell) cells < length cells =
    slice_get-below cells (position_or_len (same_cell cell) cells) cell (position-Member cell cells (Member-input_cells program parameters statement read values h.0)) in
    (omega (arith, place), input_reads_vertices program parameters statement read points h.1)

pub each_read_loaded : EachInputReadIsLoaded
each_read_loaded program parameters statement read points s moves game reads =
    each_input_loaded (computation_graph program parameters) s moves (read_vertices program parameters statement read points) game
    (are_read_inputs program parameters statement read points reads)

-- points whose cells differ cost a load each
pub input_reads_loaded : InputReadsAreLoaded
input_reads_loaded program parameters statement read points s moves game reads apart =
    subst (λ (n : ℕ). n ≤ loads_of (read_vertices program parameters statement read points) moves)
    (length-map points (λ (values : List ℤ). input_vertex program parameters (read_cell program parameters statement read values)))
    (read_inputs_loaded (computation_graph program parameters) s moves (read_vertices program parameters statement read points) game
    (vertices_distinct program parameters statement read points reads apart) (are_read_inputs program parameters statement read points reads))
