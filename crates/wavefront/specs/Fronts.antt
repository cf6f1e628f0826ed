-- Sound wavefront terms, and what they cost. (Elango et al. 2014, by loads alone.)
use Rattle.std.specs.Prelude.{◌≡◌, ℕ, ◌+◌, ◌*◌, ◌≤◌, ℤ, nat_eq, List, ◌++◌, map, length, Option, Some, None}
use Rattle.std.specs.List.{AllByRecursion, IsDistinct}
use Rattle.iolb_model.specs.declared.game.Move.{Move}
use Rattle.iolb_model.specs.Program.{AffineProgram}
use Rattle.iolb_model.specs.Bound.{IsAdmitted}
use Rattle.iolb_model.specs.Execution.{execution}
use Rattle.iolb_model.specs.Footprint.{AreVertices, Footprint}
use Rattle.iolb_model.specs.Game.{IsCompletePebbling, loads_of}
use Rattle.iolb_model.specs.Graph.{computation_graph, input_cells, vertex_of}
use Rattle.iolb_model.specs.Source.{Source, written_at, input, read_cell}
use Rattle.pebble_game.specs.Loaded.{loaded_among}
use Rattle.affine_form.specs.Substitution.{values_at}
use Rattle.dep_quast.specs.Truth.{ReadFits, source_at}
use Rattle.domain_count.specs.Points.{points, count}
use Rattle.reuse_paths.specs.Arrival.{instance_of}
use Rattle.reuse_paths.specs.Places.{place_of, IsExecuted}
use Rattle.reuse_paths.specs.Reached.{IsReached}
use Rattle.reuse_paths.specs.Walks.{SpotForms}
use Rattle.wavefront.specs.FrontTerm.{WavefrontTerm, outer_nest, user_read}

-- the loop values of a spot's instance at a point of the nest
abbrev pub spot_values : SpotForms → List ℤ → List ℤ → List ℤ
spot_values spot parameters point = values_at spot.point (parameters ++ point)

-- the word at a point: the source of the user's read; and its vertex
abbrev pub word_at : AffineProgram → WavefrontTerm → List ℤ → List ℤ → Source
word_at program term parameters point =
    source_at program parameters (user_read term) (place_of program parameters (instance_of term.user parameters point)) (spot_values term.user parameters point)

abbrev pub word_vertex : AffineProgram → WavefrontTerm → List ℤ → List ℤ → ℕ
word_vertex program term parameters point =
    vertex_of (length (execution program parameters)) (input_cells program parameters) (word_at program term parameters point)

-- The word is there when the vertex of this place is computed: it is an input, or an instance which is that vertex or is
-- reached from it, going from vertex to predecessor.
abbrev pub IsThereAt : AffineProgram → WavefrontTerm → List ℤ → List ℤ → ℕ → Option SpotForms → Type 0
IsThereAt program term parameters point vertex None =
    word_at program term parameters point ≡ input (read_cell program parameters term.user.statement term.read (spot_values term.user parameters point))
IsThereAt program term parameters point vertex (Some spot) =
    let source = instance_of spot parameters point in let place = place_of program parameters source in
    IsExecuted program parameters source × (word_at program term parameters point ≡ written_at place)
    × IsReached (computation_graph program parameters) vertex place

-- A term is sound at a point: the vertex and the user are executed, the user has the read, the word is there when the vertex
-- is computed, and the user is the vertex, or the vertex is reached from it.
pub record IsSoundAt (program : AffineProgram) (term : WavefrontTerm) (parameters point : List ℤ) : Type 0 where
  pub vertex : IsExecuted program parameters (instance_of term.vertex parameters point)
  pub user : IsExecuted program parameters (instance_of term.user parameters point)
  pub read : ReadFits program (user_read term)
  pub word : IsThereAt program term parameters point (place_of program parameters (instance_of term.vertex parameters point)) term.source
  pub behind : IsReached (computation_graph program parameters)
      (place_of program parameters (instance_of term.user parameters point)) (place_of program parameters (instance_of term.vertex parameters point))

-- its footprint: the vertices of the words of the nest's points
abbrev pub front_footprint : AffineProgram → WavefrontTerm → Footprint
front_footprint program term parameters = map (word_vertex program term parameters) (points term.nest parameters)

-- It is sound at parameter values: its vertex depends on the outer variables alone, it is sound at each point of the nest, and
-- different points have different words.
pub record IsSoundUnder (program : AffineProgram) (term : WavefrontTerm) (parameters : List ℤ) : Type 0 where
  pub outer : (front one other : List ℤ) → length front ≡ length (outer_nest term)
      → instance_of term.vertex parameters (front ++ one) ≡ instance_of term.vertex parameters (front ++ other)
  pub each : AllByRecursion (IsSoundAt program term parameters) (points term.nest parameters)
  pub apart : IsDistinct nat_eq (front_footprint program term parameters)

-- It is sound: at all admitted parameter values, of any size.
abbrev pub IsSoundFront : AffineProgram → WavefrontTerm → Type 0
IsSoundFront program term = (parameters : List ℤ) → IsAdmitted program parameters → IsSoundUnder program term parameters

-- The footprint of a term that is sound at parameter values has vertices of the computation graph, and every complete
-- pebbling with s red pebbles makes at least as many loads of them as the nest has points, less s for each point of its
-- outer variables.
abbrev pub FrontsAreLoaded : Type 0
FrontsAreLoaded = (program : AffineProgram) (term : WavefrontTerm) (parameters : List ℤ) (s : ℕ) (moves : List Move)
    → IsSoundUnder program term parameters → IsCompletePebbling (computation_graph program parameters) s moves
    → count term.nest parameters ≤ loads_of (front_footprint program term parameters) moves + s * count (outer_nest term) parameters

-- So many different ones of them are loaded, however often each is.
abbrev pub FrontWordsAreLoaded : Type 0
FrontWordsAreLoaded = (program : AffineProgram) (term : WavefrontTerm) (parameters : List ℤ) (s : ℕ) (moves : List Move)
    → IsSoundUnder program term parameters → IsCompletePebbling (computation_graph program parameters) s moves
    → count term.nest parameters ≤ length (loaded_among (front_footprint program term parameters) moves) + s * count (outer_nest term) parameters

abbrev pub FrontsHaveVertices : Type 0
FrontsHaveVertices = (program : AffineProgram) (term : WavefrontTerm) (parameters : List ℤ) → IsSoundUnder program term parameters
    → AreVertices (computation_graph program parameters) (front_footprint program term parameters)
