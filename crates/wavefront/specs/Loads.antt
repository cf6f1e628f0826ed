-- What valid cold terms cost.
use Rattle.std.specs.Prelude.{◌≡◌, ℕ, ◌*◌, ◌≤◌, ℤ, List, [], ◌++◌, map, length}
use Rattle.std.specs.List.{AllByRecursion, IsDistinct}
use Rattle.iolb_model.specs.declared.game.Move.{Move}
use Rattle.iolb_model.specs.Program.{AffineProgram, IsWellFormed}
use Rattle.iolb_model.specs.Bound.{IsAdmitted}
use Rattle.iolb_model.specs.Footprint.{AreVertices, Footprint}
use Rattle.iolb_model.specs.Source.{same_cell, read_cell}
use Rattle.iolb_model.specs.Graph.{computation_graph}
use Rattle.iolb_model.specs.Game.{IsCompletePebbling, loads_of}
use Rattle.pebble_game.specs.Cold.{read_vertices, ReadsInput}
use Rattle.pebble_game.specs.Loaded.{AreLoaded}
use Rattle.claims.specs.declared.place.Step.{Step}
use Rattle.affine_form.specs.Substitution.{values_at}
use Rattle.affine_form.specs.Rows.{BoundsFit, IsSmallOver}
use Rattle.affine_program.specs.Domain.{depth_of, domain_size}
use Rattle.claims.specs.Claims.{AllHold}
use Rattle.dep_quast.specs.Context.{reference_of, variables_at}
use Rattle.dep_quast.specs.Tree.{SelectionTree}
use Rattle.dep_quast.specs.Truth.{ReadFits, IsTrueTree}
use Rattle.domain_count.specs.Points.{points, count}
use Rattle.wavefront.specs.Term.{ColdTerm, nest_variables, instance_point}
use Rattle.dep_quast.specs.OpenLeaves.{open_leaves, TestsFit}
use Rattle.wavefront.specs.ColdClaims.{instance_claims}
use Rattle.iolb_model.specs.declared.limits.TheConstants.{NEST_VARIABLES}

-- A cold term fits a program: what its numbers name is there, its forms are over the parameters and the nest's variables,
-- and each list has the length called for.
pub record TermFits (program : AffineProgram) (term : ColdTerm) : Type 0 where
  pub read : ReadFits program term.reader
  pub few : length term.nest ≤ NEST_VARIABLES
  pub bounds : BoundsFit (length program.parameters) term.nest
  pub point : length term.point ≡ depth_of program term.reader.statement
  pub forms : AllByRecursion (IsSmallOver (nest_variables program term)) term.point
  pub inside : length term.inside ≡ domain_size program term.reader.statement
  pub rows : term.matrix.rows ≡ length term.nest
  pub columns : (1 ≤ term.matrix.rows) → term.matrix.columns ≡ length (reference_of program term.reader).subscripts
  pub scale : 1 ≤ term.scale

-- It fits a program and the source tree of its read, where also the tree's tests are over the parameters and the reader's
-- loop values, and there is an entry for each of its leaves that isn't empty.
pub record ColdFits (program : AffineProgram) (tree : SelectionTree) (term : ColdTerm) : Type 0 where
  pub parts : TermFits program term
  pub tests : TestsFit (variables_at program term.reader) tree
  pub leaves : length term.leaves ≡ length (open_leaves (nest_variables program term) (instance_point program term) [] tree)

-- the loop values of the reading instance at a point of the nest
abbrev pub instance_values : ColdTerm → List ℤ → List ℤ → List ℤ
instance_values term values point = values_at term.point (values ++ point)

-- those of all points of the nest
abbrev pub all_instances : ColdTerm → List ℤ → List (List ℤ)
all_instances term values = map (instance_values term values) (points term.nest values)

-- A cold term is sound: at all admitted parameter values, of any size, each point of the nest has an instance whose read
-- has an input cell as its source, and different points have different cells.
abbrev pub IsSoundCold : AffineProgram → ColdTerm → Type 0
IsSoundCold program term = (values : List ℤ) → IsAdmitted program values
    → AllByRecursion (ReadsInput program values term.reader.statement term.reader.read) (all_instances term values)
    × IsDistinct same_cell (map (read_cell program values term.reader.statement term.reader.read) (all_instances term values))

-- its footprint: the vertices of the input cells that its points read
abbrev pub footprint_of : AffineProgram → ColdTerm → Footprint
footprint_of program term values = read_vertices program values term.reader.statement term.reader.read (all_instances term values)

-- they are vertices of the program's computation graph
abbrev pub HasFootprint : AffineProgram → ColdTerm → Type 0
HasFootprint program term = (values : List ℤ) → IsAdmitted program values → AreVertices (computation_graph program values) (footprint_of program term values)

-- So it costs as many loads of its footprint as the nest has points: in every complete pebbling, with any number of red
-- pebbles.
abbrev pub CostsItsCount : AffineProgram → ColdTerm → Type 0
CostsItsCount program term = (values : List ℤ) (s : ℕ) (moves : List Move) → IsAdmitted program values
    → IsCompletePebbling (computation_graph program values) s moves → count term.nest values ≤ loads_of (footprint_of program term values) moves

-- A sound cold term has this footprint and costs this, and each vertex of its footprint is loaded.
abbrev pub SoundColdsAreLoaded : Type 0
SoundColdsAreLoaded = (program : AffineProgram) (term : ColdTerm) → IsSoundCold program term → HasFootprint program term × CostsItsCount program term

abbrev pub ColdWordsAreLoaded : Type 0
ColdWordsAreLoaded = (program : AffineProgram) (term : ColdTerm) (values : List ℤ) (s : ℕ) (moves : List Move) → IsSoundCold program term
    → IsAdmitted program values → IsCompletePebbling (computation_graph program values) s moves → AreLoaded (footprint_of program term values) moves

-- A cold term whose claims hold, over a true source tree, is sound, and costs its count in loads of its footprint.
abbrev pub ColdTermsAreLoaded : Type 0
ColdTermsAreLoaded = (program : AffineProgram) (place : List Step) (tree : SelectionTree) (term : ColdTerm) → IsWellFormed program
    → ColdFits program tree term → IsTrueTree program term.reader tree → AllHold (instance_claims program place tree term)
    → IsSoundCold program term × HasFootprint program term × CostsItsCount program term
