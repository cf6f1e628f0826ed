-- What a partition term is in the computation graph at parameter values: points, words with labels, and credited vertices.
use Rattle.std.specs.Prelude.{◌≡◌, ℕ, ◌-◌, ◌<◌, ◌≤◌, true, if◌then◌else◌, nat_eq, nat_lt, ℤ, List, [], ◌++◌, map, flat_map, length, slice_index_or, cond, sum_by}
use Rattle.std.specs.List.{AllByRecursion}
use Rattle.std.specs.Option.{unwrap_or}
use Rattle.iolb_model.specs.Form.{dot}
use Rattle.iolb_model.specs.Program.{AffineProgram, IsWellFormed}
use Rattle.iolb_model.specs.Bound.{IsAdmitted}
use Rattle.iolb_model.specs.Execution.{Instance, execution}
use Rattle.iolb_model.specs.Footprint.{Footprint}
use Rattle.iolb_model.specs.Game.{stands_in}
use Rattle.iolb_model.specs.Graph.{computation_graph, distinct, input_cells}
use Rattle.iolb_model.specs.Source.{Cell}
use Rattle.execution_laws.specs.Inverse.{IsScaledInverse}
use Rattle.affine_form.specs.Matrix.{IntegerMatrix}
use Rattle.reuse_paths.specs.MatrixRows.{matrix_rows}
use Rattle.affine_form.specs.Substitution.{values_at}
use Rattle.reuse_paths.specs.Families.{CreditedNest, FamilyForms}
use Rattle.reuse_paths.specs.FamilyFootprint.{instances_in, family_footprint}
use Rattle.reuse_paths.specs.Places.{place_of, IsExecuted}
use Rattle.reuse_paths.specs.SoundFamilies.{label_of_instance, label_of_cell, IsSoundFamily}
use Rattle.k_partition.specs.Reuse.{ReuseFamily, ReusePartition, IsSoundPartition}
use Rattle.k_partition.specs.Laws.{AreInstances}
use Rattle.k_partition.specs.Term.{PartitionTerm, credited_nests}

-- the instance and the input cell of a vertex
abbrev pub instance_at : AffineProgram → List ℤ → ℕ → Instance
instance_at program parameters vertex = slice_index_or (execution program parameters) vertex (record { statement = 0; values = [] })

abbrev pub cell_at : AffineProgram → List ℤ → ℕ → Cell
cell_at program parameters vertex =
    slice_index_or (input_cells program parameters) (vertex - length (execution program parameters)) (record { array = 0; subscripts = [] })

-- the label of a vertex in a family; that of one without a label isn't asked for
abbrev pub vertex_label : AffineProgram → FamilyForms → List ℤ → ℕ → List ℤ
vertex_label program family parameters vertex =
    if nat_lt vertex (length (execution program parameters)) then unwrap_or (label_of_instance family parameters (instance_at program parameters vertex)) []
    else unwrap_or (label_of_cell family parameters (cell_at program parameters vertex)) []

-- the coordinate of an instance: a row of the matrix times its loop values
abbrev pub coordinate_of : AffineProgram → IntegerMatrix → List ℤ → ℕ → ℕ → ℤ
coordinate_of program matrix parameters vertex row = dot (slice_index_or (matrix_rows matrix) row []) (instance_at program parameters vertex).values

-- a family, its words being the vertices of its footprint
abbrev pub reuse_family : AffineProgram → PartitionTerm → List ℤ → FamilyForms → ReuseFamily
reuse_family program term parameters family = record {
  words = family_footprint program term.statement term.nest family parameters;
  label = vertex_label program family parameters;
  start = λ vertex. values_at family.start_label (parameters ++ (instance_at program parameters vertex).values);
  has = stands_in family.set;
  weight = family.weight;
}

-- the vertices of the instances of a nest, and those of all credited nests, each once
abbrev pub nest_vertices : AffineProgram → List ℤ → CreditedNest → List ℕ
nest_vertices program parameters nest = map (place_of program parameters) (instances_in nest.statement nest.nest parameters)

abbrev pub credited_vertices : AffineProgram → List CreditedNest → List ℤ → List ℕ
credited_vertices program credits parameters = distinct nat_eq (flat_map (nest_vertices program parameters) credits)

-- the vertices of the term's points
abbrev pub counted_points : AffineProgram → PartitionTerm → Footprint
counted_points program term parameters = nest_vertices program parameters (record { statement = term.statement; nest = term.nest })

-- the term at parameter values
abbrev pub reuse_partition : AffineProgram → PartitionTerm → List ℤ → ReusePartition
reuse_partition program term parameters = record {
  points = counted_points program term parameters;
  dimensions = length term.nest;
  coordinate = coordinate_of program term.matrix parameters;
  families = map (reuse_family program term parameters) term.families;
  credited = credited_vertices program (credited_nests term) parameters;
}

-- Equal start labels of a family fix the coordinates of its set.
abbrev pub FixesRows : ℕ → IntegerMatrix → FamilyForms → Type 0
FixesRows count matrix family = (parameters one other : List ℤ) → length parameters ≡ count
    → values_at family.start_label (parameters ++ one) ≡ values_at family.start_label (parameters ++ other)
    → (row : ℕ) → stands_in family.set row ≡ true → dot (slice_index_or (matrix_rows matrix) row []) one ≡ dot (slice_index_or (matrix_rows matrix) row []) other

-- A partition term is sound: its points are instances; its families are sound, and their start labels fix coordinates; the
-- matrix has the inverse that stands beside it; and each coordinate lies in sets of total weight at least q.
pub record IsSoundTerm (program : AffineProgram) (term : PartitionTerm) : Type 0 where
  pub instances : (parameters : List ℤ) → IsAdmitted program parameters
      → AllByRecursion (IsExecuted program parameters) (instances_in term.statement term.nest parameters)
  pub families : AllByRecursion (IsSoundFamily program term.statement term.nest (credited_nests term)) term.families
  pub fixed : AllByRecursion (FixesRows (length program.parameters) term.matrix) term.families
  pub rows : term.matrix.rows ≡ length term.nest
  pub undone : IsScaledInverse 1 (length term.nest) (matrix_rows term.inverse) (matrix_rows term.matrix)
  pub positive : 1 ≤ term.q
  pub covered : (i : ℕ) → i < length term.nest → term.q ≤ sum_by (λ (family : FamilyForms). cond (stands_in family.set i) family.weight 0) term.families

-- A sound partition term is a sound partition of the computation graph at all admitted parameter values, of any size.
abbrev pub SoundTermsAreSound : Type 0
SoundTermsAreSound = (program : AffineProgram) (term : PartitionTerm) (parameters : List ℤ) → IsWellFormed program → IsAdmitted program parameters → IsSoundTerm program term
    → IsSoundPartition (computation_graph program parameters) term.q (reuse_partition program term parameters)
    × AreInstances (computation_graph program parameters) (reuse_partition program term parameters)
