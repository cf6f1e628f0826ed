-- The footprint of a family: the words that its walks take.
use Rattle.std.specs.Prelude.{ℕ, Bool, not, if◌then◌else◌, ℤ, List, [], ◌∷◌, ◌++◌, map, flat_map, length}
use Rattle.std.specs.Option.{option_map_or}
use Rattle.std.specs.List.{list_all}
use Rattle.iolb_model.specs.Form.{AffineForm, form_value}
use Rattle.iolb_model.specs.Program.{AffineProgram}
use Rattle.iolb_model.specs.Printed.{is_below_zero}
use Rattle.iolb_model.specs.Execution.{Instance, execution}
use Rattle.iolb_model.specs.Footprint.{Footprint}
use Rattle.iolb_model.specs.Graph.{placed, input_cells, vertex_of}
use Rattle.domain_count.specs.Points.{points}
use Rattle.reuse_paths.specs.Families.{FamilyForms}
use Rattle.reuse_paths.specs.Places.{place_of}
use Rattle.reuse_paths.specs.SoundFamilies.{source_from, family_region}
use Rattle.reuse_paths.specs.Walks.{WalkTree, WalkRegion}

-- whether each row is at least 0 at a point
abbrev pub meets : List AffineForm → List ℤ → Bool
meets rows point = list_all (λ row. not (is_below_zero (form_value row point))) rows

-- the instances of a nest of a statement
abbrev pub instances_in : ℕ → List (AffineForm × AffineForm) → List ℤ → List Instance
instances_in statement nest parameters = map (λ values. record { statement = statement; values = values }) (points nest parameters)

-- the vertex of the word that a walk takes from the instance at a place
abbrev pub word_of : AffineProgram → List ℤ → WalkTree → ℕ → Instance → ℕ
word_of program parameters walk place instance =
    vertex_of (length (execution program parameters)) (input_cells program parameters) (source_from program parameters walk place instance)

-- the words that the start walk takes, from the instances of the nest
abbrev pub start_words : AffineProgram → ℕ → List (AffineForm × AffineForm) → FamilyForms → Footprint
start_words program statement nest family parameters =
    map (λ instance. word_of program parameters family.start (place_of program parameters instance) instance) (instances_in statement nest parameters)

-- the word that is taken from the instance at a place, if it is in its statement's region
abbrev pub region_word : AffineProgram → List ℤ → ℕ × Instance → WalkRegion → List ℕ
region_word program parameters run region =
    if meets region.rows (parameters ++ run.1.values) then word_of program parameters region.tree run.0 run.1 ∷ [] else []

abbrev pub region_words_at : AffineProgram → List ℤ → FamilyForms → ℕ × Instance → List ℕ
region_words_at program parameters family run = option_map_or (region_word program parameters run) (family_region family run.1.statement) []

-- The footprint: the words that the start walk takes, and those that are taken from the instances in the regions.
abbrev pub family_footprint : AffineProgram → ℕ → List (AffineForm × AffineForm) → FamilyForms → Footprint
family_footprint program statement nest family parameters =
    start_words program statement nest family parameters ++ flat_map (region_words_at program parameters family) (placed (execution program parameters))
