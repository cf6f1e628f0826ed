-- Sound families: walks back whose words have the labels of their starts. (This project's form of the reuse paths of Olivry et
-- al. 2020: the label of a counted instance and that of an instance as a word are two, since one instance may be both.)
use Rattle.std.specs.Prelude.{◌≡◌, ◌⊎◌, ℕ, ℤ, if◌then◌else◌, List, ◌++◌, map, Option, Some, option_map, slice_get}
use Rattle.iolb_model.specs.Form.{AffineForm, form_value}
use Rattle.iolb_model.specs.Program.{AffineProgram, IsWellFormed}
use Rattle.iolb_model.specs.Printed.{is_below_zero}
use Rattle.iolb_model.specs.Bound.{IsAdmitted}
use Rattle.iolb_model.specs.Domain.{IsWithin, IsAt}
use Rattle.iolb_model.specs.Execution.{Instance}
use Rattle.iolb_model.specs.Source.{Cell, Source, written_at, input}
use Rattle.affine_form.specs.Matrix.{IntegerMatrix}
use Rattle.affine_form.specs.Substitution.{values_at}
use Rattle.affine_form.specs.System.{IsMet}
use Rattle.claims.specs.Claims.{AllHold, numbered}
use Rattle.claims.specs.declared.place.Step.{Step}
use Rattle.dep_quast.specs.Context.{ReadOf}
use Rattle.dep_quast.specs.Tree.{SelectionTree}
use Rattle.dep_quast.specs.Truth.{ReadFits, source_at}
use Rattle.reuse_paths.specs.Families.{CreditedNest, FamilyForms, node_label, node_region, label_at}
use Rattle.reuse_paths.specs.FamilyClaims.{family_claims, node_walk, start_tree}
use Rattle.reuse_paths.specs.FamilyFits.{FamilyFits, WalksFit}
use Rattle.dep_quast.specs.Trees.{read_of, RowsFit, RowsAreTrue}
use Rattle.reuse_paths.specs.WalkSettings.{region_at}
use Rattle.reuse_paths.specs.Walks.{WalkTree, take, test, WalkRegion}

-- the read that a walk takes at a point: a test goes to `yes` where its form is at least 0
abbrev pub read_taken : WalkTree → List ℤ → ℕ
read_taken (take read entries) point = read
read_taken (test form above below) point = if is_below_zero (form_value form point) then read_taken below point else read_taken above point

-- the read that it takes from an instance, and the source of it
abbrev pub read_from : WalkTree → List ℤ → Instance → ReadOf
read_from walk parameters instance = read_of instance.statement (read_taken walk (parameters ++ instance.values))

abbrev pub source_from : AffineProgram → List ℤ → WalkTree → ℕ → Instance → Source
source_from program parameters walk place instance = source_at program parameters (read_from walk parameters instance) place instance.values

-- the label of an instance and of an input cell, where they have one
abbrev pub label_of_instance : FamilyForms → List ℤ → Instance → Option (List ℤ)
label_of_instance family parameters instance =
    option_map (λ (label : List AffineForm). values_at label (parameters ++ instance.values)) (label_at (map node_label family.nodes) instance.statement)

abbrev pub label_of_cell : FamilyForms → List ℤ → Cell → Option (List ℤ)
label_of_cell family parameters cell = option_map (λ (label : List AffineForm). values_at label (parameters ++ cell.subscripts)) (label_at family.inputs cell.array)

-- the region of a statement
abbrev pub family_region : FamilyForms → ℕ → Option WalkRegion
family_region family statement = region_at (map node_region family.nodes) statement

-- an instance is in the region of its statement, from which walks go on; and in the nest of a credit, where they may stop
pub record IsInside (family : FamilyForms) (parameters : List ℤ) (instance : Instance) : Type 0 where
  pub region : WalkRegion
  pub is : family_region family instance.statement ≡ Some region
  pub met : IsMet region.rows (parameters ++ instance.values)

pub record IsCreditedBy (credits : List CreditedNest) (parameters : List ℤ) (instance : Instance) : Type 0 where
  pub number : ℕ
  pub credit : CreditedNest
  pub is : slice_get credits number ≡ Some credit
  pub statement : instance.statement ≡ credit.statement
  pub within : IsWithin credit.nest parameters instance.values

-- A source is a word of a family with this label: an input cell, or an instance that is credited or in its statement's region.
abbrev pub IsWord : AffineProgram → List CreditedNest → FamilyForms → List ℤ → List ℤ → Source → Type 0
IsWord program credits family parameters label (input cell) = label_of_cell family parameters cell ≡ Some label
IsWord program credits family parameters label (written_at place) = (instance : Instance) × (IsAt program parameters place instance
    × (label_of_instance family parameters instance ≡ Some label) × (IsCreditedBy credits parameters instance ⊎ IsInside family parameters instance))

-- What a walk takes from an instance at this place is a word with this label.
pub record TakesWord (program : AffineProgram) (credits : List CreditedNest) (family : FamilyForms) (parameters label : List ℤ) (walk : WalkTree) (place : ℕ) (instance : Instance) : Type 0 where
  pub read : ReadFits program (read_from walk parameters instance)
  pub word : IsWord program credits family parameters label (source_from program parameters walk place instance)

-- A family is sound over a nest of instances of a statement: at all admitted parameter values, of any size, the start walk
-- takes from each instance in the nest a word with its start label; and the walk of a region takes from each instance in it a
-- word with the instance's own label. So all words of a walk have the label of its start.
pub record IsSoundFamily (program : AffineProgram) (statement : ℕ) (nest : List (AffineForm × AffineForm)) (credits : List CreditedNest) (family : FamilyForms) : Type 0 where
  pub begins : (parameters values : List ℤ) (place : ℕ) → IsAdmitted program parameters → IsWithin nest parameters values
      → IsAt program parameters place (record { statement = statement; values = values })
      → TakesWord program credits family parameters (values_at family.start_label (parameters ++ values)) family.start place (record { statement = statement; values = values })
  pub goes_on : (parameters : List ℤ) (place : ℕ) (instance : Instance) → IsAdmitted program parameters → IsAt program parameters place instance
      → (inside : IsInside family parameters instance)
      → (label : List ℤ) → label_of_instance family parameters instance ≡ Some label → TakesWord program credits family parameters label inside.region.tree place instance

-- A family whose claims hold, over true source trees, is sound.
abbrev pub FamiliesAreSound : Type 0
FamiliesAreSound = (program : AffineProgram) (trees : List (List SelectionTree)) (statement : ℕ) (nest : List (AffineForm × AffineForm)) (matrix : IntegerMatrix)
    (credits : List CreditedNest) (family : FamilyForms) (place : List Step) → IsWellFormed program → RowsFit program 0 trees → RowsAreTrue program 0 trees
    → FamilyFits program trees statement nest matrix credits family → AllHold (family_claims program trees statement nest matrix credits family place)
    → IsSoundFamily program statement nest credits family

-- So is one whose walks' claims hold, wherever their trees stand, and whatever its start label fixes.
abbrev pub WalksAreSound : Type 0
WalksAreSound = (program : AffineProgram) (trees : List (List SelectionTree)) (statement : ℕ) (nest : List (AffineForm × AffineForm)) (credits : List CreditedNest) (family : FamilyForms)
    (size : ℕ) (start_place nodes_place : List Step) → IsWellFormed program → RowsFit program 0 trees → RowsAreTrue program 0 trees
    → WalksFit program trees statement credits family size → AllHold (start_tree program trees statement nest credits family start_place)
    → AllHold (numbered (node_walk program trees credits family nodes_place) 0 family.nodes) → IsSoundFamily program statement nest credits family
