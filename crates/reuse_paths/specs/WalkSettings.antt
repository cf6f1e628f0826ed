-- What walks are in: a program with its source trees, a nest, regions, and what is asked of the words that they come to.
use Rattle.std.specs.Prelude.{ℕ, ◌+◌, List, [], ◌++◌, map, length, Option, Some, None, slice_index_or}
use Rattle.iolb_model.specs.Form.{AffineForm}
use Rattle.iolb_model.specs.Program.{AffineProgram}
use Rattle.affine_form.specs.Rows.{widened, variables_from}
use Rattle.affine_program.specs.Domain.{depth_of, domain_rows}
use Rattle.dep_quast.specs.Context.{parameter_point}
use Rattle.dep_quast.specs.Tree.{SelectionTree}
use Rattle.domain_count.specs.Count.{rows_before}
use Rattle.reuse_paths.specs.Families.{CreditedNest}
use Rattle.dep_quast.specs.OpenLeaves.{form_at}
use Rattle.reuse_paths.specs.Walks.{WalkRegion, SpotForms}

-- The labels that the walks of a family keep: the reader's, as forms over the variables of its region; for each statement
-- that of its instances and for each array that of its cells, where they have one; and the nests in which walks may stop.
pub record KeptLabels : Type 0 where
  pub reader : List AffineForm
  pub instances : List (Option (List AffineForm))
  pub cells : List (Option (List AffineForm))
  pub credits : List CreditedNest

-- What is asked of walks: that they arrive at a spot, or that they keep labels.
pub data WalkAim : Type 0 where
  arrives_at : SpotForms → WalkAim
  keeps : KeptLabels → WalkAim

-- What a walk is in: a program with its source trees; a nest; regions, one or none for each statement; and what is asked.
pub record WalkSetting : Type 0 where
  pub program : AffineProgram
  pub trees : List (List SelectionTree)
  pub nest : List (AffineForm × AffineForm)
  pub nodes : List (Option WalkRegion)
  pub aim : WalkAim

-- how many loops are around the target, and none where there is no target
abbrev pub loops_of_aim : AffineProgram → WalkAim → ℕ
loops_of_aim program (arrives_at target) = depth_of program target.statement
loops_of_aim program (keeps kept) = 0

-- how many variables a spot has: the parameters and the nest's
abbrev pub spot_variables : WalkSetting → ℕ
spot_variables walk = length walk.program.parameters + length walk.nest

-- and how many a region has, with the loop values of its statement
abbrev pub region_variables : WalkSetting → ℕ → ℕ
region_variables walk statement = spot_variables walk + depth_of walk.program statement

-- the loop values of a region's statement
abbrev pub region_values : WalkSetting → ℕ → List AffineForm
region_values walk statement = variables_from (region_variables walk statement) (spot_variables walk) (depth_of walk.program statement)

-- the parameters and these loop values: the point at which a read's source tree is tested
abbrev pub reading_point : WalkSetting → ℕ → List AffineForm
reading_point walk statement = parameter_point walk.program (region_variables walk statement) ++ region_values walk statement

-- The rows of a region: the assumptions and the bounds of the nest, the domain of the statement, and its own.
abbrev pub region_context : WalkSetting → ℕ → List AffineForm → List AffineForm
region_context walk statement rows =
    let vars = region_variables walk statement in
    map (widened vars) (rows_before walk.program walk.nest).rows
    ++ domain_rows walk.program statement vars (parameter_point walk.program vars) (region_values walk statement)
    ++ rows

-- the region of a statement, where it has one
abbrev pub region_at : List (Option WalkRegion) → ℕ → Option WalkRegion
region_at nodes statement = slice_index_or nodes statement None

-- Forms over the parameters, the nest's variables and some values, with forms put in for the values. These are over so
-- many variables, of which the first are the parameters and the nest's.
abbrev pub forms_behind : WalkSetting → ℕ → List AffineForm → List AffineForm → List AffineForm
forms_behind walk vars values forms = map (form_at vars (variables_from vars 0 (spot_variables walk) ++ values)) forms

-- The rows which say that an instance with these loop values is in a region.
abbrev pub entering_rows : WalkSetting → ℕ → Option WalkRegion → List AffineForm → List AffineForm
entering_rows walk vars None values = []
entering_rows walk vars (Some region) values = forms_behind walk vars values region.rows
