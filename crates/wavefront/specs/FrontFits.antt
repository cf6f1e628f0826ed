-- What makes a wavefront term fit a program and its source trees.
use Rattle.std.specs.Prelude.{◌≡◌, ℕ, ◌*◌, ◌≤◌, ⊤, List, length, Option, Some, None}
use Rattle.std.specs.List.{AllByRecursion}
use Rattle.iolb_model.specs.Program.{AffineProgram, IsWellFormed}
use Rattle.affine_program.specs.Domain.{depth_of}
use Rattle.claims.specs.Claims.{AllHold}
use Rattle.claims.specs.declared.place.Step.{Step}
use Rattle.dep_quast.specs.Tree.{SelectionTree}
use Rattle.dep_quast.specs.Truth.{ReadFits, TreeFits}
use Rattle.reuse_paths.specs.LeafClaims.{LeafClaim, no_point, stops, is_credited, goes_on, arrives}
use Rattle.dep_quast.specs.Quasts.{tree_at, tree_for}
use Rattle.reuse_paths.specs.ReachFits.{ReachFits}
use Rattle.reuse_paths.specs.WalkFits.{NestFits, SpotFits}
use Rattle.dep_quast.specs.Trees.{RowsFit, RowsAreTrue}
use Rattle.reuse_paths.specs.Walks.{SpotForms, ReachClaim}
use Rattle.wavefront.specs.FrontTerm.{WavefrontTerm, user_read}
use Rattle.wavefront.specs.FrontClaims.{front_variables, front_goals, word_forms, edge_leaves, wave_claims}
use Rattle.wavefront.specs.Fronts.{IsSoundFront}

-- the loops around the word's instance, none where it is an input
abbrev pub source_depth : AffineProgram → Option SpotForms → ℕ
source_depth program None = 0
source_depth program (Some spot) = depth_of program spot.statement

-- an entry at a leaf of the edge has two multipliers for each loop around the word's instance, where it says that this is the
-- word
abbrev pub EdgeFits : AffineProgram → Option SpotForms → LeafClaim → Type 0
EdgeFits program source (no_point shown) = ⊤
EdgeFits program source (stops label) = length label ≡ 0
EdgeFits program source (is_credited credit rows label) = ⊥
EdgeFits program source (goes_on rows label) = ⊤
EdgeFits program source (arrives equal) = length equal ≡ 2 * source_depth program source

-- the word's instance fits, where the word isn't an input
abbrev pub SourceFits : AffineProgram → ℕ → Option SpotForms → Type 0
SourceFits program vars None = ⊤
SourceFits program vars (Some spot) = SpotFits program vars spot

-- A wavefront term fits a program: what its numbers name is there, its forms are over the parameters and the nest's variables,
-- its outer variables are among the nest's, and each list has the length called for.
pub record PartsFit (program : AffineProgram) (term : WavefrontTerm) : Type 0 where
  pub nest : NestFits program term.nest
  pub outer : term.outer ≤ length term.nest
  pub vertex : SpotFits program (front_variables program term) term.vertex
  pub user : SpotFits program (front_variables program term) term.user
  pub source : SourceFits program (front_variables program term) term.source
  pub read : ReadFits program (user_read term)
  pub inside : length term.inside ≡ length (front_goals program term)
  pub rows : term.matrix.rows ≡ length term.nest
  pub columns : (1 ≤ term.matrix.rows) → term.matrix.columns ≡ length (word_forms program term)
  pub scale : 1 ≤ term.scale

-- what shows that the word's instance is reached fits: it is there where the word isn't an input
abbrev pub ReachesFit : AffineProgram → List (List SelectionTree) → WavefrontTerm → Option SpotForms → Option ReachClaim → Type 0
ReachesFit program trees term None None = ⊤
ReachesFit program trees term None (Some reach) = ⊥
ReachesFit program trees term (Some spot) None = ⊥
ReachesFit program trees term (Some spot) (Some reach) = ReachFits program trees term.nest term.vertex spot reach

-- A source tree of the user's read fits: its forms are over the parameters and the user's loop values, and there is an entry for
-- each of its leaves that isn't empty.
pub record EdgesFit (program : AffineProgram) (tree : SelectionTree) (term : WavefrontTerm) : Type 0 where
  pub tree_fits : TreeFits program (user_read term) tree
  pub each : length term.edge ≡ length (edge_leaves program tree term)
  pub entries : AllByRecursion (EdgeFits program term.source) term.edge

-- It fits a program and its source trees, where also there is a tree for the user's read, which fits, and what shows the
-- ways fits.
pub record FrontFits (program : AffineProgram) (trees : List (List SelectionTree)) (term : WavefrontTerm) : Type 0 where
  pub parts : PartsFit program term
  pub there : tree_at trees term.user.statement term.read ≡ Some (tree_for trees (user_read term))
  pub edges : EdgesFit program (tree_for trees (user_read term)) term
  pub reach : ReachesFit program trees term term.source term.reach
  pub back : ReachFits program trees term.nest term.user term.vertex term.back

-- A wavefront term whose claims hold, over true source trees, is sound.
abbrev pub ValidFrontsAreSound : Type 0
ValidFrontsAreSound = (program : AffineProgram) (place : List Step) (trees : List (List SelectionTree)) (term : WavefrontTerm) → IsWellFormed program
    → RowsFit program 0 trees → RowsAreTrue program 0 trees → FrontFits program trees term → AllHold (wave_claims program place trees term)
    → IsSoundFront program term
