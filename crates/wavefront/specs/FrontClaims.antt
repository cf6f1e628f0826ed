-- What a wavefront term claims, in the order in which it is tested.
use Rattle.std.specs.Prelude.{◌≡◌, ℕ, suc, ◌+◌, pos, true, ⊤, List, [], ◌∷◌, ◌++◌, length, drop, Option, Some, None, codes}
use Rattle.std.specs.List.{AllByRecursion}
use Rattle.iolb_model.specs.Form.{AffineForm}
use Rattle.iolb_model.specs.Program.{AffineProgram}
use Rattle.affine_form.specs.Multipliers.{FarkasMultipliers}
use Rattle.affine_form.specs.System.{AffineSystem}
use Rattle.affine_form.specs.Rows.{equality_rows, put_in}
use Rattle.affine_program.specs.Domain.{domain_rows}
use Rattle.claims.specs.Claims.{Claim, numbered}
use Rattle.claims.specs.declared.place.Step.{Step}
use Rattle.claims.specs.declared.place.Step.TheVariants.{Key, Index}
use Rattle.claims.specs.Shown.{IsFew, IsPointless, Follows, follow_claims}
use Rattle.dep_quast.specs.Context.{parameter_point, reference_of}
use Rattle.dep_quast.specs.Tree.{SelectionTree}
use Rattle.domain_count.specs.Count.{rows_before}
use Rattle.domain_count.specs.CountClaims.{count_claims, sums_claims}
use Rattle.reuse_paths.specs.LeafClaims.{LeafClaim, no_point, stops, is_credited, goes_on, arrives}
use Rattle.dep_quast.specs.OpenLeaves.{LeafOrigin, written, as_input, unknown, OpenLeaf, is_input, open_leaves}
use Rattle.dep_quast.specs.Quasts.{tree_for}
use Rattle.reuse_paths.specs.EntryClaims.{IsWrittenBy}
use Rattle.reuse_paths.specs.ReachClaims.{reach_claims}
use Rattle.reuse_paths.specs.Walks.{SpotForms, ReachClaim}
use Rattle.wavefront.specs.FrontTerm.{WavefrontTerm, outer_nest, user_read}
use Rattle.wavefront.specs.InverseClaims.{inverse_claims}

-- how many variables there are: the parameters and the nest's; and the rows of a point of the nest
abbrev pub front_variables : AffineProgram → WavefrontTerm → ℕ
front_variables program term = length program.parameters + length term.nest

abbrev pub front_system : AffineProgram → WavefrontTerm → AffineSystem
front_system program term = rows_before program term.nest

-- ---- that the instances are in their domains (condition 10)

abbrev pub spot_goals : AffineProgram → WavefrontTerm → SpotForms → List AffineForm
spot_goals program term spot =
    let vars = front_variables program term in domain_rows program spot.statement vars (parameter_point program vars) spot.point

-- those of the word's instance, where it isn't an input
abbrev pub source_goals : AffineProgram → WavefrontTerm → Option SpotForms → List AffineForm
source_goals program term None = []
source_goals program term (Some spot) = spot_goals program term spot

abbrev pub front_goals : AffineProgram → WavefrontTerm → List AffineForm
front_goals program term = spot_goals program term term.user ++ spot_goals program term term.vertex ++ source_goals program term term.source

abbrev pub front_inside : AffineProgram → List Step → WavefrontTerm → List Claim
front_inside program place term = follow_claims 10 (place ++ Key (codes "inside") ∷ []) (front_system program term) 0 (front_goals program term) term.inside

-- ---- that the vertex depends on the outer variables alone (condition 22)

-- a form's coefficients past so many variables are 0
abbrev pub IsWithoutPast : ℕ → AffineForm → Type 0
IsWithoutPast variables form = AllByRecursion (λ coefficient. coefficient ≡ pos 0) (drop variables form.coefficients)

abbrev pub outer_claim : ℕ → List Step → ℕ → AffineForm → List Claim
outer_claim variables place index form = record {
  condition = 22;
  place = place ++ Key (codes "vertex") ∷ Key (codes "point") ∷ Index index ∷ [];
  statement = IsWithoutPast variables form;
} ∷ []

abbrev pub outer_claims : AffineProgram → List Step → WavefrontTerm → List Claim
outer_claims program place term = numbered (outer_claim (length program.parameters + term.outer) place) 0 term.vertex.point

-- ---- that different points have different words (condition 12)

-- the parameters and the loop values of the user
abbrev pub user_point : AffineProgram → WavefrontTerm → List AffineForm
user_point program term = parameter_point program (front_variables program term) ++ term.user.point

-- what tells the words apart: the subscripts of the cell that is read where the word is an input, and else the loop values
-- of its instance
abbrev pub telling_forms : AffineProgram → WavefrontTerm → Option SpotForms → List AffineForm
telling_forms program term None = put_in (user_point program term) (reference_of program (user_read term)).subscripts
telling_forms program term (Some spot) = spot.point

abbrev pub word_forms : AffineProgram → WavefrontTerm → List AffineForm
word_forms program term = telling_forms program term term.source

abbrev pub word_claims : AffineProgram → List Step → WavefrontTerm → List Claim
word_claims program place term =
    inverse_claims term.matrix term.scale (length program.parameters) (length term.nest) (word_forms program term) place

-- ---- that the word is what the term says (condition 19)

-- each goal follows, by its multipliers
abbrev pub AllFollow : AffineSystem → List AffineForm → List FarkasMultipliers → Type 0
AllFollow system [] shown = ⊤
AllFollow system (goal ∷ goals) [] = ⊥
AllFollow system (goal ∷ goals) (m ∷ shown) = Follows system goal m × AllFollow system goals shown

-- the leaf says that the word is an input, and so does the term
abbrev pub IsInputWord : Option SpotForms → LeafOrigin → Type 0
IsInputWord None origin = is_input origin ≡ true
IsInputWord (Some spot) origin = ⊥

-- the loop values of the instance that wrote a word, as forms over the parameters and the reader's loop values
abbrev pub origin_values : LeafOrigin → List AffineForm
origin_values (written statement values) = values
origin_values as_input = []
origin_values unknown = []

-- The word was written by an instance of the statement that the term says, and multipliers show that it is the one which
-- the term says.
abbrev pub IsSourceWord : AffineSystem → List AffineForm → Option SpotForms → LeafOrigin → List FarkasMultipliers → Type 0
IsSourceWord system point None origin equal = ⊥
IsSourceWord system point (Some spot) origin equal =
    IsWrittenBy spot.statement origin × AllFollow system (equality_rows system.vars (put_in point (origin_values origin)) spot.point) equal

-- At a leaf no point comes, or the word is what the term says.
abbrev pub IsEdge : AffineSystem → List AffineForm → Option SpotForms → LeafOrigin → LeafClaim → Type 0
IsEdge system point source origin (no_point shown) = IsPointless system shown
IsEdge system point source origin (stops label) = IsInputWord source origin
IsEdge system point source origin (is_credited credit rows label) = ⊥
IsEdge system point source origin (goes_on rows label) = ⊥
IsEdge system point source origin (arrives equal) = IsSourceWord system point source origin equal

abbrev pub edge_claim : List Step → AffineSystem → List AffineForm → Option SpotForms → LeafOrigin → LeafClaim → Claim
edge_claim place system point source origin entry = record { condition = 19; place = place; statement = IsEdge system point source origin entry }

-- what is claimed at leaves, one after another, each by an entry of a list at this place; and that the systems have few
-- rows (condition 2)
abbrev pub edges_claims : ℕ → List AffineForm → List AffineForm → Option SpotForms → List Step → ℕ → List OpenLeaf → List LeafClaim → List Claim
edges_claims vars rows point source place index [] entries = []
edges_claims vars rows point source place index (l ∷ leaves) [] = []
edges_claims vars rows point source place index (l ∷ leaves) (entry ∷ entries) =
    record { condition = 2; place = place ++ Index index ∷ []; statement = IsFew (length (rows ++ l.tests)) }
    ∷ edge_claim (place ++ Index index ∷ []) (record { vars = vars; rows = rows ++ l.tests }) point source l.origin entry
    ∷ edges_claims vars rows point source place (suc index) leaves entries

-- the leaves of a source tree of the read that takes the word
abbrev pub edge_leaves : AffineProgram → SelectionTree → WavefrontTerm → List OpenLeaf
edge_leaves program tree term = open_leaves (front_variables program term) (user_point program term) [] tree

abbrev pub front_edges : AffineProgram → List Step → SelectionTree → WavefrontTerm → List Claim
front_edges program place tree term =
    edges_claims (front_variables program term) (front_system program term).rows (user_point program term) term.source (place ++ Key (codes "edge") ∷ []) 0
    (edge_leaves program tree term) term.edge

-- ---- that the word is there when the vertex is computed (condition 20), and its user isn't computed before (condition 21)

abbrev pub source_reach : AffineProgram → List Step → List (List SelectionTree) → WavefrontTerm → Option SpotForms → Option ReachClaim → List Claim
source_reach program place trees term None reach = []
source_reach program place trees term (Some spot) None = []
source_reach program place trees term (Some spot) (Some reach) = reach_claims program trees term.nest term.vertex spot reach 20 (place ++ Key (codes "reach") ∷ [])

abbrev pub front_reach : AffineProgram → List Step → List (List SelectionTree) → WavefrontTerm → List Claim
front_reach program place trees term = source_reach program place trees term term.source term.reach

abbrev pub front_back : AffineProgram → List Step → List (List SelectionTree) → WavefrontTerm → List Claim
front_back program place trees term = reach_claims program trees term.nest term.user term.vertex term.back 21 (place ++ Key (codes "back") ∷ [])

-- ---- all

-- what is claimed of the instances at each point, over the source tree of the user's read
abbrev pub point_claims : AffineProgram → List Step → SelectionTree → WavefrontTerm → List Claim
point_claims program place tree term =
    front_inside program place term ++ outer_claims program place term ++ word_claims program place term ++ front_edges program place tree term

-- what is claimed past the counts: of the instances, and of the ways between them
abbrev pub wave_claims : AffineProgram → List Step → List (List SelectionTree) → WavefrontTerm → List Claim
wave_claims program place trees term =
    point_claims program place (tree_for trees (user_read term)) term ++ front_reach program place trees term ++ front_back program place trees term

-- what is claimed of the counts: of the nest's points, and of those of its outer variables, whose ranges are among the nest's
abbrev pub front_counts : AffineProgram → List Step → WavefrontTerm → List Claim
front_counts program place term =
    count_claims program term.nest term.count place ++ sums_claims program (outer_nest term) term.outer_sums place (codes "outer_sums")

-- what a wavefront term claims over the source trees
abbrev pub front_claims : AffineProgram → List Step → List (List SelectionTree) → WavefrontTerm → List Claim
front_claims program place trees term = front_counts program place term ++ wave_claims program place trees term
