-- What is asked of wavefront terms. A statement that isn't there counts as one without loops and reads, a read that isn't
-- there as one without subscripts and leaves, and an input as an instance without loops.
use Rattle.std.specs.Prelude.{◌≡◌, ℕ, suc, ◌+◌, ◌*◌, List, [], ◌∷◌, ◌++◌, length, Option, None, Some, codes}
use Rattle.std.specs.Option.{is_some}
use Rattle.iolb_model.specs.Program.{AffineProgram, statement_at}
use Rattle.claims.specs.Claims.{Claim}
use Rattle.claims.specs.declared.place.Step.{Step}
use Rattle.claims.specs.declared.place.Step.TheVariants.{Key}
use Rattle.affine_program.specs.Domain.{depth_of, domain_size}
use Rattle.dep_quast.specs.Context.{reference_of}
use Rattle.dep_quast.specs.Tree.{SelectionTree}
use Rattle.reuse_paths.specs.ReachClaims.{setting_of}
use Rattle.reuse_paths.specs.Walks.{SpotForms, ReachClaim}
use Rattle.wavefront.specs.FrontClaims.{front_variables}
use Rattle.wavefront.specs.FrontFits.{source_depth}
use Rattle.wavefront.specs.FrontTerm.{WavefrontTerm, user_read}
use Rattle.certificate_fit.specs.EntryFit.{entries_fit, leaf_names}
use Rattle.certificate_fit.specs.FitClaims.{so_many, names}
use Rattle.certificate_fit.specs.PartFit.{bounds_fit, matrix_fit, polynomials_fit, shown_fit}
use Rattle.certificate_fit.specs.WalkFit.{fit_in, spot_fit}

-- ---- the ways

-- what shows the way between two spots
abbrev pub way_fit : AffineProgram → List (List SelectionTree) → WavefrontTerm → SpotForms → SpotForms → List Step → ReachClaim → List Claim
way_fit program trees term from to place reach = fit_in (setting_of program trees term.nest to reach) to from place reach

abbrev pub back_fit : AffineProgram → List (List SelectionTree) → List Step → WavefrontTerm → List Claim
back_fit program trees place term = way_fit program trees term term.user term.vertex (place ++ Key (codes "back") ∷ []) term.back

-- what shows the way to the word's instance is there exactly where the word isn't an input
abbrev pub reach_there : List Step → WavefrontTerm → Claim
reach_there place term = record { condition = 1; place = place ++ Key (codes "reach") ∷ []; statement = is_some term.reach ≡ is_some term.source }

abbrev pub source_way : AffineProgram → List (List SelectionTree) → WavefrontTerm → List Step → Option SpotForms → Option ReachClaim → List Claim
source_way program trees term place None reach = []
source_way program trees term place (Some spot) None = []
source_way program trees term place (Some spot) (Some reach) = way_fit program trees term term.vertex spot place reach

abbrev pub reach_fit : AffineProgram → List (List SelectionTree) → List Step → WavefrontTerm → List Claim
reach_fit program trees place term = reach_there place term ∷ source_way program trees term (place ++ Key (codes "reach") ∷ []) term.source term.reach

-- ---- the instances

-- entries at the leaves of the user's read
abbrev pub edge_fit : AffineProgram → List (List SelectionTree) → List Step → WavefrontTerm → List Claim
edge_fit program trees place term =
    so_many (place ++ Key (codes "edge") ∷ []) (length term.edge) (length (leaf_names program trees (user_read term)))
    ∷ entries_fit (source_depth program term.source) [] (place ++ Key (codes "edge") ∷ []) term.edge

-- how many rows say that the word's instance is in its domain
abbrev pub source_size : AffineProgram → Option SpotForms → ℕ
source_size program None = 0
source_size program (Some spot) = domain_size program spot.statement

-- how many multipliers show that the instances are in their domains
abbrev pub inside_count : AffineProgram → WavefrontTerm → ℕ
inside_count program term = domain_size program term.user.statement + domain_size program term.vertex.statement + source_size program term.source

-- how many numbers tell the words apart
abbrev pub word_count : AffineProgram → WavefrontTerm → Option SpotForms → ℕ
word_count program term None = length (reference_of program (user_read term)).subscripts
word_count program term (Some spot) = depth_of program spot.statement

abbrev pub words_fit : AffineProgram → List Step → WavefrontTerm → List Claim
words_fit program place term =
    shown_fit (inside_count program term) (place ++ Key (codes "inside") ∷ []) term.inside
    ∷ matrix_fit (length term.nest) (word_count program term term.source) (place ++ Key (codes "inverse") ∷ Key (codes "matrix") ∷ []) term.matrix

-- the read, and the ranges of the nest's variables
abbrev pub read_fit : AffineProgram → List Step → WavefrontTerm → List Claim
read_fit program place term =
    names (place ++ Key (codes "read") ∷ []) term.read (length (statement_at program term.user.statement).reads)
    ∷ shown_fit (length term.nest) (place ++ Key (codes "shown") ∷ []) term.count.shown ∷ []

abbrev pub source_fit : AffineProgram → List Step → WavefrontTerm → Option SpotForms → List Claim
source_fit program place term None = []
source_fit program place term (Some spot) = spot_fit program (front_variables program term) (place ++ Key (codes "source") ∷ []) spot

-- ---- the counts

-- the outer variables are among the nest's
abbrev pub outer_fit : AffineProgram → List Step → WavefrontTerm → List Claim
outer_fit program place term =
    names (place ++ Key (codes "outer") ∷ []) term.outer (suc (length term.nest)) ∷ polynomials_fit (length program.parameters) (place ++ Key (codes "outer_sums") ∷ []) term.outer_sums term.outer

-- ---- all

-- A wavefront term, its members in the order of their keys: up to what tells the words apart
abbrev pub first_fit : AffineProgram → List (List SelectionTree) → List Step → WavefrontTerm → List Claim
first_fit program trees place term = back_fit program trees place term ++ (edge_fit program trees place term ++ words_fit program place term)

-- the nest, its outer variables, and the way to the word's instance
abbrev pub nest_fit : AffineProgram → List (List SelectionTree) → List Step → WavefrontTerm → List Claim
nest_fit program trees place term =
    bounds_fit (length program.parameters) (place ++ Key (codes "nest") ∷ []) term.nest ++ (outer_fit program place term ++ reach_fit program trees place term)

-- the read, the word's instance, and the count
abbrev pub count_fit : AffineProgram → List Step → WavefrontTerm → List Claim
count_fit program place term =
    read_fit program place term ++ (source_fit program place term term.source ++ polynomials_fit (length program.parameters) (place ++ Key (codes "sums") ∷ []) term.count.sums (length term.nest))

-- the user and the vertex
abbrev pub spots_fit : AffineProgram → List Step → WavefrontTerm → List Claim
spots_fit program place term =
    spot_fit program (front_variables program term) (place ++ Key (codes "user") ∷ []) term.user
    ++ spot_fit program (front_variables program term) (place ++ Key (codes "vertex") ∷ []) term.vertex

abbrev pub front_fit : AffineProgram → List (List SelectionTree) → List Step → WavefrontTerm → List Claim
front_fit program trees place term =
    first_fit program trees place term ++ (nest_fit program trees place term ++ (count_fit program place term ++ spots_fit program place term))
