-- What is asked of an output: that it fits a program (condition 1), in the order of a walk through its text. A statement that
-- isn't there counts as one without loops, and nothing writes its array.
use Rattle.std.specs.Prelude.{ℕ, suc, ◌*◌, nat_lt, if◌then◌else◌, List, [], ◌∷◌, ◌++◌, length, codes}
use Rattle.affine_program.specs.Domain.{depth_of, domain_size}
use Rattle.certificate_fit.specs.FitClaims.{names, so_many}
use Rattle.certificate_fit.specs.PartFit.{bounds_fit, forms_fit, matrix_fit, shown_fit, sums_fit}
use Rattle.claims.specs.Claims.{Claim}
use Rattle.claims.specs.declared.place.Step.{Step}
use Rattle.claims.specs.declared.place.Step.TheVariants.{Key}
use Rattle.iolb_model.specs.Program.{AffineProgram}
use Rattle.store_terms.specs.Claims.{OutputClaim}
use Rattle.last_writers.specs.OutputClaims.{later_writes, output_variables}

-- how many later writes an output has to show not to be there
abbrev pub later_count : AffineProgram → OutputClaim → ℕ
later_count program output = if nat_lt output.statement (length program.statements) then length (later_writes program output) else 0

-- the members of an output in the order of their keys, up to its nest
abbrev pub output_front_fit : AffineProgram → List Step → OutputClaim → List Claim
output_front_fit program place output =
    shown_fit (domain_size program output.statement) (place ++ Key (codes "inside") ∷ []) output.inside
    ∷ matrix_fit (length output.nest) (depth_of program output.statement) (place ++ Key (codes "inverse") ∷ Key (codes "matrix") ∷ []) output.matrix
    ++ shown_fit (later_count program output) (place ++ Key (codes "later") ∷ []) output.later ∷ []

-- its point
abbrev pub point_fit : AffineProgram → List Step → OutputClaim → List Claim
point_fit program place output =
    so_many (place ++ Key (codes "point") ∷ []) (length output.point) (depth_of program output.statement)
    ∷ forms_fit (output_variables program output) (place ++ Key (codes "point") ∷ []) output.point

-- the members behind its point, but for each sum
abbrev pub output_back_fit : AffineProgram → List Step → OutputClaim → List Claim
output_back_fit program place output =
    shown_fit (length output.nest) (place ++ Key (codes "shown") ∷ []) output.count.shown
    ∷ names (place ++ Key (codes "statement") ∷ []) output.statement (length program.statements)
    ∷ so_many (place ++ Key (codes "sums") ∷ []) (length output.count.sums) (length output.nest) ∷ []

-- An output.
abbrev pub output_fit : AffineProgram → List Step → OutputClaim → List Claim
output_fit program place output =
    let params = length program.parameters in
    output_front_fit program place output ++ bounds_fit params (place ++ Key (codes "nest") ∷ []) output.nest ++ point_fit program place output
    ++ output_back_fit program place output ++ sums_fit (suc params) (place ++ Key (codes "sums") ∷ []) output.count.sums
