-- Arrays that are read by a reference in which each of some loops stands.
use Rattle.std.specs.Prelude.{◌≢◌, ℕ, suc, ◌+◌, ◌<◌, ◌≤◌, ⊤, List, [], ◌∷◌, length}
use Rattle.std.specs.List.{AllByRecursion}
use Rattle.iolb_model.specs.Program.{AffineProgram, statement_at}
use Rattle.affine_program.specs.Domain.{depth_of}
use Rattle.iolb_model.specs.declared.limits.TheConstants.{NEST_VARIABLES}
use Rattle.projective_bounds.specs.Families.{array_read, array_subscripts, place_among}

-- Some read is to the array; the loops are few and around the statement, and each stands in a subscript of the first such read.
pub record IsReadable (program : AffineProgram) (array : ℕ) (loops : List ℕ) : Type 0 where
  pub read : array_read program array < length (statement_at program 0).reads
  pub few : length loops ≤ NEST_VARIABLES
  pub there : AllByRecursion (λ level. level < depth_of program 0) loops
  pub stands : AllByRecursion (λ level. place_among (array_subscripts program array) (length program.parameters + level) < length (array_subscripts program array)) loops

-- the arrays from one on are so whose weight isn't 0
abbrev pub AreReadable : AffineProgram → ℕ → List (List ℕ) → List ℕ → Type 0
AreReadable program array [] weights = ⊤
AreReadable program array (set ∷ sets) [] = ⊤
AreReadable program array (set ∷ sets) (weight ∷ weights) = ((weight ≢ 0) → IsReadable program array set) × AreReadable program (suc array) sets weights
