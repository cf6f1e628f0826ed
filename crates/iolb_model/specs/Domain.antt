-- Iteration domains: the loop values at which a statement is executed. (Feautrier 1991.)
use Rattle.std.specs.Prelude.{◌≡◌, ℕ, ℤ, ◌≤ℤ◌, ⊤, List, [], ◌∷◌, ◌++◌, Some, slice_get, IsSomeAnd}
use Rattle.iolb_model.specs.Form.{AffineForm, form_value, AreMet}
use Rattle.iolb_model.specs.Path.{PathStep, bounded, guarded, bounds_on, row_path}
use Rattle.iolb_model.specs.Program.{AffineProgram}
use Rattle.iolb_model.specs.Execution.{Instance, execution}

-- Loop values are within the bounds of loops: there is one for each loop, at least the loop's lower and at most its
-- upper bound at the point, which has the parameters' values and those of the loops around it.
abbrev pub IsWithin : List (AffineForm × AffineForm) → List ℤ → List ℤ → Type 0
IsWithin [] point [] = ⊤
IsWithin [] point (value ∷ values) = ⊥
IsWithin (bounds ∷ loops) point [] = ⊥
IsWithin (bounds ∷ loops) point (value ∷ values) =
    (form_value bounds.0 point ≤ℤ value) × (value ≤ℤ form_value bounds.1 point) × IsWithin loops (point ++ value ∷ []) values

-- The rows of each guard on a way are met at the point there, which has the parameters' values and those of the loops around
-- the guard.
abbrev pub AreGuardsMet : List PathStep → List ℤ → List ℤ → Type 0
AreGuardsMet [] point values = ⊤
AreGuardsMet (bounded lower upper ∷ path) point [] = ⊤
AreGuardsMet (bounded lower upper ∷ path) point (value ∷ values) = AreGuardsMet path (point ++ value ∷ []) values
AreGuardsMet (guarded rows ∷ path) point values = AreMet rows point × AreGuardsMet path point values

-- loop values lead along a way: they are within the bounds of its loops, and the rows of its guards are met
abbrev pub LeadAlong : List PathStep → List ℤ → List ℤ → Type 0
LeadAlong path parameters values = IsWithin (bounds_on path) parameters values × AreGuardsMet path parameters values

-- these loop values are in the domain of the statement: it is in the tree, and they lead along the way to it
abbrev pub IsInDomain : AffineProgram → List ℤ → Instance → Type 0
IsInDomain program parameters instance =
    IsSomeAnd (row_path program.tree instance.statement) (λ path. LeadAlong path parameters instance.values)

-- the instance stands at this place of the execution
abbrev pub IsAt : AffineProgram → List ℤ → ℕ → Instance → Type 0
IsAt program parameters place instance = slice_get (execution program parameters) place ≡ Some instance
