-- The points of a nest of variables, each of which runs between a lower and an upper form. (Iteration domains in
-- lexicographic order; Feautrier 1991.)
use Rattle.std.specs.Prelude.{◌≡◌, ℕ, ℤ, List, [], ◌∷◌, ◌++◌, map, length, take, drop, flat_map}
use Rattle.iolb_model.specs.Form.{AffineForm, form_value}
use Rattle.iolb_model.specs.Execution.{range}

-- The points of a nest by enumeration, where the parameters and the variables before have these values: for each value
-- of the first variable from its lower to its upper form, both included, the points of the rest. A nest without
-- variables has one point.
abbrev pub points : List (AffineForm × AffineForm) → List ℤ → List (List ℤ)
points [] before = [] ∷ []
points (bounds ∷ nest) before =
    flat_map (λ value. map (λ (point : List ℤ). value ∷ point) (points nest (before ++ value ∷ [])))
    (range (form_value bounds.0 before) (form_value bounds.1 before))

-- how many points a nest has
abbrev pub count : List (AffineForm × AffineForm) → List ℤ → ℕ
count nest parameters = length (points nest parameters)

-- the points over a point of a nest's first variables: those that begin with it
abbrev pub points_over : ℕ → List (AffineForm × AffineForm) → List ℤ → List ℤ → List (List ℤ)
points_over outer nest before front = map (λ (rest : List ℤ). front ++ rest) (points (drop outer nest) (before ++ front))

-- A nest's points are those over the points of its first variables, so many of them, one after another.
abbrev pub PointsArePartedByFront : Type 0
PointsArePartedByFront = (outer : ℕ) (nest : List (AffineForm × AffineForm)) (before : List ℤ)
    → points nest before ≡ flat_map (points_over outer nest before) (points (take outer nest) before)
