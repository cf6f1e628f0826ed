-- What holds of each member of a list.
use Rattle.std.proofs.Common.{List, [], ◌∷◌}
use Rattle.std.specs.Prelude.{flat_map}
use Rattle.std.specs.List.{AllByRecursion}
use Rattle.base_laws.proofs.Lists.{All-left, All-right}

-- of lists one behind another, of each
pub All-parts : {X Y : Type 0} (P : Y → Type 0) (f : X → List Y) (xs : List X) → AllByRecursion P (flat_map f xs) → AllByRecursion (λ (x : X). AllByRecursion P (f x)) xs
All-parts P f [] h = tt
All-parts P f (x ∷ xs) h = (All-left P (f x) (flat_map f xs) h, All-parts P f xs (All-right P (f x) (flat_map f xs) h))
