-- Words cut at a byte.
use Rattle.std.proofs.Common.{◌≡◌, refl, ℕ, List, [], ◌++◌}
use Rattle.std.specs.Prelude.{Option, Some, None, option_map}

-- these bytes and what stands before the cut, and what stands behind it
abbrev pub behind : List ℕ → List ℕ × List ℕ → List ℕ × List ℕ
behind front parts = (front ++ parts.0, parts.1)

pub behind-none : (o : Option (List ℕ × List ℕ)) → o ≡ option_map (behind []) o
behind-none None = refl
behind-none (Some parts) = refl
