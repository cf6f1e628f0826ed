-- What holds of the sets and the depth of a shape holds of the program's.
use Rattle.std.proofs.Common.{◌≡◌, subst, ℕ, List}

pub at-shape : (F : List (List ℕ) → ℕ → Type 0) (sets others : List (List ℕ)) (depth other : ℕ) → sets ≡ others → depth ≡ other → F sets depth → F others other
at-shape F sets others depth other same equal h = subst (λ (n : ℕ). F others n) equal (subst (λ (s : List (List ℕ)). F s depth) same h)
