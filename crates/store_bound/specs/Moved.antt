-- Refusals at members of a list, and the same further on in the list.
use Rattle.std.specs.Prelude.{◌≡◌, ⊤, ℕ, ◌+◌, ◌<◌, ◌^◌, List, [], ◌∷◌, ◌++◌}
use Rattle.claims.specs.declared.place.Step.{Step}
use Rattle.claims.specs.declared.place.Step.TheVariants.{Index}
use Rattle.claims.specs.declared.refused.Refused.{Refused}
use Rattle.claims.specs.declared.refused.Refused.TheVariants.{Failed, Memory}

-- the refusal is at a member of the list at this place, which has an index so far further on
abbrev pub IsAtMember : List Step → ℕ → Refused → Type 0
IsAtMember list first (Failed failed) = (index : ℕ) × ((failed.place ≡ list ++ Index index ∷ []) × (first + index < 2 ^ 64))
IsAtMember list first Memory = ⊤

-- it is the same so far further on, but for want of memory
abbrev pub IsMoved : List Step → ℕ → Refused → Refused → Type 0
IsMoved list first (Failed failed) (Failed moved) = (moved.condition ≡ failed.condition)
    × ((index : ℕ) → failed.place ≡ list ++ Index index ∷ [] → moved.place ≡ list ++ Index (first + index) ∷ [])
IsMoved list first (Failed failed) Memory = ⊤
IsMoved list first Memory moved = moved ≡ Memory
