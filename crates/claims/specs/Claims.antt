-- Claims, in the order in which they are tested. (What a proof-carrying answer has to show: Necula 1997.)
use Rattle.std.specs.Prelude.{◌≡◌, ◌⊎◌, ⊤, ℕ, zero, suc, List, [], ◌∷◌, ◌++◌, Result, Ok, Err}
use Rattle.claims.specs.declared.place.Step.{Step}
use Rattle.claims.specs.declared.refused.FailedCondition.{FailedCondition}
use Rattle.claims.specs.declared.refused.Refused.{Refused}
use Rattle.claims.specs.declared.refused.Refused.TheVariants.{Failed as not_so, Memory}

-- A claim: the number of its condition, its place in a certificate, and what it states.
pub record Claim : Type 1 where
  pub condition : ℕ
  pub place : List Step
  pub statement : Type 0

-- Claims are accepted where all of them hold.
abbrev pub AllHold : List Claim → Type 0
AllHold [] = ⊤
AllHold (claim ∷ claims) = claim.statement × AllHold claims

-- They are refused where this is the condition and the place of the first that doesn't hold.
abbrev pub FirstFails : List Claim → FailedCondition → Type 0
FirstFails [] failed = ⊥
FirstFails (claim ∷ later) failed =
    ((¬ claim.statement) × (claim.condition ≡ failed.condition) × (claim.place ≡ failed.place)) ⊎ (claim.statement × FirstFails later failed)

-- A refusal names the first claim that doesn't hold. One for want of memory says nothing of the claims.
abbrev pub IsRefusal : List Claim → Refused → Type 0
IsRefusal claims (not_so failed) = FirstFails claims failed
IsRefusal claims Memory = ⊤

-- What a test answers decides claims: Ok where all of them hold, else a refusal.
abbrev pub Decides : {A : Type 0} → List Claim → Result A Refused → Type 0
Decides claims (Ok a) = AllHold claims
Decides claims (Err refused) = IsRefusal claims refused

-- a refusal by this condition at this place, or one for want of memory
abbrev pub IsRefusalAt : ℕ → List Step → Refused → Type 0
IsRefusalAt condition place (not_so failed) = (failed.condition ≡ condition) × (failed.place ≡ place)
IsRefusalAt condition place Memory = ⊤

-- the claims about the members of a list, each with its index, from an index on
abbrev pub numbered : {X : Type 0} → (ℕ → X → List Claim) → ℕ → List X → List Claim
numbered each index [] = []
numbered each index (x ∷ xs) = each index x ++ numbered each (suc index) xs

-- the claims about so many numbers, from a first one on
abbrev pub counted : (ℕ → List Claim) → ℕ → ℕ → List Claim
counted each first zero = []
counted each first (suc n) = each first ++ counted each (suc first) n
