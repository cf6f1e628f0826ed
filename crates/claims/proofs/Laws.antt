-- What is accepted isn't refused, and what is refused has one first failure.
use Rattle.std.proofs.Common.{◌≡◌, sym, ◌∙◌, inl, inr, List, [], ◌∷◌, ◌++◌}
use Rattle.claims.specs.declared.refused.FailedCondition.{FailedCondition}
use Rattle.claims.specs.Claims.{Claim, AllHold, FirstFails}

-- Claims that all hold aren't refused.
pub accepted-stand : (claims : List Claim) (failed : FailedCondition) → AllHold claims → FirstFails claims failed → ⊥
accepted-stand [] failed all first = first
accepted-stand (claim ∷ claims) failed all (inl fails) = fails.0 all.0
accepted-stand (claim ∷ claims) failed all (inr later) = accepted-stand claims failed all.1 later.1

-- Claims have one first failure.
pub refused-one : (claims : List Claim) (one other : FailedCondition) → FirstFails claims one → FirstFails claims other → one ≡ other
refused-one [] one other f g = absurd f
refused-one (claim ∷ claims) one other (inl f) (inl g) =
    let condition : one.condition ≡ other.condition = sym f.1 ∙ g.1 in
    let place : one.place ≡ other.place = sym f.2 ∙ g.2 in
    λ i. record { condition = condition i; place = place i }
refused-one (claim ∷ claims) one other (inl f) (inr g) = absurd (f.0 g.0)
refused-one (claim ∷ claims) one other (inr f) (inl g) = absurd (g.0 f.0)
refused-one (claim ∷ claims) one other (inr f) (inr g) = refused-one claims one other f.1 g.1

-- Lists one after another hold where each does.
pub AllHold-append : (xs ys : List Claim) → AllHold xs → AllHold ys → AllHold (xs ++ ys)
AllHold-append [] ys h g = g
AllHold-append (x ∷ xs) ys h g = (h.0, AllHold-append xs ys h.1 g)

pub AllHold-left : (xs ys : List Claim) → AllHold (xs ++ ys) → AllHold xs
AllHold-left [] ys h = tt
AllHold-left (x ∷ xs) ys h = (h.0, AllHold-left xs ys h.1)

pub AllHold-right : (xs ys : List Claim) → AllHold (xs ++ ys) → AllHold ys
AllHold-right [] ys h = h
AllHold-right (x ∷ xs) ys h = AllHold-right xs ys h.1

-- What fails first in the first of two lists fails first in both.
pub first-fails : (xs ys : List Claim) (failed : FailedCondition) → FirstFails xs failed → FirstFails (xs ++ ys) failed
first-fails [] ys failed f = absurd f
first-fails (x ∷ xs) ys failed (inl here) = inl here
first-fails (x ∷ xs) ys failed (inr later) = inr (later.0, first-fails xs ys failed later.1)

-- Where the first holds, what fails first in the second does so in both.
pub later-fails : (xs ys : List Claim) (failed : FailedCondition) → AllHold xs → FirstFails ys failed → FirstFails (xs ++ ys) failed
later-fails [] ys failed h f = f
later-fails (x ∷ xs) ys failed h f = inr (h.0, later-fails xs ys failed h.1 f)
