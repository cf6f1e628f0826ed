-- What tests of claims answer, one after another.
use Rattle.std.proofs.Common.{◌≡◌, subst, sym, inl, inr, List, ◌∷◌, ◌++◌}
use Rattle.std.specs.Prelude.{Result, Ok, Err, IfOk, IfErr, OnOk, IsErr, IsErrAnd}
use Rattle.claims.specs.declared.refused.Refused.{Refused}
use Rattle.claims.specs.declared.refused.Refused.TheVariants.{Failed as not_so, Memory}
use Rattle.claims.specs.Claims.{Claim, AllHold, Decides, IsRefusal, IsRefusalAt}
use Rattle.claims.proofs.Laws.{first-fails, later-fails, AllHold-append}

-- a refusal of the first claims is one of all, and so is one of the later where the first hold
pub refused-first : (xs ys : List Claim) (r : Refused) → IsRefusal xs r → IsRefusal (xs ++ ys) r
refused-first xs ys (not_so n) h = first-fails xs ys n h
refused-first xs ys Memory h = tt

pub refused-later : (xs ys : List Claim) (r : Refused) → AllHold xs → IsRefusal ys r → IsRefusal (xs ++ ys) r
refused-later xs ys (not_so n) h k = later-fails xs ys n h k
refused-later xs ys Memory h k = tt

-- the first claim doesn't hold
pub refused-here : (claim : Claim) (later : List Claim) (r : Refused) → (claim.statement → ⊥) → IsRefusalAt claim.condition claim.place r → IsRefusal (claim ∷ later) r
refused-here claim later (not_so n) fails at = inl (fails, sym at.0, sym at.1)
refused-here claim later Memory fails at = tt

-- it holds, and a later one doesn't
pub refused-behind : (claim : Claim) (later : List Claim) (r : Refused) → claim.statement → IsRefusal later r → IsRefusal (claim ∷ later) r
refused-behind claim later (not_so n) holds h = inr (holds, h)
refused-behind claim later Memory holds h = tt

-- where the first claims hold, an answer that decides the later decides all
pub decides-later : {A : Type 0} (xs ys : List Claim) (answer : Result A Refused) → AllHold xs → Decides ys answer → Decides (xs ++ ys) answer
decides-later xs ys (Ok a) h g = AllHold-append xs ys h g
decides-later xs ys (Err r) h g = refused-later xs ys r h g

-- a refusal that `?` hands on
pub handed-on : {A : Type 0} (claims : List Claim) (r : Refused) (answer : Result A Refused) → IsErr answer × IsErrAnd answer (λ e. e ≡ r) → IsRefusal claims r → Decides claims answer
handed-on claims r (Ok a) h g = absurd h.1
handed-on claims r (Err e) h g = subst (IsRefusal claims) (sym h.1) g

pub handed-refusal : {A : Type 0} (claims : List Claim) (r : Refused) (answer : Result A Refused) → IsErr answer × IsErrAnd answer (λ e. e ≡ r) → IsRefusal claims r → IfErr answer (IsRefusal claims)
handed-refusal claims r (Ok a) h g = tt
handed-refusal claims r (Err e) h g = subst (IsRefusal claims) (sym h.1) g

-- what tests in a row answer follows by these
pub ruleset in_a_row = (refused-first, refused-later, refused-here, refused-behind, AllHold-append)

-- what follows from all claims holds where the answer is Ok
pub decided-then : {A : Type 0} (claims : List Claim) (answer : Result A Refused) (P : Type 0) → Decides claims answer → (AllHold claims → P) → OnOk answer P
decided-then claims (Ok a) P h f = f h
decided-then claims (Err r) P h f = tt

-- what holds of the value of an answer
pub IfOk-then : {A E : Type 0} (r : Result A E) (P Q : A → Type 0) → IfOk r P → ((a : A) → P a → Q a) → IfOk r Q
IfOk-then (Ok a) P Q h f = f a h
IfOk-then (Err e) P Q h f = h
