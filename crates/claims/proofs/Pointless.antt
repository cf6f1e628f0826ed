-- Claims that systems have no point, which stand one after another in a list, part by part.
use Rattle.std.proofs.Common.{◌≡◌, sym, ◌∙◌, ap, subst, ℕ, suc, ◌+◌, ◌<◌, ◌≤◌, List, [], ◌∷◌, ◌++◌, length, get_or, drop, arith}
use Rattle.std.specs.Prelude.{Result}
use Rattle.base_laws.proofs.Lists.{rest_after, there}
use Rattle.affine_form.specs.Multipliers.{FarkasMultipliers}
use Rattle.affine_form.specs.System.{AffineSystem}
use Rattle.claims.specs.Claims.{Claim, AllHold, Decides, IsRefusal}
use Rattle.claims.specs.Shown.{IsFew, IsPointless, pointless_claims}
use Rattle.claims.specs.declared.place.Step.{Step}
use Rattle.claims.specs.declared.place.Step.TheVariants.{Index}
use Rattle.claims.specs.declared.refused.Refused.{Refused}
use Rattle.claims.proofs.Found.{refused-first, decides-later}

-- the claims on systems whose multipliers stand in a list from a place on
abbrev pub claims_from : ℕ → List Step → ℕ → List AffineSystem → List FarkasMultipliers → List Claim
claims_from condition place at systems shown = pointless_claims condition place at systems (drop at shown)

-- those on one system
abbrev pub claims_on : ℕ → List Step → ℕ → AffineSystem → FarkasMultipliers → List Claim
claims_on condition place at system m =
    record { condition = 2; place = place ++ Index at ∷ []; statement = IsFew (length system.rows) }
    ∷ record { condition = condition; place = place ++ Index at ∷ []; statement = IsPointless system m } ∷ []

-- the first system's claims, and those on the others
first-from : (condition : ℕ) (place : List Step) (at : ℕ) (system : AffineSystem) (systems : List AffineSystem) (shown : List FarkasMultipliers) (m : FarkasMultipliers)
    → at < length shown → m ≡ get_or shown at m → claims_from condition place at (system ∷ systems) shown ≡ claims_on condition place at system m ++ claims_from condition place (suc at) systems shown
first-from condition place at system systems shown m below is =
    ap (λ (ms : List FarkasMultipliers). pointless_claims condition place at (system ∷ systems) ms) (rest_after shown at m below is)

-- the claims on some systems, and those on the systems after them
chunk : (condition : ℕ) (place : List Step) (at : ℕ) (xs ys : List AffineSystem) (shown : List FarkasMultipliers) → at + length xs ≤ length shown
    → claims_from condition place at (xs ++ ys) shown ≡ claims_from condition place at xs shown ++ claims_from condition place (at + length xs) ys shown
chunk condition place at [] ys shown enough = ap (λ (n : ℕ). claims_from condition place n ys shown) none where
  none : at ≡ at + 0
  none = omega arith
chunk condition place at (x ∷ xs) ys shown enough =
    let m = there shown at (omega arith) in
    let claims : List Claim = claims_on condition place at x m.0 in
    first-from condition place at x (xs ++ ys) shown m.0 (omega arith) m.1
    ∙ ap (λ (cs : List Claim). claims ++ cs) (chunk condition place (suc at) xs ys shown (omega arith))
    ∙ ap (λ (n : ℕ). claims ++ claims_from condition place (suc at) xs shown ++ claims_from condition place n ys shown) moved
    ∙ ap (λ (cs : List Claim). cs ++ claims_from condition place (at + suc (length xs)) ys shown) (sym (first-from condition place at x xs shown m.0 (omega arith) m.1)) where
      moved : suc at + length xs ≡ at + suc (length xs)
      moved = omega arith

pub chunk-stop : (condition : ℕ) (place : List Step) (at : ℕ) (xs ys : List AffineSystem) (shown : List FarkasMultipliers) (n : Refused) → at + length xs ≤ length shown
    → IsRefusal (claims_from condition place at xs shown) n → IsRefusal (claims_from condition place at (xs ++ ys) shown) n
chunk-stop condition place at xs ys shown n enough h =
    subst (λ (cs : List Claim). IsRefusal cs n) (sym (chunk condition place at xs ys shown enough))
    (refused-first (claims_from condition place at xs shown) (claims_from condition place (at + length xs) ys shown) n h)

pub chunk-go : (condition : ℕ) (place : List Step) (at next : ℕ) (xs ys : List AffineSystem) (shown : List FarkasMultipliers) (found : Result (Unit {0}) Refused) → at + length xs ≤ length shown → next ≡ at + length xs
    → AllHold (claims_from condition place at xs shown) → Decides (claims_from condition place next ys shown) found → Decides (claims_from condition place at (xs ++ ys) shown) found
chunk-go condition place at next xs ys shown found enough e h g =
    subst (λ (cs : List Claim). Decides cs found) (sym (chunk condition place at xs ys shown enough))
    (decides-later (claims_from condition place at xs shown) (claims_from condition place (at + length xs) ys shown) found h
    (subst (λ (n : ℕ). Decides (claims_from condition place n ys shown) found) e g))

-- the claims on one system, from its place on
pub one-from : (condition : ℕ) (place : List Step) (at : ℕ) (system : AffineSystem) (shown : List FarkasMultipliers) (m : FarkasMultipliers) (found : Result (Unit {0}) Refused)
    → at < length shown → m ≡ get_or shown at m → Decides (claims_on condition place at system m) found → Decides (claims_from condition place at (system ∷ []) shown) found
one-from condition place at system shown m found below is h = subst (λ (cs : List Claim). Decides cs found) (sym (first-from condition place at system [] shown m below is)) h
