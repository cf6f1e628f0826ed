-- Refusals of systems whose claims stand in a list from the start, and the same further on.
use Rattle.std.proofs.Common.{◌≡◌, sym, ◌∙◌, subst, inl, inr, ℕ, suc, ◌+◌, ◌<◌, ◌≤◌, ◌^◌, List, [], ◌∷◌, ◌++◌, length, arith}
use Rattle.affine_form.specs.Multipliers.{FarkasMultipliers}
use Rattle.affine_form.specs.System.{AffineSystem}
use Rattle.claims.specs.Claims.{AllHold, FirstFails, IsRefusal}
use Rattle.claims.specs.Shown.{pointless_claims}
use Rattle.claims.specs.declared.place.Step.{Step}
use Rattle.claims.specs.declared.place.Step.TheVariants.{Index}
use Rattle.claims.specs.declared.refused.FailedCondition.{FailedCondition}
use Rattle.claims.specs.declared.refused.Refused.{Refused}
use Rattle.claims.specs.declared.refused.Refused.TheVariants.{Failed, Memory}
use Rattle.store_bound.specs.Moved.{IsAtMember, IsMoved}

module _ (condition : ℕ) (list : List Step) where
  -- the claim that fails stands at the member of some system
  at-member : (from : ℕ) (systems : List AffineSystem) (shown : List FarkasMultipliers) (failed : FailedCondition) → FirstFails (pointless_claims condition list from systems shown) failed
      → (index : ℕ) × ((failed.place ≡ list ++ Index index ∷ []) × (index < from + length systems))
  at-member from [] shown failed h = absurd h
  at-member from (system ∷ systems) [] failed h = absurd h
  at-member from (system ∷ systems) (m ∷ shown) failed (inl few) = (from, (sym few.2, omega arith))
  at-member from (system ∷ systems) (m ∷ shown) failed (inr (few, inl none)) = (from, (sym none.2, omega arith))
  at-member from (system ∷ systems) (m ∷ shown) failed (inr (few, inr (none, later))) =
      let found = at-member (suc from) systems shown failed later in (found.0, (found.1.0, omega (arith, found.1.1)))

  -- it fails further on
  further : (first from : ℕ) (systems : List AffineSystem) (shown : List FarkasMultipliers) (failed moved : FailedCondition) → moved.condition ≡ failed.condition
      → ((index : ℕ) → failed.place ≡ list ++ Index index ∷ [] → moved.place ≡ list ++ Index (first + index) ∷ [])
      → FirstFails (pointless_claims condition list from systems shown) failed → FirstFails (pointless_claims condition list (first + from) systems shown) moved
  further first from [] shown failed moved e f h = absurd h
  further first from (system ∷ systems) [] failed moved e f h = absurd h
  further first from (system ∷ systems) (m ∷ shown) failed moved e f (inl few) = inl (few.0, few.1 ∙ sym e, sym (f from (sym few.2)))
  further first from (system ∷ systems) (m ∷ shown) failed moved e f (inr (few, inl none)) = inr (few, inl (none.0, none.1 ∙ sym e, sym (f from (sym none.2))))
  further first from (system ∷ systems) (m ∷ shown) failed moved e f (inr (few, inr (none, later))) =
      inr (few, inr (none, subst (λ (n : ℕ). FirstFails (pointless_claims condition list n systems shown) moved) (next first from) (further first (suc from) systems shown failed moved e f later))) where
        next : (a b : ℕ) → a + suc b ≡ suc (a + b)
        next a b = omega arith

  pub is-at-member : (first : ℕ) (systems : List AffineSystem) (shown : List FarkasMultipliers) (r : Refused) → first + length systems ≤ 2 ^ 64 → IsRefusal (pointless_claims condition list 0 systems shown) r
      → IsAtMember list first r
  is-at-member first systems shown (Failed failed) few h = let found = at-member 0 systems shown failed h in (found.0, (found.1.0, omega (arith, found.1.1, few)))
  is-at-member first systems shown Memory few h = tt

  pub moved-refused : (first : ℕ) (systems : List AffineSystem) (shown : List FarkasMultipliers) (r moved : Refused) → IsMoved list first r moved → IsRefusal (pointless_claims condition list 0 systems shown) r
      → IsRefusal (pointless_claims condition list first systems shown) moved
  moved-refused first systems shown (Failed failed) (Failed moved) is h =
      subst (λ (n : ℕ). FirstFails (pointless_claims condition list n systems shown) moved) (none first) (further first 0 systems shown failed moved is.0 is.1 h) where
        none : (a : ℕ) → a + 0 ≡ a
        none a = omega arith
  moved-refused first systems shown (Failed failed) Memory is h = tt
  moved-refused first systems shown Memory moved is h = subst (IsRefusal (pointless_claims condition list first systems shown)) (sym is) tt

  -- that the claims hold doesn't depend on where they stand
  pub held-further : (first from : ℕ) (systems : List AffineSystem) (shown : List FarkasMultipliers) → AllHold (pointless_claims condition list from systems shown) → AllHold (pointless_claims condition list first systems shown)
  held-further first from [] shown h = tt
  held-further first from (system ∷ systems) [] h = tt
  held-further first from (system ∷ systems) (m ∷ shown) h = (h.0, (h.1.0, held-further (suc first) (suc from) systems shown h.1.1))
