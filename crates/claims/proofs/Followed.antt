-- The claims that goals follow, goal by goal.
use Rattle.std.proofs.Common.{◌≡◌, sym, ◌∙◌, ap, subst, ℕ, ◌+◌, ◌<◌, List, [], ◌∷◌, ◌++◌, length, get_or, drop, arith}
use Rattle.std.specs.Prelude.{Result}
use Rattle.base_laws.proofs.Lists.{rest_at, add-one}
use Rattle.iolb_model.specs.Form.{AffineForm}
use Rattle.claims.specs.declared.place.Step.{Step}
use Rattle.claims.specs.declared.place.Step.TheVariants.{Index}
use Rattle.claims.specs.declared.refused.Refused.{Refused}
use Rattle.affine_form.specs.Multipliers.{FarkasMultipliers}
use Rattle.affine_form.specs.System.{AffineSystem}
use Rattle.claims.specs.Claims.{Claim, Decides, IsRefusal, IsRefusalAt}
use Rattle.claims.proofs.Found.{refused-here, decides-later}
use Rattle.claims.specs.Shown.{Follows, follow_claims}

-- the claims on goals from a place on: that on the goal there, and those from the next place on
goals-from : (condition : ℕ) (place : List Step) (system : AffineSystem) (goals : List AffineForm) (shown : List FarkasMultipliers) (i : ℕ) (goal : AffineForm) (m : FarkasMultipliers)
    → i < length goals → length shown ≡ length goals → goal ≡ get_or goals i goal → m ≡ get_or shown i m
    → follow_claims condition place system i (drop i goals) (drop i shown)
    ≡ record { condition = condition; place = place ++ Index i ∷ []; statement = Follows system goal m } ∷ follow_claims condition place system (i + 1) (drop (i + 1) goals) (drop (i + 1) shown)
goals-from condition place system goals shown i goal m below same is is_m =
    ap (λ (xs : List AffineForm). follow_claims condition place system i xs (drop i shown)) (rest_at goals i goal below is)
    ∙ ap (λ (ms : List FarkasMultipliers). follow_claims condition place system i (goal ∷ drop (i + 1) goals) ms) (rest_at shown i m (omega arith) is_m)
    ∙ ap (λ (n : ℕ). record { condition = condition; place = place ++ Index i ∷ []; statement = Follows system goal m } ∷ follow_claims condition place system n (drop (i + 1) goals) (drop (i + 1) shown)) (add-one i)

module _ (condition : ℕ) (place : List Step) (system : AffineSystem) (goals : List AffineForm) (shown : List FarkasMultipliers) (i : ℕ) (goal : AffineForm) (m : FarkasMultipliers)
    (below : i < length goals) (same : length shown ≡ length goals) (is : goal ≡ get_or goals i goal) (is_m : m ≡ get_or shown i m) where
  here : Claim
  here = record { condition = condition; place = place ++ Index i ∷ []; statement = Follows system goal m }

  behind : List Claim
  behind = follow_claims condition place system (i + 1) (drop (i + 1) goals) (drop (i + 1) shown)

  -- the goal there doesn't follow
  pub goals-fail : (r : Refused) → (Follows system goal m → ⊥) → IsRefusalAt condition (place ++ Index i ∷ []) r → IsRefusal (follow_claims condition place system i (drop i goals) (drop i shown)) r
  unfolding here behind
  goals-fail r fails at =
      subst (λ (cs : List Claim). IsRefusal cs r) (sym (goals-from condition place system goals shown i goal m below same is is_m)) (refused-here here behind r fails at)

  -- it does
  pub goals-next : (answer : Result (Unit {0}) Refused) → Follows system goal m → Decides (follow_claims condition place system (i + 1) (drop (i + 1) goals) (drop (i + 1) shown)) answer
      → Decides (follow_claims condition place system i (drop i goals) (drop i shown)) answer
  unfolding here behind
  goals-next answer holds h =
      subst (λ (cs : List Claim). Decides cs answer) (sym (goals-from condition place system goals shown i goal m below same is is_m)) (decides-later (here ∷ []) behind answer (holds, tt) h)

-- the same goals at the same place
pub goals-same : (condition : ℕ) (place other : List Step) (system : AffineSystem) (goals others : List AffineForm) (shown : List FarkasMultipliers) (answer : Result (Unit {0}) Refused)
    → place ≡ other → goals ≡ others → Decides (follow_claims condition place system 0 goals shown) answer → Decides (follow_claims condition other system 0 others shown) answer
goals-same condition place other system goals others shown answer e d h =
    subst (λ (p : List Step). Decides (follow_claims condition p system 0 others shown) answer) e
    (subst (λ (gs : List AffineForm). Decides (follow_claims condition place system 0 gs shown) answer) d h)
