-- What is found of the claims of a test's two sides that their rows are few.
use Rattle.std.specs.Prelude.{codes}
use Rattle.std.proofs.Common.{◌≡◌, sym, subst, ℕ, List, [], ◌∷◌, ◌++◌}
use Rattle.iolb_model.specs.Form.{AffineForm}
use Rattle.claims.specs.Claims.{Claim, AllHold, IsRefusal}
use Rattle.claims.specs.declared.place.Step.{Step}
use Rattle.claims.specs.declared.place.Step.TheVariants.{Key}
use Rattle.claims.specs.declared.refused.Refused.{Refused}
use Rattle.claims.proofs.Found.{refused-first, refused-later}
use Rattle.claims.proofs.Laws.{AllHold-append}
use Rattle.dep_quast.specs.Context.{no_row}
use Rattle.reuse_paths.specs.FewContexts.{few_walk}
use Rattle.reuse_paths.specs.WalkSettings.{WalkSetting, region_variables}
use Rattle.reuse_paths.specs.Walks.{WalkTree, test, tree_of_walk}
use Rattle.reuse_paths.specs.declared.walk.Walk.{Walk}

module _ (walk : WalkSetting) (statement : ℕ) (P : List Claim → Type 0) where
  moved : (rows others : List AffineForm) (place other : List Step) (tree same : WalkTree) → rows ≡ others → place ≡ other → tree ≡ same
      → P (few_walk walk statement place rows tree) → P (few_walk walk statement other others same)
  moved rows others place other tree same e d f h =
      subst (λ (x : WalkTree). P (few_walk walk statement other others x)) f
      (subst (λ (p : List Step). P (few_walk walk statement p others tree)) d (subst (λ (rs : List AffineForm). P (few_walk walk statement place rs tree)) e h))

module _ (walk : WalkSetting) (statement : ℕ) (rows : List AffineForm) (place : List Step) (form : AffineForm) (upper below : Walk) (above under : List AffineForm) (side other : List Step)
    (whole lent last : Walk) (is : tree_of_walk whole ≡ test form (tree_of_walk upper) (tree_of_walk below)) (first-lent : tree_of_walk lent ≡ tree_of_walk upper)
    (above-is : above ≡ rows ++ form ∷ []) (side-is : side ≡ place ++ Key (codes "yes") ∷ []) where
  abbrev first : List Claim
  first = few_walk walk statement (place ++ Key (codes "yes") ∷ []) (rows ++ form ∷ []) (tree_of_walk upper)

  abbrev second : List Claim
  second = few_walk walk statement (place ++ Key (codes "no") ∷ []) (rows ++ no_row (region_variables walk statement) form ∷ []) (tree_of_walk below)

  abbrev all : List Claim
  all = few_walk walk statement place rows (tree_of_walk whole)

  -- a refusal on the first side
  pub few-first : (r : Refused) → IsRefusal (few_walk walk statement side above (tree_of_walk lent)) r → IsRefusal all r
  few-first r h =
      subst (λ (x : WalkTree). IsRefusal (few_walk walk statement place rows x) r) (sym is)
      (refused-first first second r (moved walk statement (λ (cs : List Claim). IsRefusal cs r) above (rows ++ form ∷ []) side (place ++ Key (codes "yes") ∷ []) (tree_of_walk lent) (tree_of_walk upper) above-is side-is first-lent h))

  module _ (last-lent : tree_of_walk last ≡ tree_of_walk below) (under-is : under ≡ rows ++ no_row (region_variables walk statement) form ∷ []) (other-is : other ≡ place ++ Key (codes "no") ∷ [])
      (holds : AllHold (few_walk walk statement side above (tree_of_walk lent))) where
    hold : AllHold first
    hold = moved walk statement AllHold above (rows ++ form ∷ []) side (place ++ Key (codes "yes") ∷ []) (tree_of_walk lent) (tree_of_walk upper) above-is side-is first-lent holds

    -- one on the second
    pub few-second : (r : Refused) → IsRefusal (few_walk walk statement other under (tree_of_walk last)) r → IsRefusal all r
    few-second r h =
        subst (λ (x : WalkTree). IsRefusal (few_walk walk statement place rows x) r) (sym is)
        (refused-later first second r hold
        (moved walk statement (λ (cs : List Claim). IsRefusal cs r) under (rows ++ no_row (region_variables walk statement) form ∷ []) other (place ++ Key (codes "no") ∷ []) (tree_of_walk last) (tree_of_walk below) under-is other-is last-lent h))

    -- none on either
    pub few-both : AllHold (few_walk walk statement other under (tree_of_walk last)) → AllHold all
    few-both h =
        subst (λ (x : WalkTree). AllHold (few_walk walk statement place rows x)) (sym is)
        (AllHold-append first second hold
        (moved walk statement AllHold under (rows ++ no_row (region_variables walk statement) form ∷ []) other (place ++ Key (codes "no") ∷ []) (tree_of_walk last) (tree_of_walk below) under-is other-is last-lent h))
