-- Places of values, step by step.
use Rattle.std.proofs.Common.{◌≡◌, ◌∙◌, sym, ap, subst, ℕ, ◌+◌, ◌<◌, List, [], ◌∷◌, ◌++◌, length, get_or, take}
use Rattle.std.proofs.lemmas.List.{take_more}
use Rattle.claims.specs.declared.place.Step.{Step}
use Rattle.json_places.specs.Values.{StandsAt, StandsBehind, opener}

-- what stands behind what a last step calls for stands where the steps lead
stands-last : (text : List ℕ) (steps : List Step) (step : Step) (place : ℕ) → StandsBehind text (opener step) place → StandsAt text (steps ++ step ∷ []) place
stands-last text [] step place stands = stands
stands-last text (first ∷ []) step place stands = stands
stands-last text (first ∷ next ∷ steps) step place stands = stands-last text (next ∷ steps) step place stands

-- a loop's step over the steps
pub stands-more : (text : List ℕ) (steps : List Step) (i : ℕ) (step : Step) (place : ℕ) → i < length steps → step ≡ get_or steps i step
    → StandsBehind text (opener step) place → StandsAt text (take (i + 1) steps) place
stands-more text steps i step place below is stands =
    subst (λ (front : List Step). StandsAt text front place) (sym (take_more steps i step below ∙ ap (λ (it : Step). take i steps ++ it ∷ []) (sym is)))
    (stands-last text (take i steps) step place stands)
