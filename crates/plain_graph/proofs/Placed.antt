-- Instances with their places, one after the other.
use Rattle.std.proofs.Common.{◌≡◌, sym, ◌∙◌, ap, subst, ◌+◌, ◌<◌, ◌≤◌, ℕ, List, [], ◌∷◌, ◌++◌, map, length, take, drop, get_or, arith}
use Rattle.std.specs.Prelude.{flat_map}
use Rattle.std.proofs.lemmas.List.{map_more, take_all, drop_more, drop_all, append_assoc, append-nil}
use Rattle.std.proofs.lemmas.List.FromFn.{length-enumerate_from, get_or-enumerate_from}
use Rattle.iolb_model.specs.Execution.{Instance as ModelInstance}
use Rattle.iolb_model.specs.Graph.{placed}
use Rattle.plain_graph.specs.Views.{no_instance}

-- the instance at a place, with the place
abbrev pub at_place : List ModelInstance → ℕ → ℕ × ModelInstance
at_place runs place = (place, get_or runs place no_instance)

placed_at : (runs : List ModelInstance) (place : ℕ) → place < length runs → get_or (placed runs) place (0, no_instance) ≡ at_place runs place
placed_at runs place below = get_or-enumerate_from 0 runs place (0, no_instance) below ∙ ap (λ (n : ℕ). (n, get_or runs place no_instance)) (zero_more place) where
  zero_more : (n : ℕ) → 0 + n ≡ n
  zero_more n = omega (arith)

placed_below : (runs : List ModelInstance) (place : ℕ) → place < length runs → place < length (placed runs)
placed_below runs place below = subst (λ (n : ℕ). place < n) (sym (length-enumerate_from 0 runs)) below

-- one answer more
pub pushed : {B : Type 0} (f : ℕ × ModelInstance → B) (runs : List ModelInstance) (place : ℕ) (found new : List B) (x : B) → place < length runs
    → new ≡ found ++ x ∷ [] → found ≡ map f (take place (placed runs)) → x ≡ f (at_place runs place) → new ≡ map f (take (place + 1) (placed runs))
pushed f runs place found new x below e g h =
    e ∙ ap (λ ys. ys ++ x ∷ []) g ∙ ap (λ y. map f (take place (placed runs)) ++ y ∷ []) h
    ∙ ap (λ (y : ℕ × ModelInstance). map f (take place (placed runs)) ++ f y ∷ []) (sym (placed_at runs place below))
    ∙ sym (map_more f (placed runs) place (0, no_instance) (placed_below runs place below))

-- all answers
pub all_pushed : {B : Type 0} (f : ℕ × ModelInstance → B) (runs : List ModelInstance) (place : ℕ) (found : List B) → length runs ≤ place
    → found ≡ map f (take place (placed runs)) → found ≡ map f (placed runs)
all_pushed f runs place found past g = g ∙ ap (map f) (take_all place (placed runs) (subst (λ (n : ℕ). n ≤ place) (sym (length-enumerate_from 0 runs)) past))

-- the answers of one instance more
pub appended : {B : Type 0} (f : ℕ × ModelInstance → List B) (runs : List ModelInstance) (place : ℕ) (found new more whole : List B) → place < length runs
    → new ≡ found ++ more → more ≡ f (at_place runs place) → found ++ flat_map f (drop place (placed runs)) ≡ whole → new ++ flat_map f (drop (place + 1) (placed runs)) ≡ whole
appended f runs place found new more whole below e g h =
    ap (λ ys. ys ++ flat_map f (drop (place + 1) (placed runs))) e
    ∙ append_assoc found more (flat_map f (drop (place + 1) (placed runs)))
    ∙ ap (λ ys. found ++ (ys ++ flat_map f (drop (place + 1) (placed runs)))) (g ∙ ap f (sym (placed_at runs place below)))
    ∙ ap (λ (ys : List (ℕ × ModelInstance)). found ++ flat_map f ys) (sym (drop_more (placed runs) place (0, no_instance) (placed_below runs place below)))
    ∙ h

pub all_appended : {B : Type 0} (f : ℕ × ModelInstance → List B) (runs : List ModelInstance) (place : ℕ) (found whole : List B) → length runs ≤ place
    → found ++ flat_map f (drop place (placed runs)) ≡ whole → found ≡ whole
all_appended f runs place found whole past h =
    sym (append-nil found) ∙ ap (λ (ys : List (ℕ × ModelInstance)). found ++ flat_map f ys) (sym (drop_all place (placed runs) (subst (λ (n : ℕ). n ≤ place) (sym (length-enumerate_from 0 runs)) past))) ∙ h
