-- The weights of the sets in which a coordinate lies, added up, of anything that has a set of coordinates and a weight.
use Rattle.std.proofs.Common.{◌≡◌, ap, ℕ, ◌+◌, ◌≤◌, ◌<◌, List, [], ◌∷◌, drop, get_or, length, map, sum_by, refl, sym, ◌∙◌, arith}
use Rattle.std.specs.Prelude.{Bool, true, false, cond}
use Rattle.std.proofs.lemmas.List.Sums.{sum_by-cons, sum_by-drop_more}
use Rattle.iolb_model.specs.Game.{stands_in}
use Rattle.reuse_paths.specs.declared.family.Family.{Family}
use Rattle.reuse_paths.specs.Families.{FamilyForms, family_of}

-- the weight of one where a coordinate lies in its set, and else 0
abbrev pub weight_in : {F : Type 0} → (F → List ℕ) → (F → ℕ) → ℕ → F → ℕ
weight_in set weight coordinate one = cond (stands_in (set one) coordinate) (weight one) 0

-- it is at most the whole weight
within : (b : Bool) (n : ℕ) → cond b n 0 ≤ n
within true n = omega arith
within false n = omega arith

pub weights-within : {F : Type 0} (set : F → List ℕ) (weight : F → ℕ) (coordinate : ℕ) (all : List F) → sum_by (weight_in set weight coordinate) all ≤ sum_by weight all
weights-within set weight coordinate [] = omega arith
weights-within set weight coordinate (one ∷ all) =
    omega (arith, sum_by-cons (weight_in set weight coordinate) one all, sum_by-cons weight one all, within (stands_in (set one) coordinate) (weight one), weights-within set weight coordinate all)

-- one more of a list
pub weights-next : {F : Type 0} (set : F → List ℕ) (weight : F → ℕ) (coordinate : ℕ) (all : List F) (i : ℕ) (one : F) (sum next total : ℕ) → i < length all → one ≡ get_or all i one
    → next ≡ sum + weight_in set weight coordinate one → sum + sum_by (weight_in set weight coordinate) (drop i all) ≡ total
    → next + sum_by (weight_in set weight coordinate) (drop (i + 1) all) ≡ total
weights-next set weight coordinate all i one sum next total below is e h =
    omega (arith, e, h, sum_by-drop_more (weight_in set weight coordinate) all i one below, ap (weight_in set weight coordinate) is)

pub weight-where : {F : Type 0} (set : F → List ℕ) (weight : F → ℕ) (coordinate : ℕ) (one : F) (b : Bool) → b ≡ stands_in (set one) coordinate
    → cond b (weight one) 0 ≡ weight_in set weight coordinate one
weight-where set weight coordinate one b is = ap (λ (x : Bool). cond x (weight one) 0) is

-- the families that the code holds weigh what is said of them
pub weight-of-code : (families : List Family) → sum_by (λ (f : FamilyForms). f.weight) (map family_of families) ≡ sum_by (λ (f : Family). f.weight) families
weight-of-code [] = refl
weight-of-code (family ∷ families) =
    sum_by-cons (λ (f : FamilyForms). f.weight) (family_of family) (map family_of families) ∙ ap (λ (n : ℕ). family.weight + n) (weight-of-code families)
    ∙ sym (sum_by-cons (λ (f : Family). f.weight) family families)
