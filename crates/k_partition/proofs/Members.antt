-- Members of lists that the code holds, and what is refused at them.
use Rattle.std.proofs.Common.{◌≡◌, refl, sym, ◌∙◌, ap, subst, ℕ, ◌<◌, List, [], ◌∷◌, length, map, get_or, arith}
use Rattle.std.proofs.lemmas.List.{get_or-map, length-map}
use Rattle.reuse_paths.specs.declared.family.Credit.{Credit}
use Rattle.reuse_paths.specs.Families.{CreditedNest, credit_of}
use Rattle.k_partition.specs.Term.{CreditTerm}
use Rattle.k_partition.specs.View.{credit_term_of}

-- the credited nests
pub nests-are : (credits : List Credit) → map (λ (credit : CreditTerm). credit.nest) (map credit_term_of credits) ≡ map credit_of credits
nests-are [] = refl
nests-are (credit ∷ credits) = ap (λ (nests : List CreditedNest). credit_of credit ∷ nests) (nests-are credits)

-- a member of a list, by the list that the code holds
pub member-of : {X Y : Type 0} (f : X → Y) (held xs : List X) (i : ℕ) (x : X) → held ≡ xs → i < length held → x ≡ get_or held i x
    → (i < length (map f xs)) × (f x ≡ get_or (map f xs) i (f x))
member-of {X = X} f held xs i x same below is =
    subst (λ (l : List X). (i < length (map f l)) × (f x ≡ get_or (map f l) i (f x))) same
    (omega (arith, below, length-map held f), ap f is ∙ sym (get_or-map f held i x (f x) below))
