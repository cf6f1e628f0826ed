-- The counts of parts, added one after another, and what is claimed of a part beside them.
use Rattle.std.specs.Prelude.{◌⊎◌, codes}
use Rattle.std.proofs.Common.{◌≡◌, refl, sym, ◌∙◌, subst, inl, inr, ℕ, suc, ◌<◌, List, [], ◌∷◌, ◌++◌, get_or, length, map, take}
use Rattle.std.proofs.lemmas.List.{take-map}
use Rattle.iolb_model.specs.Program.{AffineProgram}
use Rattle.claims.specs.Claims.{Claim, AllHold, FirstFails, IsRefusal}
use Rattle.claims.specs.declared.place.Step.{Step}
use Rattle.claims.specs.declared.place.Step.TheVariants.{Key}
use Rattle.claims.specs.declared.refused.FailedCondition.{FailedCondition}
use Rattle.claims.specs.declared.refused.Refused.{Refused}
use Rattle.claims.specs.declared.refused.Refused.TheVariants.{Failed as not_so, Memory}
use Rattle.claims.proofs.Laws.{AllHold-append, AllHold-left, AllHold-right, first-fails, later-fails}
use Rattle.domain_count.specs.CountClaims.{count_claims}
use Rattle.poly_tree.specs.Poly.{Quotient}
use Rattle.k_partition.specs.CreditSums.{next_claims, HasWithCredit, IsWithCredit}
use Rattle.k_partition.specs.PartitionClaims.{no_points, IsCreditsTotal, HasCreditsTotal}
use Rattle.k_partition.proofs.CreditSums.{has-next, total-next}
use Rattle.k_partition.proofs.Members.{member-of}
use Rattle.joint_partition.specs.Claims.{count_of, inside_claims, member_at, part_claims, total_claim, unit_claims}
use Rattle.joint_partition.specs.Term.{PartTerm}

-- ---- claims said otherwise

-- what fails first in two lists fails in the first, or in the second where the first holds
which : (xs ys : List Claim) (n : FailedCondition) → FirstFails (xs ++ ys) n → FirstFails xs n ⊎ (AllHold xs × FirstFails ys n)
which [] ys n f = inr (tt, f)
which (x ∷ xs) ys n (inl f) = inl (inl f)
which (x ∷ xs) ys n (inr f) = elim (which xs ys n f.1) [
  | inl g ↦ inl (inr (f.0, g))
  | inr g ↦ inr ((f.0, g.0), g.1)
]

-- what holds of some claims, and fails first in them, does so of others
abbrev Carries : List Claim → List Claim → Type 0
Carries xs ys = ((n : FailedCondition) → FirstFails xs n → FirstFails ys n) × (AllHold xs → AllHold ys)

carries-one : (one other : Claim) → one.condition ≡ other.condition → one.place ≡ other.place → (one.statement → other.statement) → (other.statement → one.statement)
    → Carries (one ∷ []) (other ∷ [])
carries-one one other e p to back = (fails, λ h. (to h.0, tt)) where
  fails : (n : FailedCondition) → FirstFails (one ∷ []) n → FirstFails (other ∷ []) n
  fails n (inl f) = inl ((λ s. f.0 (back s)), sym e ∙ f.1, sym p ∙ f.2)
  fails n (inr f) = absurd f.1

carries-behind : (before xs ys : List Claim) → Carries xs ys → Carries (before ++ xs) (before ++ ys)
carries-behind before xs ys c = (
  λ n f. elim (which before xs n f) [
    | inl g ↦ first-fails before ys n g
    | inr g ↦ later-fails before ys n g.0 (c.0 n g.1)
  ],
  λ h. AllHold-append before ys (AllHold-left before xs h) (c.1 (AllHold-right before xs h)),
)

carries-more : (xs ys later : List Claim) → Carries xs ys → Carries (xs ++ later) (ys ++ later)
carries-more xs ys later c = (
  λ n f. elim (which xs later n f) [
    | inl g ↦ first-fails ys later n (c.0 n g)
    | inr g ↦ later-fails ys later n (c.1 g.0) g.1
  ],
  λ h. AllHold-append ys later (c.1 (AllHold-left xs later h)) (AllHold-right xs later h),
)

-- ---- a part behind others

module _ (program : AffineProgram) (place : List Step) (parts : List PartTerm) (i : ℕ) (part : PartTerm) (total : Quotient) (below : i < length parts) (is : part ≡ get_or parts i part)
    (before : IsCreditsTotal (length program.parameters) no_points (take i (map count_of parts)) total) where
  abbrev here : List Step
  here = member_at place (codes "parts") i

  there : (i < length (map count_of parts)) × (count_of part ≡ get_or (map count_of parts) i (count_of part))
  there = member-of count_of parts parts i part refl below is

  -- the total of one part more
  pub part-next : (sum : Quotient) → IsWithCredit (length program.parameters) total (count_of part) sum → IsCreditsTotal (length program.parameters) no_points (take (suc i) (map count_of parts)) sum
  part-next sum next = total-next program place (map count_of parts) i (count_of part) total there.0 there.1 before sum next

  to : HasWithCredit (length program.parameters) total (count_of part) → HasCreditsTotal (length program.parameters) (map count_of (take (suc i) parts))
  to h = subst (HasCreditsTotal (length program.parameters)) (take-map count_of (suc i) parts) (h.0, part-next h.0 h.1)

  back : HasCreditsTotal (length program.parameters) (map count_of (take (suc i) parts)) → HasWithCredit (length program.parameters) total (count_of part)
  back h = has-next program place (map count_of parts) i (count_of part) total there.0 there.1 before (subst (HasCreditsTotal (length program.parameters)) (sym (take-map count_of (suc i) parts)) h)

  abbrev one : Claim
  one = record { condition = 2; place = here ++ Key (codes "sums") ∷ []; statement = HasWithCredit (length program.parameters) total (count_of part) }

  abbrev other : Claim
  other = record { condition = 2; place = here ++ Key (codes "sums") ∷ []; statement = HasCreditsTotal (length program.parameters) (map count_of (take (suc i) parts)) }

  -- the claims of a part, by those beside the sum of the parts before
  carried : Carries (next_claims program here total (count_of part) ++ inside_claims program here part ++ unit_claims program here part) (part_claims program place parts i part)
  carried =
      carries-more (next_claims program here total (count_of part) ++ inside_claims program here part)
      (count_claims program part.nest part.count here ++ total_claim program here parts i ++ inside_claims program here part) (unit_claims program here part)
      (carries-more (next_claims program here total (count_of part)) (count_claims program part.nest part.count here ++ total_claim program here parts i) (inside_claims program here part)
      (carries-behind (count_claims program part.nest part.count here) (one ∷ []) (other ∷ []) (carries-one one other refl refl to back)))

  pub part-refused : (r : Refused) → IsRefusal (next_claims program here total (count_of part) ++ inside_claims program here part ++ unit_claims program here part) r
      → IsRefusal (part_claims program place parts i part) r
  part-refused (not_so n) h = carried.0 n h
  part-refused Memory h = tt

  pub part-holds : AllHold (next_claims program here total (count_of part) ++ inside_claims program here part ++ unit_claims program here part) → AllHold (part_claims program place parts i part)
  part-holds h = carried.1 h
