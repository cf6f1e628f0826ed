-- The counts of credits, added one after another.
use Rattle.std.specs.Prelude.{ℕ, List, [], ◌∷◌, ◌++◌, length, codes}
use Rattle.iolb_model.specs.Program.{AffineProgram}
use Rattle.claims.specs.Claims.{Claim}
use Rattle.claims.specs.declared.place.Step.{Step}
use Rattle.claims.specs.declared.place.Step.TheVariants.{Key}
use Rattle.poly_tree.specs.Poly.{Quotient}
use Rattle.domain_count.specs.Count.{IsSumFrom}
use Rattle.domain_count.specs.CountClaims.{count_claims}
use Rattle.k_partition.specs.PartitionClaims.{IsAdded}
use Rattle.k_partition.specs.Term.{CreditTerm}

-- a polynomial is one and the count of a credit
abbrev pub IsWithCredit : ℕ → Quotient → CreditTerm → Quotient → Type 0
IsWithCredit parameters before credit sum = (count : Quotient) × (IsSumFrom parameters credit.nest.nest credit.count.sums count × IsAdded before count sum)

abbrev pub HasWithCredit : ℕ → Quotient → CreditTerm → Type 0
HasWithCredit parameters before credit = (sum : Quotient) × IsWithCredit parameters before credit sum

-- the claims of a credit, where this is the sum of those before
abbrev pub next_claims : AffineProgram → List Step → Quotient → CreditTerm → List Claim
next_claims program place before credit =
    count_claims program credit.nest.nest credit.count place
    ++ record { condition = 2; place = place ++ Key (codes "sums") ∷ []; statement = HasWithCredit (length program.parameters) before credit } ∷ []
