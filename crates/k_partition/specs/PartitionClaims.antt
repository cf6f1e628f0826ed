-- What a partition term claims, in the order in which it is tested.
use Rattle.std.specs.Prelude.{◌≡◌, ℕ, suc, ◌+◌, ◌*◌, ◌<◌, ◌≤◌, cond, List, [], ◌∷◌, ◌++◌, map, take, length, pos, sum_by, codes}
use Rattle.iolb_model.specs.Form.{AffineForm}
use Rattle.iolb_model.specs.Game.{stands_in}
use Rattle.iolb_model.specs.Program.{AffineProgram}
use Rattle.execution_laws.specs.Inverse.{product_entry, scaled_entry}
use Rattle.claims.specs.Claims.{Claim, numbered, counted}
use Rattle.claims.specs.declared.place.Step.{Step}
use Rattle.claims.specs.declared.place.Step.TheVariants.{Key, Index}
use Rattle.reuse_paths.specs.MatrixRows.{matrix_rows}
use Rattle.affine_form.specs.Rows.{variables_from}
use Rattle.affine_program.specs.Domain.{domain_rows}
use Rattle.poly_tree.specs.Poly.{Quotient, IsLegal, IsSumOf, size}
use Rattle.poly_tree.specs.Expansion.{number}
use Rattle.claims.specs.Shown.{follow_claims, pointless_claims}
use Rattle.dep_quast.specs.Context.{parameter_point}
use Rattle.dep_quast.specs.Tree.{SelectionTree}
use Rattle.domain_count.specs.Count.{rows_before, IsSumFrom}
use Rattle.domain_count.specs.CountClaims.{count_claims}
use Rattle.footprint_pieces.specs.DisjointClaims.{pairwise_systems}
use Rattle.reuse_paths.specs.Families.{FamilyForms}
use Rattle.reuse_paths.specs.FamilyClaims.{family_claims}
use Rattle.reuse_paths.specs.FamilyPieces.{family_pieces}
use Rattle.footprint_pieces.specs.Pieces.{FootprintPiece}
use Rattle.k_partition.specs.declared.term.Shape.{Shape}
use Rattle.k_partition.specs.declared.term.Shape.TheVariants.{Each, Sum}
use Rattle.k_partition.specs.Term.{CreditTerm, PartitionTerm, credited_nests}
use Rattle.iolb_model.specs.declared.limits.TheConstants.{SUM_MEASURE}

-- ---- that the points are instances (condition 10)

abbrev pub inside_goals : AffineProgram → PartitionTerm → List AffineForm
inside_goals program term =
    let vars = length program.parameters + length term.nest in
    domain_rows program term.statement vars (parameter_point program vars) (variables_from vars (length program.parameters) (length term.nest))

abbrev pub inside_claims : AffineProgram → List Step → PartitionTerm → List Claim
inside_claims program place term = follow_claims 10 (place ++ Key (codes "inside") ∷ []) (rows_before program term.nest) 0 (inside_goals program term) term.inside

-- ---- how many points the credited nests have (conditions 8 and 9), added up (condition 2)

-- a polynomial is the sum of two, whose measures are within the limits
pub record IsAdded (before count sum : Quotient) : Type 0 where
  pub legal : IsLegal sum
  pub is : IsSumOf before count sum
  pub small : size before * size count < SUM_MEASURE

abbrev pub no_points : Quotient
no_points = record { tree = number (pos 0); denominator = 1 }

-- a polynomial is one and the counts of credits, added one after another
abbrev pub IsCreditsTotal : ℕ → Quotient → List CreditTerm → Quotient → Type 0
IsCreditsTotal parameters before [] total = total ≡ before
IsCreditsTotal parameters before (credit ∷ credits) total =
    (count : Quotient) × (IsSumFrom parameters credit.nest.nest credit.count.sums count × ((sum : Quotient) × (IsAdded before count sum × IsCreditsTotal parameters sum credits total)))

abbrev pub HasCreditsTotal : ℕ → List CreditTerm → Type 0
HasCreditsTotal parameters credits = (total : Quotient) × IsCreditsTotal parameters no_points credits total

abbrev pub credit_place : List Step → ℕ → List Step
credit_place place index = place ++ Key (codes "credits") ∷ Index index ∷ []

-- the claims of a credit: of its count, and that there is the sum of it and those before
abbrev pub credit_claims : AffineProgram → List Step → List CreditTerm → ℕ → CreditTerm → List Claim
credit_claims program place credits index credit =
    count_claims program credit.nest.nest credit.count (credit_place place index)
    ++ record { condition = 2; place = credit_place place index ++ Key (codes "sums") ∷ []; statement = HasCreditsTotal (length program.parameters) (take (suc index) credits) } ∷ []

-- ---- that the matrix has this inverse (condition 16), and that the sets cover each coordinate (condition 17)

abbrev pub unit_claim : List Step → PartitionTerm → ℕ → ℕ → List Claim
unit_claim place term row column = record {
  condition = 16;
  place = place ++ Key (codes "inverse") ∷ Index row ∷ Index column ∷ [];
  statement = product_entry (matrix_rows term.inverse) (matrix_rows term.matrix) row column ≡ scaled_entry 1 row column;
} ∷ []

abbrev pub unit_claims : List Step → PartitionTerm → List Claim
unit_claims place term = counted (λ row. counted (unit_claim place term row) 0 (length term.nest)) 0 (length term.nest)

-- the weights of the sets in which a coordinate lies
abbrev pub weight_at : List FamilyForms → ℕ → ℕ
weight_at families coordinate = sum_by (λ (family : FamilyForms). cond (stands_in family.set coordinate) family.weight 0) families

abbrev pub cover_claim : List Step → PartitionTerm → ℕ → List Claim
cover_claim place term coordinate =
    record { condition = 17; place = place ++ Key (codes "matrix") ∷ Index coordinate ∷ []; statement = term.q ≤ weight_at term.families coordinate } ∷ []

abbrev pub cover_claims : List Step → PartitionTerm → List Claim
cover_claims place term = counted (cover_claim place term) 0 (length term.nest)

-- ---- the families (conditions 13, 15 and 14), and that no two have a word in common (condition 18)

abbrev pub family_claims_at : AffineProgram → List (List SelectionTree) → List Step → PartitionTerm → ℕ → FamilyForms → List Claim
family_claims_at program trees place term index family =
    family_claims program trees term.statement term.nest term.matrix (credited_nests term) family (place ++ Key (codes "families") ∷ Index index ∷ [])

-- the pieces of each family
abbrev pub pieces_of_families : AffineProgram → List (List SelectionTree) → PartitionTerm → List (List FootprintPiece)
pieces_of_families program trees term = map (family_pieces program trees term.statement term.nest) term.families

abbrev pub apart_claims : Shape → AffineProgram → List (List SelectionTree) → List Step → PartitionTerm → List Claim
apart_claims Each program trees place term = []
apart_claims Sum program trees place term = pointless_claims 18 (place ++ Key (codes "apart") ∷ []) 0 (pairwise_systems program (pieces_of_families program trees term)) term.apart

-- ---- all

-- what is claimed of the points and of the credited nests
abbrev pub point_claims : AffineProgram → List Step → PartitionTerm → List Claim
point_claims program place term = inside_claims program place term ++ numbered (credit_claims program place term.credits) 0 term.credits

-- What makes a partition term sound: how many points its nest has, and that these are instances; the credited nests; the
-- inverse and the cover; then family by family.
abbrev pub sound_claims : AffineProgram → List (List SelectionTree) → List Step → PartitionTerm → List Claim
sound_claims program trees place term =
    count_claims program term.nest term.count place ++ point_claims program place term ++ (unit_claims place term ++ cover_claims place term)
    ++ numbered (family_claims_at program trees place term) 0 term.families

-- What a partition term claims: this, and that the families' footprints are apart.
abbrev pub partition_claims : AffineProgram → List (List SelectionTree) → List Step → PartitionTerm → List Claim
partition_claims program trees place term = sound_claims program trees place term ++ apart_claims term.shape program trees place term
