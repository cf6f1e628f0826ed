-- What is asked of partition terms. A statement that isn't there counts as one without loops and reads, a read that isn't
-- there as one without leaves, and a credit that isn't there as one without variables.
use Rattle.std.specs.Prelude.{ℕ, ◌*◌, List, [], ◌∷◌, ◌++◌, length, map, codes}
use Rattle.iolb_model.specs.Program.{AffineProgram}
use Rattle.claims.specs.Claims.{Claim, numbered}
use Rattle.claims.specs.declared.place.Step.{Step}
use Rattle.claims.specs.declared.place.Step.TheVariants.{Key, Index}
use Rattle.affine_program.specs.Domain.{depth_of, domain_size}
use Rattle.dep_quast.specs.Tree.{SelectionTree}
use Rattle.k_partition.specs.declared.term.Shape.{Shape}
use Rattle.k_partition.specs.declared.term.Shape.TheVariants.{Each, Sum}
use Rattle.k_partition.specs.Term.{CreditTerm, PartitionTerm, credited_nests}
use Rattle.reuse_paths.specs.Families.{CreditedNest}
use Rattle.footprint_pieces.specs.TargetPairs.{pairwise_targets}
use Rattle.certificate_fit.specs.FamilyFit.{credit_fit, credit_nest_fit, credit_count_fit, families_fit}
use Rattle.certificate_fit.specs.PartFit.{matrix_fit, shown_fit}
use Rattle.iolb_check.specs.FamilyTargets.{family_targets}

-- ---- the families

-- how many multipliers show that no two families have a word in common: for the second shape one for each pair of their pieces
-- with one target
abbrev pub apart_count : Shape → AffineProgram → List (List SelectionTree) → PartitionTerm → ℕ
apart_count Each program trees term = 0
apart_count Sum program trees term = length (pairwise_targets (map (family_targets program trees term.statement) term.families))

abbrev pub apart_fit : AffineProgram → List (List SelectionTree) → List Step → PartitionTerm → List Claim
apart_fit program trees place term = shown_fit (apart_count term.shape program trees term) (place ++ Key (codes "apart") ∷ []) term.apart ∷ []

-- the credits
abbrev pub credit_at : AffineProgram → List Step → ℕ → CreditTerm → List Claim
credit_at program place index credit = credit_fit program (place ++ Index index ∷ []) credit.nest credit.count

abbrev pub credits_fit : AffineProgram → List Step → PartitionTerm → List Claim
credits_fit program place term = numbered (credit_at program (place ++ Key (codes "credits") ∷ [])) 0 term.credits

-- the families
abbrev pub walked_fit : AffineProgram → List (List SelectionTree) → List Step → PartitionTerm → List Claim
walked_fit program trees place term = families_fit program trees term.statement (credited_nests term) (place ++ Key (codes "families") ∷ []) term.families

-- what shows that no two families have a word in common, the credits, and the families
abbrev pub walks_fit : AffineProgram → List (List SelectionTree) → List Step → PartitionTerm → List Claim
walks_fit program trees place term = apart_fit program trees place term ++ (credits_fit program place term ++ walked_fit program trees place term)

-- ---- the points

-- the multipliers which show that the points are instances, and the matrices: a row and a column for each loop
abbrev pub coordinates_fit : AffineProgram → PartitionTerm → List Step → List Claim
coordinates_fit program term place =
    let loops = depth_of program term.statement in
    shown_fit (domain_size program term.statement) (place ++ Key (codes "inside") ∷ []) term.inside
    ∷ matrix_fit loops loops (place ++ Key (codes "inverse") ∷ []) term.inverse ++ matrix_fit loops loops (place ++ Key (codes "matrix") ∷ []) term.matrix

-- the nest, as of a credit: a variable for each loop
abbrev pub counted_nest : PartitionTerm → CreditedNest
counted_nest term = record { statement = term.statement; nest = term.nest }

abbrev pub nest_fit : AffineProgram → List Step → PartitionTerm → List Claim
nest_fit program place term = credit_nest_fit program place (counted_nest term)

abbrev pub points_fit : AffineProgram → List Step → PartitionTerm → List Claim
points_fit program place term = coordinates_fit program term place ++ nest_fit program place term

-- the statement, and what is claimed of their number, as of a credit
abbrev pub number_fit : AffineProgram → List Step → PartitionTerm → List Claim
number_fit program place term = credit_count_fit program place (counted_nest term) term.count

-- A partition term, its members in the order of their keys.
abbrev pub partition_fit : AffineProgram → List (List SelectionTree) → List Step → PartitionTerm → List Claim
partition_fit program trees place term = walks_fit program trees place term ++ (points_fit program place term ++ number_fit program place term)
