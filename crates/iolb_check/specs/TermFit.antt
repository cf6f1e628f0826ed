-- What is asked of branches and their terms. A statement that isn't there counts as one without loops and reads, a read
-- that isn't there as one without subscripts and leaves.
use Rattle.std.specs.Prelude.{ℕ, suc, ◌+◌, ◌*◌, List, [], ◌∷◌, ◌++◌, length, codes}
use Rattle.iolb_model.specs.Program.{AffineProgram, statement_at}
use Rattle.claims.specs.declared.place.Step.{Step}
use Rattle.claims.specs.declared.place.Step.TheVariants.{Key, Index}
use Rattle.affine_program.specs.Domain.{depth_of, domain_size}
use Rattle.dep_quast.specs.Context.{reference_of}
use Rattle.dep_quast.specs.Tree.{SelectionTree}
use Rattle.wavefront.specs.Term.{ColdTerm}
use Rattle.iolb_check.specs.Claims.{TermClaim, cold, partition, front, joint, cold_term, front_term, BranchClaim, CertificateClaim}
use Rattle.iolb_check.specs.FrontFit.{front_fit}
use Rattle.iolb_check.specs.JointFit.{joint_fit}
use Rattle.claims.specs.Claims.{Claim, numbered}
use Rattle.certificate_fit.specs.EntryFit.{entries_fit, leaf_names}
use Rattle.certificate_fit.specs.FitClaims.{so_many, names}
use Rattle.certificate_fit.specs.PartFit.{bounds_fit, forms_fit, matrix_fit, shown_fit, sums_fit}
use Rattle.certificate_fit.specs.TreeFit.{trees_fit}
use Rattle.iolb_check.specs.PairFit.{disjoint_fit}
use Rattle.iolb_check.specs.PartitionFit.{partition_fit}

-- the members of a cold term in the order of their keys, up to its nest
abbrev pub cold_front_fit : AffineProgram → List (List SelectionTree) → List Step → ColdTerm → List Claim
cold_front_fit program trees place term =
    shown_fit (domain_size program term.reader.statement) (place ++ Key (codes "inside") ∷ []) term.inside
    ∷ matrix_fit (length term.nest) (length (reference_of program term.reader).subscripts) (place ++ Key (codes "inverse") ∷ Key (codes "matrix") ∷ []) term.matrix
    ++ so_many (place ++ Key (codes "leaves") ∷ []) (length term.leaves) (length (leaf_names program trees term.reader))
    ∷ entries_fit 0 [] (place ++ Key (codes "leaves") ∷ []) term.leaves

-- its point
abbrev pub point_fit : AffineProgram → List Step → ColdTerm → List Claim
point_fit program place term =
    so_many (place ++ Key (codes "point") ∷ []) (length term.point) (depth_of program term.reader.statement)
    ∷ forms_fit (length program.parameters + length term.nest) (place ++ Key (codes "point") ∷ []) term.point

-- the members behind its point, but for each sum
abbrev pub cold_back_fit : AffineProgram → ColdTerm → List Step → List Claim
cold_back_fit program term place =
    names (place ++ Key (codes "read") ∷ []) term.reader.read (length (statement_at program term.reader.statement).reads)
    ∷ shown_fit (length term.nest) (place ++ Key (codes "shown") ∷ []) term.count.shown
    ∷ names (place ++ Key (codes "statement") ∷ []) term.reader.statement (length program.statements)
    ∷ so_many (place ++ Key (codes "sums") ∷ []) (length term.count.sums) (length term.nest) ∷ []

-- A cold term.
abbrev pub cold_fit : AffineProgram → List (List SelectionTree) → List Step → ColdTerm → List Claim
cold_fit program trees place term =
    let params = length program.parameters in
    cold_front_fit program trees place term ++ bounds_fit params (place ++ Key (codes "nest") ∷ []) term.nest ++ point_fit program place term
    ++ cold_back_fit program term place ++ sums_fit (suc params) (place ++ Key (codes "sums") ∷ []) term.count.sums

abbrev pub term_fit : AffineProgram → List (List SelectionTree) → List Step → TermClaim → List Claim
term_fit program trees place (cold claim sums) = cold_fit program trees (place ++ Key (codes "cold") ∷ []) (cold_term claim sums)
term_fit program trees place (partition term) = partition_fit program trees (place ++ Key (codes "partition") ∷ []) term
term_fit program trees place (front claim sums outer_sums) = front_fit program trees (place ++ Key (codes "wavefront") ∷ []) (front_term claim sums outer_sums)
term_fit program trees place (joint term) = joint_fit program trees (place ++ Key (codes "joint") ∷ []) term

-- the terms of a branch
abbrev pub term_at : AffineProgram → List (List SelectionTree) → List Step → ℕ → TermClaim → List Claim
term_at program trees place index term = term_fit program trees (place ++ Index index ∷ []) term

abbrev pub terms_fit : AffineProgram → List (List SelectionTree) → List Step → List TermClaim → List Claim
terms_fit program trees place terms = numbered (term_at program trees place) 0 terms

-- A branch: multipliers for the pairs of its terms, then its terms.
abbrev pub branch_fit : AffineProgram → List (List SelectionTree) → List Step → BranchClaim → List Claim
branch_fit program trees place branch =
    disjoint_fit program trees place branch ∷ terms_fit program trees (place ++ Key (codes "terms") ∷ []) branch.terms

abbrev pub branch_at : AffineProgram → List (List SelectionTree) → ℕ → BranchClaim → List Claim
branch_at program trees index branch = branch_fit program trees (Key (codes "branches") ∷ Index index ∷ []) branch

-- A certificate fits a program where all of these hold: the branches, then the source trees, in the order of a walk
-- through its text.
abbrev pub certificate_fit : AffineProgram → CertificateClaim → List Claim
certificate_fit program certificate = numbered (branch_at program certificate.trees) 0 certificate.branches ++ trees_fit program certificate.trees
