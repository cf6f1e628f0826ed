-- What is asked of the multipliers that show terms of a branch to have no vertex in common: there is one for each pair of
-- pieces with one target. A read that isn't there has no leaves, and an entry at a blank leaf or at no leaf has no piece.
use Rattle.std.specs.Prelude.{ℕ, nat_lt, if◌then◌else◌, List, [], ◌∷◌, ◌++◌, length, map, Option, Some, None, codes}
use Rattle.std.specs.List.{cons_option}
use Rattle.iolb_model.specs.Program.{AffineProgram, statement_at}
use Rattle.claims.specs.Claims.{Claim}
use Rattle.claims.specs.declared.place.Step.{Step}
use Rattle.claims.specs.declared.place.Step.TheVariants.{Key}
use Rattle.dep_quast.specs.Context.{reference_of}
use Rattle.dep_quast.specs.Tree.{SelectionTree}
use Rattle.footprint_pieces.specs.declared.piece.Target.{Target}
use Rattle.footprint_pieces.specs.declared.piece.Target.TheVariants.{Cell, Instance}
use Rattle.reuse_paths.specs.LeafClaims.{LeafClaim, is_stop}
use Rattle.dep_quast.specs.Quasts.{tree_at}
use Rattle.footprint_pieces.specs.TargetPairs.{pairwise_targets}
use Rattle.wavefront.specs.Term.{ColdTerm}
use Rattle.reuse_paths.specs.Walks.{SpotForms}
use Rattle.wavefront.specs.FrontTerm.{WavefrontTerm, user_read}
use Rattle.iolb_check.specs.Claims.{TermClaim, cold, partition, front, joint, cold_term, front_term, BranchClaim}
use Rattle.iolb_check.specs.FamilyTargets.{joint_targets, leaf_targets, partition_targets}
use Rattle.certificate_fit.specs.PartFit.{shown_fit}

-- those of the leaves at which the entries say that a walk stops
abbrev pub stop_targets : List (Option Target) → List LeafClaim → List Target
stop_targets [] entries = []
stop_targets (target ∷ targets) [] = []
stop_targets (target ∷ targets) (entry ∷ entries) = cons_option (if is_stop entry then target else None) (stop_targets targets entries)

abbrev pub targets_if : ℕ → List LeafClaim → Option SelectionTree → List Target
targets_if array entries None = []
targets_if array entries (Some tree) = stop_targets (leaf_targets array tree) entries

-- the targets of a cold term's pieces
abbrev pub cold_targets : AffineProgram → List (List SelectionTree) → ColdTerm → List Target
cold_targets program trees term =
    if nat_lt term.reader.read (length (statement_at program term.reader.statement).reads)
    then targets_if (reference_of program term.reader).array term.leaves (tree_at trees term.reader.statement term.reader.read) else []

-- that of a wavefront term's piece: the statement of the words' instance, or where they are inputs the array that is read
abbrev pub front_targets : AffineProgram → WavefrontTerm → Option SpotForms → List Target
front_targets program term None =
    if nat_lt term.read (length (statement_at program term.user.statement).reads) then Cell (reference_of program (user_read term)).array ∷ [] else []
front_targets program term (Some spot) = Instance spot.statement ∷ []

abbrev pub term_targets : AffineProgram → List (List SelectionTree) → TermClaim → List Target
term_targets program trees (cold claim sums) = cold_targets program trees (cold_term claim sums)
term_targets program trees (partition term) = partition_targets program trees term
term_targets program trees (front claim sums outer_sums) = front_targets program (front_term claim sums outer_sums) claim.source
term_targets program trees (joint term) = joint_targets program trees term

-- as many multipliers as pairs of one target of the terms
abbrev pub disjoint_fit : AffineProgram → List (List SelectionTree) → List Step → BranchClaim → Claim
disjoint_fit program trees place branch =
    shown_fit (length (pairwise_targets (map (term_targets program trees) branch.terms))) (place ++ Key (codes "disjoint") ∷ []) branch.disjoint
