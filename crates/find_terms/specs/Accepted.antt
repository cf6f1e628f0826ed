-- That certificates with the opening branch are accepted.
use Rattle.std.specs.Prelude.{List, [], ◌∷◌}
use Rattle.std.specs.List.{AllByRecursion}
use Rattle.iolb_model.specs.Program.{AffineProgram}
use Rattle.affine_program.specs.Parts.{ProgramParts, IsProgram, meaning}
use Rattle.claims.specs.Claims.{AllHold}
use Rattle.dep_quast.specs.Tree.{SelectionTree, tree_of}
use Rattle.flow_deps.specs.Plain.{IsPlain}
use Rattle.certificate_fit.specs.Limits.{IsSmallTree}
use Rattle.certificate_fit.specs.TreeFit.{trees_fit}
use Rattle.dep_quast.specs.declared.quasts.Quasts.{Quasts}
use Rattle.dep_quast.specs.Quasts.{tree_for}
use Rattle.dep_quast.specs.Trees.{rows_claims}
use Rattle.iolb_check.specs.declared.term.Term.{Term}
use Rattle.iolb_check.specs.declared.term.Term.TheVariants as terms
use Rattle.iolb_check.specs.declared.term.Branch.{Branch}
use Rattle.iolb_check.specs.Claims.{CertificateClaim, claim_of_branch}
use Rattle.iolb_check.specs.Conditions.{conditions}
use Rattle.iolb_check.specs.Limits.{IsWithinLimits}
use Rattle.find_terms.specs.Openings.{IsOpeningBranch}
use Rattle.projective_bounds.specs.HeldColds.{reader_of}

-- the tree of a cold term's read is plain
abbrev pub HasPlainTree : AffineProgram → List (List SelectionTree) → Term → Type 0
HasPlainTree program trees (terms.Cold cold) = IsPlain program (reader_of cold) (tree_for trees (reader_of cold))
HasPlainTree program trees (terms.Partition partition) = ⊥
HasPlainTree program trees (terms.Wavefront front) = ⊥
HasPlainTree program trees (terms.Joint joint) = ⊥

-- the certificate of these trees and this branch alone
abbrev pub alone : List (List SelectionTree) → Branch → CertificateClaim
alone trees branch = record { trees = trees; branches = claim_of_branch branch ∷ [] }

-- Source trees that fit a program and are valid, and the opening branch, make a certificate that meets all conditions, where
-- the trees of the branch's own reads are plain. The other trees may be any.
abbrev pub OpeningsMeetConditions : Type 0
OpeningsMeetConditions = (program : ProgramParts) (trees : List (List SelectionTree)) (branch : Branch) → IsProgram program → IsOpeningBranch (meaning program) branch
    → AllHold (trees_fit (meaning program) trees) → AllHold (rows_claims (meaning program) 0 trees)
    → AllByRecursion (HasPlainTree (meaning program) trees) branch.terms.items → AllHold (conditions (meaning program) (alone trees branch))

-- It is within the limits of certificates where the trees are.
abbrev pub OpeningsAreWithinLimits : Type 0
OpeningsAreWithinLimits = (program : AffineProgram) (quasts : Quasts) (branch : Branch) → IsOpeningBranch program branch
    → AllByRecursion (λ row. AllByRecursion (λ quast. IsSmallTree (tree_of quast)) row.items) quasts.rows.items
    → IsWithinLimits (record { quasts = quasts; branches = branch ∷ [] })
