use Rattle.std.proofs.Common.{◌≡◌, sym, ◌∙◌, ap, subst, ℕ, List, length, map, arith, Vec, Global}
use Rattle.std.specs.List.{AllByRecursion}
use Rattle.affine_form.specs.Multipliers.{FarkasMultipliers}
use Rattle.affine_program.specs.Parts.{ProgramParts, meaning}
use Rattle.claims.specs.Claims.{AllHold}
use Rattle.claims.specs.declared.place.Step.{Step}
use Rattle.claims.specs.Shown.{pointless_claims}
use Rattle.dep_quast.specs.Tree.{SelectionTree}
use Rattle.footprint_pieces.specs.declared.piece.Piece.{Piece}
use Rattle.footprint_pieces.specs.declared.piece.Target.{Target}
use Rattle.footprint_pieces.specs.DisjointClaims.{pairwise_systems}
use Rattle.footprint_pieces.specs.Pieces.{FootprintPiece, PieceFits, pieces_of}
use Rattle.dep_quast.specs.Quasts.{trees_of}
use Rattle.footprint_pieces.specs.TargetPairs.{pairwise_targets}
use Rattle.footprint_pieces.proofs.PairCounts.{pairs-many}
use Rattle.footprint_pieces.proofs.SharedVertices.{pairwise-apart}
use Rattle.iolb_check.specs.declared.term.Branch.{Branch}
use Rattle.iolb_check.specs.declared.term.Term.{Term}
use Rattle.iolb_check.specs.Claims.{claim_of_term}
use Rattle.iolb_check.specs.Conditions.{branch_pieces, terms_claims, terms_place}
use Rattle.iolb_check.specs.Fit.{BranchFits, HasPieces}
use Rattle.iolb_check.proofs.PiecesOf.{pieces-told}
use Rattle.iolb_check.proofs.pairs.check_pairs.Goals as goal

pub pieces_of_terms-requires : goal.pieces_of_terms-requires
pieces_of_terms-requires c =
    subst (AllByRecursion (HasPieces c.args.program.now (trees_of c.args.quasts.now))) (sym c.as_slice.ensures.value)
    c.requires.pieces

-- there are multipliers for all systems of pieces
enough : (program : ProgramParts) (trees : List (List SelectionTree)) (number : ℕ) (branch : Branch) → BranchFits program trees branch → AllByRecursion (HasPieces program trees) branch.terms.items
    → AllHold (terms_claims (meaning program) trees (terms_place number) (map claim_of_term branch.terms.items))
    → length (pairwise_systems (meaning program) (branch_pieces (meaning program) trees (map claim_of_term branch.terms.items))) ≡ length branch.disjoint.items
enough program trees number branch fits pieces shown =
    pairs-many (meaning program) (branch_pieces (meaning program) trees (map claim_of_term branch.terms.items))
    ∙ ap (λ (lists : List (List Target)). length (pairwise_targets lists)) (pieces-told program trees (terms_place number) 0 branch.terms.items fits.terms pieces shown) ∙ sym fits.disjoint

pub lists_shown-requires-clause-enough : goal.lists_shown-requires-clause-enough
lists_shown-requires-clause-enough c =
    let program = meaning c.args.program.now in
    let lists = ap (λ (v : List (Vec Piece Global)). length (pairwise_systems program (map pieces_of v))) c.as_slice-2.ensures.value
    ∙ ap (λ (l : List (List FootprintPiece)). length (pairwise_systems program l)) c.in_ok-pieces.ensures.pieces
    ∙ ap (λ (ts : List Term). length (pairwise_systems program (branch_pieces program (trees_of c.args.quasts.now) (map claim_of_term ts)))) c.as_slice.ensures.value in
    omega (arith, lists, enough c.args.program.now (trees_of c.args.quasts.now) c.args.number c.args.branch.now c.requires.fits c.requires.pieces c.requires.shown, ap length c.as_slice-shown.ensures.value)

pub returns-clause-apart : goal.returns-clause-apart
returns-clause-apart c =
    let program = meaning c.args.program.now in
    let trees = trees_of c.args.quasts.now in
    let branch : Branch = c.args.branch.now in
    let pieces : List (List FootprintPiece) = branch_pieces program trees (map claim_of_term branch.terms.items) in
    let place : List Step = c.in_ok-place.place in
    let made : List (List FootprintPiece) = map pieces_of c.as_slice-2.result.now in
    let same : made ≡ pieces = ap (map pieces_of) c.as_slice-2.ensures.value ∙ c.in_ok-pieces.ensures.pieces
    ∙ ap (λ (ts : List Term). branch_pieces program trees (map claim_of_term ts)) c.as_slice.ensures.value in
    let found : AllHold (pointless_claims 23 place 0 (pairwise_systems program made) c.as_slice-shown.result.now) = c.in_ok-lists_shown.ensures in
    let hold : AllHold (pointless_claims 23 place 0 (pairwise_systems program pieces) branch.disjoint.items) =
    subst (λ (m : List FarkasMultipliers). AllHold (pointless_claims 23 place 0 (pairwise_systems program pieces) m)) c.as_slice-shown.ensures.value
    (subst (λ (l : List (List FootprintPiece)). AllHold (pointless_claims 23 place 0 (pairwise_systems program l) c.as_slice-shown.result.now)) same found) in
    let fit : AllByRecursion (AllByRecursion (PieceFits program)) made =
    subst (λ (v : List (Vec Piece Global)). AllByRecursion (AllByRecursion (PieceFits program)) (map pieces_of v)) (sym c.as_slice-2.ensures.value) c.in_ok-pieces.ensures.fit in
    pairwise-apart program 23 place pieces branch.disjoint.items (subst (AllByRecursion (AllByRecursion (PieceFits program))) same fit)
    (omega (arith, enough c.args.program.now trees c.args.number branch c.requires.fits c.requires.pieces c.requires.shown)) hold
