use Rattle.std.proofs.Common.{sym, ◌∙◌, ap, subst, ◌≤◌, List, length, map, Vec, Global}
use Rattle.std.specs.List.{AllByRecursion}
use Rattle.affine_program.specs.Parts.{meaning}
use Rattle.claims.specs.Claims.{Decides}
use Rattle.claims.specs.Shown.{pointless_claims}
use Rattle.claims.proofs.Found.{decided-then}
use Rattle.footprint_pieces.specs.declared.piece.Piece.{Piece}
use Rattle.footprint_pieces.specs.DisjointClaims.{pairwise_systems}
use Rattle.footprint_pieces.specs.Pieces.{ArePairwiseApart, FootprintPiece, PieceFits, pieces_of}
use Rattle.footprint_pieces.proofs.SharedVertices.{pairwise-apart}
use Rattle.store_bound.specs.StoresFit.{single_pieces}
use Rattle.store_bound.proofs.pairs.outputs_apart.Goals as goal
use Rattle.store_terms.specs.Claims.{claim_of_output}

pub lists_shown-requires-clause-fit : goal.lists_shown-requires-clause-fit
lists_shown-requires-clause-fit c =
    subst (λ (v : List (Vec Piece Global)). AllByRecursion (AllByRecursion (PieceFits (meaning c.args.program.now))) (map pieces_of v)) (sym c.as_slice.ensures.value) c.in_ok-singles.ensures.fit

pub lists_shown-requires-clause-enough : goal.lists_shown-requires-clause-enough
lists_shown-requires-clause-enough c =
    subst (λ (l : List (List FootprintPiece)). length (pairwise_systems (meaning c.args.program.now) l) ≤ length c.args.shown.now)
    (sym (ap (map pieces_of) c.as_slice.ensures.value ∙ c.in_ok-singles.ensures.pieces)) c.requires.enough

pub returns-clause-hold : goal.returns-clause-hold
returns-clause-hold c =
    subst (λ (l : List (List FootprintPiece)). Decides (pointless_claims 23 c.args.list.now 0 (pairwise_systems (meaning c.args.program.now) l) c.args.shown.now) c.lists_shown.result)
    (ap (map pieces_of) c.as_slice.ensures.value ∙ c.in_ok-singles.ensures.pieces) c.lists_shown.ensures

pub returns-clause-apart : goal.returns-clause-apart
returns-clause-apart c =
    let program = meaning c.args.program.now in
    let singles : List (List FootprintPiece) = single_pieces program (map claim_of_output c.args.outputs.now) in
    let found : Decides (pointless_claims 23 c.args.list.now 0 (pairwise_systems program singles) c.args.shown.now) c.lists_shown.result =
    subst (λ (l : List (List FootprintPiece)). Decides (pointless_claims 23 c.args.list.now 0 (pairwise_systems program l) c.args.shown.now) c.lists_shown.result)
    (ap (map pieces_of) c.as_slice.ensures.value ∙ c.in_ok-singles.ensures.pieces) c.lists_shown.ensures in
    decided-then (pointless_claims 23 c.args.list.now 0 (pairwise_systems program singles) c.args.shown.now) c.lists_shown.result (ArePairwiseApart program singles) found
    (λ h. pairwise-apart program 23 c.args.list.now singles c.args.shown.now (subst (AllByRecursion (AllByRecursion (PieceFits program))) c.in_ok-singles.ensures.pieces c.in_ok-singles.ensures.fit) c.requires.enough h)
