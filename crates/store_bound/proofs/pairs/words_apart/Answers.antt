use Rattle.std.proofs.Common.{◌≡◌, sym, ◌∙◌, ap, subst, ◌++◌, List, [], ◌∷◌, length, map, append-nil, arith, Vec, Global}
use Rattle.std.specs.List.{AllByRecursion}
use Rattle.affine_form.specs.System.{AffineSystem}
use Rattle.affine_program.specs.Parts.{meaning}
use Rattle.claims.specs.Claims.{AllHold, IsRefusal}
use Rattle.claims.specs.Shown.{pointless_claims}
use Rattle.footprint_pieces.specs.declared.piece.Piece.{Piece}
use Rattle.footprint_pieces.specs.DisjointClaims.{pairwise_systems, shared_systems}
use Rattle.footprint_pieces.specs.Pieces.{FootprintPiece, PieceFits, pieces_of}
use Rattle.footprint_pieces.proofs.SharedVertices.{pairwise-apart}
use Rattle.iolb_check.specs.Claims.{claim_of_term}
use Rattle.iolb_model.specs.Program.{AffineProgram}
use Rattle.store_bound.specs.Counted.{computed_fronts}
use Rattle.store_bound.specs.StoresFit.{output_pieces}
use Rattle.store_bound.proofs.MovedRefusals.{held-further, is-at-member, moved-refused}
use Rattle.store_bound.proofs.pairs.words_apart.Goals as goal
use Rattle.store_terms.specs.Claims.{claim_of_output}
use Rattle.wavefront.specs.FrontPieces.{front_piece}

-- two lists have the systems of their pieces
two-lists : (program : AffineProgram) (xs ys : List FootprintPiece) → pairwise_systems program (xs ∷ ys ∷ []) ≡ shared_systems program xs ys
two-lists program xs ys = append-nil (shared_systems program xs ys ++ []) ∙ append-nil (shared_systems program xs ys)

made : (program : AffineProgram) (xs ys : List FootprintPiece) (lists slice : List (Vec Piece Global)) → slice ≡ lists → map pieces_of lists ≡ xs ∷ ys ∷ []
    → pairwise_systems program (map pieces_of slice) ≡ shared_systems program xs ys
made program xs ys lists slice e f = ap (λ (l : List (Vec Piece Global)). pairwise_systems program (map pieces_of l)) e ∙ ap (pairwise_systems program) f ∙ two-lists program xs ys

pub lists_shown-requires-clause-fit : goal.lists_shown-requires-clause-fit
lists_shown-requires-clause-fit c =
    subst (λ (v : List (Vec Piece Global)). AllByRecursion (AllByRecursion (PieceFits (meaning c.args.program.now))) (map pieces_of v)) (sym c.as_slice.ensures.value) c.in_ok-lists.ensures.fit

pub lists_shown-requires-clause-enough : goal.lists_shown-requires-clause-enough
lists_shown-requires-clause-enough c =
    let program = meaning c.args.program.now in
    let xs : List FootprintPiece = output_pieces program (map claim_of_output c.args.outputs.now) in
    let ys : List FootprintPiece = map (front_piece program) (computed_fronts (map claim_of_term c.args.terms.now)) in
    omega (arith, c.requires.enough, ap (λ (s : List AffineSystem). length s) (made program xs ys c.in_ok-lists.lists.items c.as_slice.result.now c.as_slice.ensures.value c.in_ok-lists.ensures.pieces))

pub moved-requires : goal.moved-requires
moved-requires c =
    let program = meaning c.args.program.now in
    let xs : List FootprintPiece = output_pieces program (map claim_of_output c.args.outputs.now) in
    let ys : List FootprintPiece = map (front_piece program) (computed_fronts (map claim_of_term c.args.terms.now)) in
    is-at-member 23 c.args.list.now c.args.first (shared_systems program xs ys) c.args.shown.now c.in-Err.refused (omega (arith, c.requires.room, c.requires.enough))
    (subst (λ (s : List AffineSystem). IsRefusal (pointless_claims 23 c.args.list.now 0 s c.args.shown.now) c.in-Err.refused)
    (made program xs ys c.in_ok-lists.lists.items c.as_slice.result.now c.as_slice.ensures.value c.in_ok-lists.ensures.pieces) c.in-Err.ensures)

pub returns-clause-hold : goal.returns-clause-hold
returns-clause-hold c =
    let program = meaning c.args.program.now in
    let xs : List FootprintPiece = output_pieces program (map claim_of_output c.args.outputs.now) in
    let ys : List FootprintPiece = map (front_piece program) (computed_fronts (map claim_of_term c.args.terms.now)) in
    moved-refused 23 c.args.list.now c.args.first (shared_systems program xs ys) c.args.shown.now c.in-Err.refused c.moved.result c.moved.ensures
    (subst (λ (s : List AffineSystem). IsRefusal (pointless_claims 23 c.args.list.now 0 s c.args.shown.now) c.in-Err.refused)
    (made program xs ys c.in_ok-lists.lists.items c.as_slice.result.now c.as_slice.ensures.value c.in_ok-lists.ensures.pieces) c.in-Err.ensures)

pub returns-in-Ok-clause-hold : goal.returns-in-Ok-clause-hold
returns-in-Ok-clause-hold c =
    let program = meaning c.args.program.now in
    let xs : List FootprintPiece = output_pieces program (map claim_of_output c.args.outputs.now) in
    let ys : List FootprintPiece = map (front_piece program) (computed_fronts (map claim_of_term c.args.terms.now)) in
    held-further 23 c.args.list.now c.args.first 0 (shared_systems program xs ys) c.args.shown.now
    (subst (λ (s : List AffineSystem). AllHold (pointless_claims 23 c.args.list.now 0 s c.args.shown.now))
    (made program xs ys c.in_ok-lists.lists.items c.as_slice.result.now c.as_slice.ensures.value c.in_ok-lists.ensures.pieces) c.in-Ok.ensures)

pub returns-in-Ok-clause-apart : goal.returns-in-Ok-clause-apart
returns-in-Ok-clause-apart c =
    let program = meaning c.args.program.now in
    let xs : List FootprintPiece = output_pieces program (map claim_of_output c.args.outputs.now) in
    let ys : List FootprintPiece = map (front_piece program) (computed_fronts (map claim_of_term c.args.terms.now)) in
    let same : map pieces_of c.as_slice.result.now ≡ xs ∷ ys ∷ [] = ap (map pieces_of) c.as_slice.ensures.value ∙ c.in_ok-lists.ensures.pieces in
    (pairwise-apart program 23 c.args.list.now (xs ∷ ys ∷ []) c.args.shown.now
    (subst (AllByRecursion (AllByRecursion (PieceFits program))) c.in_ok-lists.ensures.pieces c.in_ok-lists.ensures.fit)
    (omega (arith, c.requires.enough, ap (λ (s : List AffineSystem). length s) (two-lists program xs ys)))
    (subst (λ (l : List (List FootprintPiece)). AllHold (pointless_claims 23 c.args.list.now 0 (pairwise_systems program l) c.args.shown.now)) same c.in-Ok.ensures)).0.0
