use Rattle.std.proofs.Common.{rules, ◌≡◌, sym, ◌∙◌, ap, subst, ℕ, ◌+◌, List, ◌++◌, append_assoc, drop, map}
use Rattle.std.specs.List.{AllByRecursion}
use Rattle.std.proofs.lemmas.List.{map-append}
use Rattle.base_laws.proofs.Lists.{All-append, rest_at}
use Rattle.affine_program.specs.Parts.{meaning}
use Rattle.footprint_pieces.specs.declared.piece.Piece.{Piece}
use Rattle.footprint_pieces.specs.Pieces.{FootprintPiece, PieceFits, piece_of, pieces_of}
use Rattle.iolb_check.specs.Claims.{claim_of_term}
use Rattle.iolb_check.specs.declared.term.Term.{Term}
use Rattle.store_bound.specs.Counted.{computed_front, computed_fronts}
use Rattle.store_bound.proofs.pieces.word_pieces.Goals as goal
use Rattle.wavefront.specs.FrontPieces.{front_piece}
use Rattle.wavefront.specs.FrontTerm.{WavefrontTerm}

pub loop-term-preserved : goal.loop-term-preserved
loop-term-preserved c =
    let program = meaning c.args.program.now in
    let before : List Piece = c.loop-term.pieces.items in
    let more : List Piece = c.in_ok-more.more.items in
    let terms : List Term = c.args.terms.now in
    let i : ℕ = c.loop-term.term-index in
    let t : Term = c.term-item.result in
    let later : List WavefrontTerm = computed_fronts (map claim_of_term (drop (i + 1) terms)) in
    let made : List FootprintPiece = map (front_piece program) (computed_front (claim_of_term t)) in
    let now : pieces_of c.append.new.self ≡ map piece_of before ++ map piece_of more = search (rules, c.in_ok-append.ensures, map-append piece_of before more) in
    let split : map (front_piece program) (computed_fronts (map claim_of_term (drop i terms))) ≡ made ++ map (front_piece program) later =
    ap (λ (ts : List Term). map (front_piece program) (computed_fronts (map claim_of_term ts))) (rest_at terms i t c.loop-term-test.true c.term-item.is) ∙ map-append (front_piece program) (computed_front (claim_of_term t)) later in
    record {
      pieces = ap (λ (ps : List FootprintPiece). ps ++ map (front_piece program) later) (now ∙ ap (λ (ps : List FootprintPiece). map piece_of before ++ ps) c.in_ok-more.ensures.pieces)
          ∙ append_assoc (map piece_of before) made (map (front_piece program) later)
          ∙ ap (λ (ps : List FootprintPiece). map piece_of before ++ ps) (sym split) ∙ c.loop-term.invariant.pieces;
      fit = subst (AllByRecursion (PieceFits program)) (sym now) (All-append (PieceFits program) (map piece_of before) (map piece_of more) c.loop-term.invariant.fit c.in_ok-more.ensures.fit);
    }
