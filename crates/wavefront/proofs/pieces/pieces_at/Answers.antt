use Rattle.std.proofs.Common.{◌≡◌, true, false, sym, ◌∙◌, ap, subst, ℕ, List, [], ◌∷◌, ◌++◌, map, drop, Vec, Global}
use Rattle.std.specs.List.{AllByRecursion}
use Rattle.std.proofs.lemmas.List.{map-append}
use Rattle.base_laws.proofs.Lists.{All-append, there}
use Rattle.affine_program.specs.Parts.{meaning}
use Rattle.reuse_paths.specs.declared.leaf.Leaf.{Leaf}
use Rattle.footprint_pieces.specs.declared.piece.Piece.{Piece}
use Rattle.reuse_paths.specs.LeafClaims.{claim_of, is_stop}
use Rattle.dep_quast.specs.OpenLeaves.{OpenLeaf}
use Rattle.footprint_pieces.specs.Pieces.{FootprintPiece, PieceFits, piece_of}
use Rattle.wavefront.specs.ColdPieces.{stop_pieces}
use Rattle.wavefront.specs.Term.{ColdTerm}
use Rattle.wavefront.specs.View.{term_of}
use Rattle.wavefront.proofs.PiecesCover.{stop-more, stop-less}
use Rattle.wavefront.proofs.pieces.pieces_at.Goals as goal
use Rattle.wavefront.proofs.pieces.pieces_at.Goals.{then-is_stop+in_ok-leaf_piece+in_ok-push, else-is_stop}

pub loop-i-preserved : goal.loop-i-preserved
loop-i-preserved c =
    let program = meaning c.args.program.now in
    let term : ColdTerm = term_of c.args.term.now in
    let leaves : List OpenLeaf = c.args.leaves.now in
    let entries : List Leaf = c.args.entries.now in
    let i : ℕ = c.loop-i.i in
    let e : Leaf = c.index-entries-i.result in
    let whole : List FootprintPiece = stop_pieces program term leaves (map claim_of entries) in
    elim c.if-is_stop.branch [
      | then-is_stop+in_ok-leaf_piece+in_ok-push w ↦
          let l : OpenLeaf = w.index-leaves-i.result in
          let piece : Piece = w.in_ok-leaf_piece.field-0 in
          let old : List Piece = c.loop-i.pieces.items in
          let more : c.if-is_stop.pieces.items ≡ old ++ piece ∷ [] = ap (λ (v : Vec Piece Global). v.items) w.pieces-is ∙ w.in_ok-push.ensures.items in
          let stands : is_stop (claim_of e) ≡ true = sym c.is_stop.ensures ∙ w.if-is_stop.true in
          record {
            so_far = stop-more program term leaves entries i l e c.loop-i-test.true c.requires.one_each w.index-leaves-i.is c.index-entries-i.is old c.if-is_stop.pieces.items piece whole stands more
                w.in_ok-leaf_piece.ensures.piece c.loop-i.invariant.so_far;
            fit = subst (AllByRecursion (PieceFits program)) (sym (ap (map piece_of) more ∙ map-append piece_of old (piece ∷ [])))
                (All-append (PieceFits program) (map piece_of old) (piece_of piece ∷ []) c.loop-i.invariant.fit (w.in_ok-leaf_piece.ensures.fits, tt));
          }
      | else-is_stop w ↦
          let l = there leaves i c.loop-i-test.true in
          let same : c.if-is_stop.pieces.items ≡ c.loop-i.pieces.items = ap (λ (v : Vec Piece Global). v.items) w.pieces-is in
          let stands : is_stop (claim_of e) ≡ false = sym c.is_stop.ensures ∙ w.if-is_stop.false in
          record {
            so_far = stop-less program term leaves entries i l.0 e c.loop-i-test.true c.requires.one_each l.1 c.index-entries-i.is c.if-is_stop.pieces.items whole stands
                (ap (λ (ps : List Piece). map piece_of ps ++ stop_pieces program term (drop i leaves) (map claim_of (drop i entries))) same ∙ c.loop-i.invariant.so_far);
            fit = subst (λ (ps : List Piece). AllByRecursion (PieceFits program) (map piece_of ps)) (sym same) c.loop-i.invariant.fit;
          }
    ]
