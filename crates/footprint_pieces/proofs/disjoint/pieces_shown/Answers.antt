use Rattle.std.proofs.Common.{rules, ◌≡◌, ◌∙◌, ℕ, ◌+◌, List, ◌++◌, length, map, drop}
use Rattle.std.specs.Prelude.{Err}
use Rattle.affine_form.specs.System.{AffineSystem}
use Rattle.affine_program.specs.Parts.{meaning}
use Rattle.footprint_pieces.specs.declared.piece.Piece.{Piece}
use Rattle.footprint_pieces.specs.DisjointClaims.{shared_systems, systems_with}
use Rattle.footprint_pieces.specs.Pieces.{FootprintPiece, piece_of}
use Rattle.footprint_pieces.proofs.PairsFound.{first-stop, first-go, rest-room, rest-end, split-pieces, pieces-fit}
use Rattle.footprint_pieces.proofs.disjoint.pieces_shown.Goals as goal

pub returns-in_err-piece_shown-clause-found : goal.returns-in_err-piece_shown-clause-found
returns-in_err-piece_shown-clause-found c =
    let program = meaning c.args.program.now in
    let pieces : List Piece = c.args.pieces.now in
    let others : List FootprintPiece = map piece_of c.args.others.now in
    let i : ℕ = c.loop-piece.piece-index in
    let piece : Piece = c.piece-item.result in
    let r = c.in_err-piece_shown.field-0.0 in
    let refused =
    c.loop-piece.invariant.decided (Err r)
    (first-stop c.args.condition c.args.list.now c.loop-piece.at c.loop-piece.at (shared_systems program (map piece_of (drop i pieces)) others) (systems_with program others (piece_of piece))
    (shared_systems program (map piece_of (drop (i + 1) pieces)) others) c.args.shown.now (split-pieces program pieces others i piece c.loop-piece-test.true c.piece-item.is) c.loop-piece.invariant.room
    r c.in_err-piece_shown.ensures.found) in
    search rules

pub loop-piece-preserved : goal.loop-piece-preserved
loop-piece-preserved c =
    let program = meaning c.args.program.now in
    let pieces : List Piece = c.args.pieces.now in
    let others : List FootprintPiece = map piece_of c.args.others.now in
    let i : ℕ = c.loop-piece.piece-index in
    let piece : Piece = c.piece-item.result in
    let whole : List AffineSystem = shared_systems program (map piece_of (drop i pieces)) others in
    let here : List AffineSystem = systems_with program others (piece_of piece) in
    let rest : List AffineSystem = shared_systems program (map piece_of (drop (i + 1) pieces)) others in
    let next : ℕ = c.piece_shown.new.at in
    let split : whole ≡ here ++ rest = split-pieces program pieces others i piece c.loop-piece-test.true c.piece-item.is in
    let is_next : next ≡ c.loop-piece.at + length here = c.in_ok-piece_shown.ensures.next in
    record {
      fits = (pieces-fit program pieces i piece c.loop-piece-test.true c.piece-item.is c.loop-piece.invariant.fits).1;
      room = rest-room c.args.condition c.args.list.now c.loop-piece.at next whole here rest c.args.shown.now split c.loop-piece.invariant.room is_next;
      next = rest-end c.args.condition c.args.list.now c.loop-piece.at next whole here rest c.args.shown.now split c.loop-piece.invariant.room is_next ∙ c.loop-piece.invariant.next;
      decided = λ later h. c.loop-piece.invariant.decided later
          (first-go c.args.condition c.args.list.now c.loop-piece.at next whole here rest c.args.shown.now split c.loop-piece.invariant.room is_next later c.in_ok-piece_shown.ensures.found h);
    }
