use Rattle.std.proofs.Common.{rules, ◌≡◌, ◌∙◌, ap, subst, ℕ, ◌+◌, List, ◌++◌, length, map, drop, Vec, Global}
use Rattle.std.specs.Prelude.{Err}
use Rattle.affine_form.specs.System.{AffineSystem}
use Rattle.affine_program.specs.Parts.{meaning}
use Rattle.claims.specs.Claims.{AllHold, IsRefusal}
use Rattle.claims.proofs.Pointless.{claims_from}
use Rattle.footprint_pieces.specs.declared.piece.Piece.{Piece}
use Rattle.footprint_pieces.specs.DisjointClaims.{shared_systems, systems_with_lists}
use Rattle.footprint_pieces.specs.Pieces.{FootprintPiece, piece_of, pieces_of}
use Rattle.footprint_pieces.proofs.PairsFound.{first-stop, first-go, rest-room, rest-end, split-later, lists-fit}
use Rattle.footprint_pieces.proofs.disjoint.later_shown.Goals as goal

pub returns-in_err-pieces_shown-clause-found : goal.returns-in_err-pieces_shown-clause-found
returns-in_err-pieces_shown-clause-found c =
    let program = meaning c.args.program.now in
    let pieces : List FootprintPiece = map piece_of c.args.pieces.now in
    let lists : List (Vec Piece Global) = c.args.later.now in
    let i : ℕ = c.loop-others.others-index in
    let others : Vec Piece Global = c.others-item.result in
    let r = c.in_err-pieces_shown.field-0.0 in
    let refused =
    c.loop-others.invariant.decided (Err r)
    (first-stop c.args.condition c.args.list.now c.loop-others.at c.loop-others.at (systems_with_lists program pieces (map pieces_of (drop i lists))) (shared_systems program pieces (pieces_of others))
    (systems_with_lists program pieces (map pieces_of (drop (i + 1) lists))) c.args.shown.now (split-later program pieces lists i others c.loop-others-test.true c.others-item.is) c.loop-others.invariant.room
    r
    (subst (λ (ps : List Piece). IsRefusal (claims_from c.args.condition c.args.list.now c.loop-others.at (shared_systems program pieces (map piece_of ps)) c.args.shown.now) r) c.as_slice-others.ensures.value c.in_err-pieces_shown.ensures.found)) in
    search rules

pub loop-others-preserved : goal.loop-others-preserved
loop-others-preserved c =
    let program = meaning c.args.program.now in
    let pieces : List FootprintPiece = map piece_of c.args.pieces.now in
    let lists : List (Vec Piece Global) = c.args.later.now in
    let i : ℕ = c.loop-others.others-index in
    let others : Vec Piece Global = c.others-item.result in
    let whole : List AffineSystem = systems_with_lists program pieces (map pieces_of (drop i lists)) in
    let here : List AffineSystem = shared_systems program pieces (pieces_of others) in
    let rest : List AffineSystem = systems_with_lists program pieces (map pieces_of (drop (i + 1) lists)) in
    let next : ℕ = c.pieces_shown.new.at in
    let split : whole ≡ here ++ rest = split-later program pieces lists i others c.loop-others-test.true c.others-item.is in
    let same : shared_systems program pieces (map piece_of c.as_slice-others.result.now) ≡ here = ap (λ (ps : List Piece). shared_systems program pieces (map piece_of ps)) c.as_slice-others.ensures.value in
    let is_next : next ≡ c.loop-others.at + length here =
    subst (λ (xs : List AffineSystem). next ≡ c.loop-others.at + length xs) same
    (c.in_ok-pieces_shown.ensures.next) in
    let found : AllHold (claims_from c.args.condition c.args.list.now c.loop-others.at here c.args.shown.now) =
    subst (λ (xs : List AffineSystem). AllHold (claims_from c.args.condition c.args.list.now c.loop-others.at xs c.args.shown.now)) same c.in_ok-pieces_shown.ensures.found in
    record {
      fits = (lists-fit program lists i others c.loop-others-test.true c.others-item.is c.loop-others.invariant.fits).1;
      room = rest-room c.args.condition c.args.list.now c.loop-others.at next whole here rest c.args.shown.now split c.loop-others.invariant.room is_next;
      next = rest-end c.args.condition c.args.list.now c.loop-others.at next whole here rest c.args.shown.now split c.loop-others.invariant.room is_next ∙ c.loop-others.invariant.next;
      decided = λ later h. c.loop-others.invariant.decided later
          (first-go c.args.condition c.args.list.now c.loop-others.at next whole here rest c.args.shown.now split c.loop-others.invariant.room is_next later found h);
    }
