use Rattle.std.proofs.Common.{rules, ◌≡◌, ◌∙◌, ap, subst, ℕ, ◌+◌, List, ◌++◌, length, map, drop, Vec, Global}
use Rattle.std.specs.Prelude.{Err}
use Rattle.affine_form.specs.System.{AffineSystem}
use Rattle.affine_program.specs.Parts.{meaning}
use Rattle.claims.specs.Claims.{AllHold, IsRefusal}
use Rattle.claims.proofs.Pointless.{claims_from}
use Rattle.footprint_pieces.specs.declared.piece.Piece.{Piece}
use Rattle.footprint_pieces.specs.DisjointClaims.{pairwise_systems, systems_with_lists}
use Rattle.footprint_pieces.specs.Pieces.{FootprintPiece, piece_of, pieces_of}
use Rattle.footprint_pieces.proofs.PairsFound.{first-stop, first-go, rest-room, split-lists, lists-fit}
use Rattle.footprint_pieces.proofs.disjoint.lists_shown.Goals as goal

pub returns-in_err-later_shown : goal.returns-in_err-later_shown
returns-in_err-later_shown c =
    let program = meaning c.args.program.now in
    let lists : List (Vec Piece Global) = c.args.lists.now in
    let i : ℕ = c.loop-i.i in
    let pieces : Vec Piece Global = c.index-lists-i.result in
    let r = c.in_err-later_shown.field-0.0 in
    let refused =
    c.loop-i.invariant.decided (Err r)
    (first-stop c.args.condition c.args.list.now c.loop-i.at c.loop-i.at (pairwise_systems program (map pieces_of (drop i lists))) (systems_with_lists program (pieces_of pieces) (map pieces_of (drop (i + 1) lists)))
    (pairwise_systems program (map pieces_of (drop (i + 1) lists))) c.args.shown.now (split-lists program lists i pieces c.loop-i-test.true c.index-lists-i.is) c.loop-i.invariant.room
    r
    (subst (λ (xs : List AffineSystem). IsRefusal (claims_from c.args.condition c.args.list.now c.loop-i.at xs c.args.shown.now) r)
    (ap (λ (ls : List (Vec Piece Global)). systems_with_lists program (map piece_of c.as_slice-pieces.result.now) (map pieces_of ls)) c.split_at.ensures.back
    ∙ ap (λ (ps : List Piece). systems_with_lists program (map piece_of ps) (map pieces_of (drop (i + 1) lists))) c.as_slice-pieces.ensures.value) c.in_err-later_shown.ensures.found)) in
    search rules

pub loop-i-preserved : goal.loop-i-preserved
loop-i-preserved c =
    let program = meaning c.args.program.now in
    let lists : List (Vec Piece Global) = c.args.lists.now in
    let i : ℕ = c.loop-i.i in
    let pieces : Vec Piece Global = c.index-lists-i.result in
    let later : List (List FootprintPiece) = map pieces_of (drop (i + 1) lists) in
    let whole : List AffineSystem = pairwise_systems program (map pieces_of (drop i lists)) in
    let here : List AffineSystem = systems_with_lists program (pieces_of pieces) later in
    let rest : List AffineSystem = pairwise_systems program later in
    let next : ℕ = c.later_shown.new.at in
    let split : whole ≡ here ++ rest = split-lists program lists i pieces c.loop-i-test.true c.index-lists-i.is in
    let same : systems_with_lists program (map piece_of c.as_slice-pieces.result.now) (map pieces_of c.split_at.result.1.now) ≡ here =
    ap (λ (ls : List (Vec Piece Global)). systems_with_lists program (map piece_of c.as_slice-pieces.result.now) (map pieces_of ls)) c.split_at.ensures.back
    ∙ ap (λ (ps : List Piece). systems_with_lists program (map piece_of ps) later) c.as_slice-pieces.ensures.value in
    let is_next : next ≡ c.loop-i.at + length here =
    subst (λ (xs : List AffineSystem). next ≡ c.loop-i.at + length xs) same
    (c.in_ok-later_shown.ensures.next) in
    let found : AllHold (claims_from c.args.condition c.args.list.now c.loop-i.at here c.args.shown.now) =
    subst (λ (xs : List AffineSystem). AllHold (claims_from c.args.condition c.args.list.now c.loop-i.at xs c.args.shown.now)) same c.in_ok-later_shown.ensures.found in
    record {
      fits = (lists-fit program lists i pieces c.loop-i-test.true c.index-lists-i.is c.loop-i.invariant.fits).1;
      room = rest-room c.args.condition c.args.list.now c.loop-i.at next whole here rest c.args.shown.now split c.loop-i.invariant.room is_next;
      decided = λ later h. c.loop-i.invariant.decided later
          (first-go c.args.condition c.args.list.now c.loop-i.at next whole here rest c.args.shown.now split c.loop-i.invariant.room is_next later found h);
    }
