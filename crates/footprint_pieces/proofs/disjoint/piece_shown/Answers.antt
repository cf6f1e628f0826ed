use Rattle.std.proofs.Common.{◌≡◌, true, false, sym, ◌∙◌, ap, subst, ℕ, ◌+◌, List, [], ◌∷◌, ◌++◌, length, map, drop, arith}
use Rattle.std.specs.Prelude.{Ok}
use Rattle.affine_form.specs.Multipliers.{FarkasMultipliers}
use Rattle.affine_form.specs.System.{AffineSystem}
use Rattle.affine_program.specs.Parts.{meaning}
use Rattle.claims.specs.Claims.{AllHold, Decides}
use Rattle.claims.proofs.Pointless.{claims_from}
use Rattle.footprint_pieces.specs.declared.piece.Piece.{Piece}
use Rattle.footprint_pieces.specs.DisjointClaims.{same_target, shared_system, systems_with}
use Rattle.footprint_pieces.specs.Pieces.{FootprintPiece, piece_of}
use Rattle.footprint_pieces.proofs.PairsFound.{first-go, rest-room, rest-end, split-other, split-same, pair-found, pieces-fit}
use Rattle.footprint_pieces.proofs.disjoint.piece_shown.Goals as goal
use Rattle.footprint_pieces.proofs.disjoint.piece_shown.Goals.{then-is_same+in_ok-member+in_ok-pair_shown, else-is_same}

pub loop-other-preserved : goal.loop-other-preserved
loop-other-preserved c =
    let program = meaning c.args.program.now in
    let piece : FootprintPiece = piece_of c.args.piece.now in
    let others : List Piece = c.args.others.now in
    let shown : List FarkasMultipliers = c.args.shown.now in
    let at : ℕ = c.loop-other.at in
    let i : ℕ = c.loop-other.other-index in
    let other : Piece = c.other-item.result in
    let whole : List AffineSystem = systems_with program (map piece_of (drop i others)) piece in
    let here : List AffineSystem = shared_system program piece (piece_of other) ∷ [] in
    let rest : List AffineSystem = systems_with program (map piece_of (drop (i + 1) others)) piece in
    let fits = (pieces-fit program others i other c.loop-other-test.true c.other-item.is c.loop-other.invariant.fits).1 in
    elim c.if-is_same.branch [
      | then-is_same+in_ok-member+in_ok-pair_shown w ↦
          let same : same_target piece.target other.target ≡ true = sym c.is_same.ensures ∙ w.if-is_same.true in
          let split : whole ≡ here ++ rest = split-same program piece others i other c.loop-other-test.true c.other-item.is same in
          let is_next : at + 1 ≡ at + length here = omega arith in
          let room = rest-room c.args.condition c.args.list.now at (at + 1) whole here rest shown split c.loop-other.invariant.room is_next in
          let end = rest-end c.args.condition c.args.list.now at (at + 1) whole here rest shown split c.loop-other.invariant.room is_next in
          let found : AllHold (claims_from c.args.condition c.args.list.now at here shown) =
          pair-found program piece (piece_of other) c.args.condition c.args.list.now w.in_ok-member.member at shown w.index-shown-at.result (Ok tt) (omega (arith, room)) w.index-shown-at.is w.in_ok-member.ensures w.in_ok-pair_shown.ensures in
          record {
            fits = fits;
            room = omega (arith, w.at-is, room);
            next = omega (arith, w.at-is, end, c.loop-other.invariant.next);
            decided = λ later h. c.loop-other.invariant.decided later
                (first-go c.args.condition c.args.list.now at (at + 1) whole here rest shown split c.loop-other.invariant.room is_next later found
                (subst (λ (n : ℕ). Decides (claims_from c.args.condition c.args.list.now n rest shown) later) w.at-is h));
          }
      | else-is_same w ↦
          let same : same_target piece.target other.target ≡ false = sym c.is_same.ensures ∙ w.if-is_same.false in
          let split : whole ≡ rest = split-other program piece others i other c.loop-other-test.true c.other-item.is same in
          record {
            fits = fits;
            room = omega (arith, w.at-is, ap length split, c.loop-other.invariant.room);
            next = omega (arith, w.at-is, ap length split, c.loop-other.invariant.next);
            decided = λ later h. c.loop-other.invariant.decided later
                (subst (λ (xs : List AffineSystem). Decides (claims_from c.args.condition c.args.list.now at xs shown) later) (sym split)
                (subst (λ (n : ℕ). Decides (claims_from c.args.condition c.args.list.now n rest shown) later) w.at-is h));
          }
    ]
