use Rattle.std.proofs.Common.{◌≡◌, ◌+◌, ◌≤◌, length, drop, map}
use Rattle.std.specs.Prelude.{Result}
use Rattle.std.specs.List.{AllByRecursion}
use Rattle.affine_program.specs.Parts.{meaning}
use Rattle.claims.specs.Claims.{Decides}
use Rattle.claims.specs.declared.refused.Refused.{Refused}
use Rattle.claims.specs.Shown.{pointless_claims}
use Rattle.footprint_pieces.specs.DisjointClaims.{systems_with_lists}
use Rattle.footprint_pieces.specs.Pieces.{PieceFits, piece_of, pieces_of}
use Rattle.footprint_pieces.proofs.disjoint.later_shown.Given as goal

abbrev pub invariant-loop-others : goal.invariant-loop-others
invariant-loop-others l = record {
  fits : AllByRecursion (AllByRecursion (PieceFits (meaning l.program))) (map pieces_of (drop l.others-index l.later));
  room : l.at + length (systems_with_lists (meaning l.program) (map piece_of l.pieces) (map pieces_of (drop l.others-index l.later))) ≤ length l.shown;
  next : l.at + length (systems_with_lists (meaning l.program) (map piece_of l.pieces) (map pieces_of (drop l.others-index l.later))) ≡ l.fn.at + length (systems_with_lists (meaning l.program) (map piece_of l.pieces) (map pieces_of l.later));
  decided : (answer : Result (Unit {0}) Refused)
      → Decides (pointless_claims l.condition l.list l.at (systems_with_lists (meaning l.program) (map piece_of l.pieces) (map pieces_of (drop l.others-index l.later))) (drop l.at l.shown)) answer
      → Decides (pointless_claims l.condition l.list l.fn.at (systems_with_lists (meaning l.program) (map piece_of l.pieces) (map pieces_of l.later)) (drop l.fn.at l.shown)) answer;
}
