use Rattle.std.proofs.Common.{◌≡◌, ◌+◌, ◌≤◌, length, drop, map}
use Rattle.std.specs.Prelude.{Result}
use Rattle.std.specs.List.{AllByRecursion}
use Rattle.affine_program.specs.Parts.{meaning}
use Rattle.claims.specs.Claims.{Decides}
use Rattle.claims.specs.declared.refused.Refused.{Refused}
use Rattle.claims.specs.Shown.{pointless_claims}
use Rattle.footprint_pieces.specs.DisjointClaims.{shared_systems}
use Rattle.footprint_pieces.specs.Pieces.{PieceFits, piece_of}
use Rattle.footprint_pieces.proofs.disjoint.pieces_shown.Given as goal

abbrev pub invariant-loop-piece : goal.invariant-loop-piece
invariant-loop-piece l = record {
  fits : AllByRecursion (PieceFits (meaning l.program)) (map piece_of (drop l.piece-index l.pieces));
  room : l.at + length (shared_systems (meaning l.program) (map piece_of (drop l.piece-index l.pieces)) (map piece_of l.others)) ≤ length l.shown;
  next : l.at + length (shared_systems (meaning l.program) (map piece_of (drop l.piece-index l.pieces)) (map piece_of l.others)) ≡ l.fn.at + length (shared_systems (meaning l.program) (map piece_of l.pieces) (map piece_of l.others));
  decided : (answer : Result (Unit {0}) Refused)
      → Decides (pointless_claims l.condition l.list l.at (shared_systems (meaning l.program) (map piece_of (drop l.piece-index l.pieces)) (map piece_of l.others)) (drop l.at l.shown)) answer
      → Decides (pointless_claims l.condition l.list l.fn.at (shared_systems (meaning l.program) (map piece_of l.pieces) (map piece_of l.others)) (drop l.fn.at l.shown)) answer;
}
