use Rattle.std.proofs.Common.{◌≡◌, ◌+◌, ◌≤◌, length, drop, map}
use Rattle.std.specs.Prelude.{Result}
use Rattle.std.specs.List.{AllByRecursion}
use Rattle.affine_program.specs.Parts.{meaning}
use Rattle.claims.specs.Claims.{Decides}
use Rattle.claims.specs.declared.refused.Refused.{Refused}
use Rattle.claims.specs.Shown.{pointless_claims}
use Rattle.footprint_pieces.specs.DisjointClaims.{systems_with}
use Rattle.footprint_pieces.specs.Pieces.{PieceFits, piece_of}
use Rattle.footprint_pieces.proofs.disjoint.piece_shown.Given as goal

abbrev pub invariant-loop-other : goal.invariant-loop-other
invariant-loop-other l = record {
  fits : AllByRecursion (PieceFits (meaning l.program)) (map piece_of (drop l.other-index l.others));
  room : l.at + length (systems_with (meaning l.program) (map piece_of (drop l.other-index l.others)) (piece_of l.piece)) ≤ length l.shown;
  next : l.at + length (systems_with (meaning l.program) (map piece_of (drop l.other-index l.others)) (piece_of l.piece)) ≡ l.fn.at + length (systems_with (meaning l.program) (map piece_of l.others) (piece_of l.piece));
  decided : (answer : Result (Unit {0}) Refused)
      → Decides (pointless_claims l.condition l.list l.at (systems_with (meaning l.program) (map piece_of (drop l.other-index l.others)) (piece_of l.piece)) (drop l.at l.shown)) answer
      → Decides (pointless_claims l.condition l.list l.fn.at (systems_with (meaning l.program) (map piece_of l.others) (piece_of l.piece)) (drop l.fn.at l.shown)) answer;
}
