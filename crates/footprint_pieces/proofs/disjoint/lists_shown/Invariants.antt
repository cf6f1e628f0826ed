use Rattle.std.proofs.Common.{◌+◌, ◌≤◌, length, drop, map}
use Rattle.std.specs.Prelude.{Result}
use Rattle.std.specs.List.{AllByRecursion}
use Rattle.affine_program.specs.Parts.{meaning}
use Rattle.claims.specs.Claims.{Decides}
use Rattle.claims.specs.declared.refused.Refused.{Refused}
use Rattle.claims.specs.Shown.{pointless_claims}
use Rattle.footprint_pieces.specs.DisjointClaims.{pairwise_systems}
use Rattle.footprint_pieces.specs.Pieces.{PieceFits, pieces_of}
use Rattle.footprint_pieces.proofs.disjoint.lists_shown.Given as goal

abbrev pub invariant-loop-i : goal.invariant-loop-i
invariant-loop-i l = record {
  fits : AllByRecursion (AllByRecursion (PieceFits (meaning l.program))) (map pieces_of (drop l.i l.lists));
  room : l.at + length (pairwise_systems (meaning l.program) (map pieces_of (drop l.i l.lists))) ≤ length l.shown;
  decided : (answer : Result (Unit {0}) Refused)
      → Decides (pointless_claims l.condition l.list l.at (pairwise_systems (meaning l.program) (map pieces_of (drop l.i l.lists))) (drop l.at l.shown)) answer
      → Decides (pointless_claims l.condition l.list 0 (pairwise_systems (meaning l.program) (map pieces_of l.lists)) l.shown) answer;
}
