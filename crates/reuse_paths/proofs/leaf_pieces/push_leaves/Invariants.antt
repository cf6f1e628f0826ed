use Rattle.std.proofs.Common.{◌≡◌, ◌++◌, drop, map}
use Rattle.std.specs.Prelude.{Result}
use Rattle.claims.specs.Claims.{Decides}
use Rattle.claims.specs.declared.refused.Refused.{Refused}
use Rattle.dep_quast.specs.Views.{read_of}
use Rattle.reuse_paths.specs.FewContexts.{few_leaves}
use Rattle.reuse_paths.specs.LeafClaims.{claim_of}
use Rattle.footprint_pieces.specs.Pieces.{pieces_of}
use Rattle.reuse_paths.specs.WalkPieces.{leaves_pieces}
use Rattle.reuse_paths.specs.WalkViews.{walk_of}
use Rattle.reuse_paths.proofs.leaf_pieces.push_leaves.Given as goal

abbrev pub invariant-loop-i : goal.invariant-loop-i
invariant-loop-i l = record {
  so_far : pieces_of l.pieces ++ leaves_pieces (walk_of l.walking) (read_of l.reader) l.rows (drop l.i l.leaves) (map claim_of (drop l.i l.entries))
      ≡ pieces_of l.initial.pieces ++ leaves_pieces (walk_of l.walking) (read_of l.reader) l.rows l.leaves (map claim_of l.entries);
  decided : (answer : Result (Unit {0}) Refused) → Decides (few_leaves l.list l.rows l.i (drop l.i l.leaves) (map claim_of (drop l.i l.entries))) answer → Decides (few_leaves l.list l.rows 0 l.leaves (map claim_of l.entries)) answer;
}
