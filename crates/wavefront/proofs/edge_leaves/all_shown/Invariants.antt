use Rattle.std.proofs.Common.{drop, length, map}
use Rattle.std.specs.Prelude.{Result, option_map}
use Rattle.claims.specs.Claims.{Decides}
use Rattle.claims.specs.declared.refused.Refused.{Refused}
use Rattle.reuse_paths.specs.LeafClaims.{claim_of}
use Rattle.reuse_paths.specs.Walks.{spot_of}
use Rattle.wavefront.specs.EdgeViews.{AreFit}
use Rattle.wavefront.specs.FrontClaims.{edges_claims}
use Rattle.wavefront.proofs.edge_leaves.all_shown.Given as goal

abbrev pub invariant-loop-i : goal.invariant-loop-i
invariant-loop-i l = record {
  fit : AreFit l.vars (length l.point) (option_map spot_of l.source) (drop l.i l.leaves) (map claim_of (drop l.i l.entries));
  whole : (answer : Result (Unit {0}) Refused) → Decides (edges_claims l.vars l.rows l.point (option_map spot_of l.source) l.list l.i (drop l.i l.leaves) (map claim_of (drop l.i l.entries))) answer
      → Decides (edges_claims l.vars l.rows l.point (option_map spot_of l.source) l.list 0 l.leaves (map claim_of l.entries)) answer;
}
