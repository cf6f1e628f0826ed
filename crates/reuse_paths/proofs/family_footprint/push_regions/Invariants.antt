use Rattle.std.proofs.Common.{◌≡◌, ◌++◌, drop}
use Rattle.std.specs.Prelude.{Result}
use Rattle.std.specs.List.{AllByRecursion}
use Rattle.claims.specs.Claims.{Decides, numbered}
use Rattle.claims.specs.declared.refused.Refused.{Refused}
use Rattle.reuse_paths.specs.FamilyPieces.{regions_pieces}
use Rattle.reuse_paths.specs.FewContexts.{few_region}
use Rattle.footprint_pieces.specs.Pieces.{pieces_of, PieceFits}
use Rattle.reuse_paths.specs.WalkViews.{walk_of}
use Rattle.reuse_paths.proofs.family_footprint.push_regions.Given as goal

abbrev pub invariant-loop-i : goal.invariant-loop-i
invariant-loop-i l = record {
  so_far : pieces_of l.pieces ++ regions_pieces (walk_of l.walking) l.i (drop l.i (walk_of l.walking).nodes)
      ≡ pieces_of l.initial.pieces ++ regions_pieces (walk_of l.walking) 0 (walk_of l.walking).nodes;
  fit : AllByRecursion (PieceFits (walk_of l.walking).program) (regions_pieces (walk_of l.walking) l.i (drop l.i (walk_of l.walking).nodes))
      → AllByRecursion (PieceFits (walk_of l.walking).program) (regions_pieces (walk_of l.walking) 0 (walk_of l.walking).nodes);
  decided : (answer : Result (Unit {0}) Refused) → Decides (numbered (few_region (walk_of l.walking) l.list) l.i (drop l.i (walk_of l.walking).nodes)) answer
      → Decides (numbered (few_region (walk_of l.walking) l.list) 0 (walk_of l.walking).nodes) answer;
}
