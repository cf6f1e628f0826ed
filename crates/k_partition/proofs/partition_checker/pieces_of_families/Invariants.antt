use Rattle.std.proofs.Common.{◌≡◌, ◌++◌, drop, map}
use Rattle.std.specs.List.{AllByRecursion}
use Rattle.affine_program.specs.Parts.{meaning}
use Rattle.reuse_paths.specs.FamilyPieces.{family_pieces}
use Rattle.footprint_pieces.specs.Pieces.{pieces_of, PieceFits}
use Rattle.dep_quast.specs.Quasts.{trees_of}
use Rattle.k_partition.specs.PartitionClaims.{pieces_of_families}
use Rattle.k_partition.specs.View.{partition_of}
use Rattle.k_partition.proofs.partition_checker.pieces_of_families.Given as goal

abbrev pub invariant-loop-i : goal.invariant-loop-i
invariant-loop-i l = record {
  so_far : map pieces_of l.lists.items ++ map (family_pieces (meaning l.program) (trees_of l.quasts) (partition_of l.term).statement (partition_of l.term).nest) (drop l.i (partition_of l.term).families)
      ≡ pieces_of_families (meaning l.program) (trees_of l.quasts) (partition_of l.term);
  fit : AllByRecursion (AllByRecursion (PieceFits (meaning l.program))) (map pieces_of l.lists.items);
}
