use Rattle.std.proofs.Common.{◌≡◌, ◌++◌, drop}
use Rattle.std.specs.Prelude.{flat_map}
use Rattle.std.specs.List.{AllByRecursion}
use Rattle.affine_program.specs.Parts.{meaning}
use Rattle.reuse_paths.specs.FamilyPieces.{family_pieces}
use Rattle.footprint_pieces.specs.Pieces.{pieces_of, PieceFits}
use Rattle.dep_quast.specs.Quasts.{trees_of}
use Rattle.k_partition.specs.PartitionPieces.{partition_pieces}
use Rattle.k_partition.specs.View.{partition_of}
use Rattle.k_partition.proofs.partition_checker.partition_pieces.Given as goal

abbrev pub invariant-loop-i : goal.invariant-loop-i
invariant-loop-i l = record {
  so_far : pieces_of l.all ++ flat_map (family_pieces (meaning l.program) (trees_of l.quasts) (partition_of l.term).statement (partition_of l.term).nest) (drop l.i (partition_of l.term).families)
      ≡ partition_pieces (meaning l.program) (trees_of l.quasts) (partition_of l.term);
  fit : AllByRecursion (PieceFits (meaning l.program)) (pieces_of l.all);
}
