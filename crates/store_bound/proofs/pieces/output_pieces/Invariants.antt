use Rattle.std.proofs.Common.{◌≡◌, ◌++◌, drop, map}
use Rattle.std.specs.List.{AllByRecursion}
use Rattle.affine_program.specs.Parts.{meaning}
use Rattle.footprint_pieces.specs.Pieces.{PieceFits, pieces_of}
use Rattle.store_bound.specs.StoresFit.{output_pieces}
use Rattle.store_bound.proofs.pieces.output_pieces.Given as goal
use Rattle.store_terms.specs.Claims.{claim_of_output}

abbrev pub invariant-loop-output : goal.invariant-loop-output
invariant-loop-output l = record {
  pieces : pieces_of l.pieces ++ output_pieces (meaning l.program) (map claim_of_output (drop l.output-index l.outputs)) ≡ output_pieces (meaning l.program) (map claim_of_output l.outputs);
  fit : AllByRecursion (PieceFits (meaning l.program)) (pieces_of l.pieces);
}
