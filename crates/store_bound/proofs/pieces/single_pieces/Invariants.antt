use Rattle.std.proofs.Common.{◌≡◌, ◌++◌, drop, map}
use Rattle.std.specs.List.{AllByRecursion}
use Rattle.affine_program.specs.Parts.{meaning}
use Rattle.footprint_pieces.specs.Pieces.{PieceFits, pieces_of}
use Rattle.store_bound.specs.StoresFit.{single_pieces}
use Rattle.store_bound.proofs.pieces.single_pieces.Given as goal
use Rattle.store_terms.specs.Claims.{claim_of_output}

abbrev pub invariant-loop-output : goal.invariant-loop-output
invariant-loop-output l = record {
  pieces : map pieces_of l.lists.items ++ single_pieces (meaning l.program) (map claim_of_output (drop l.output-index l.outputs)) ≡ single_pieces (meaning l.program) (map claim_of_output l.outputs);
  fit : AllByRecursion (AllByRecursion (PieceFits (meaning l.program))) (map pieces_of l.lists.items);
}
