use Rattle.std.proofs.Common.{◌≡◌, ◌++◌, drop, map}
use Rattle.std.specs.List.{AllByRecursion}
use Rattle.affine_program.specs.Parts.{meaning}
use Rattle.reuse_paths.specs.LeafClaims.{claim_of}
use Rattle.footprint_pieces.specs.Pieces.{PieceFits, piece_of}
use Rattle.wavefront.specs.ColdPieces.{stop_pieces}
use Rattle.wavefront.specs.View.{term_of}
use Rattle.wavefront.proofs.pieces.pieces_at.Given as goal

abbrev pub invariant-loop-i : goal.invariant-loop-i
invariant-loop-i l = record {
  so_far : map piece_of l.pieces.items ++ stop_pieces (meaning l.program) (term_of l.term) (drop l.i l.leaves) (map claim_of (drop l.i l.entries))
      ≡ stop_pieces (meaning l.program) (term_of l.term) l.leaves (map claim_of l.entries);
  fit : AllByRecursion (PieceFits (meaning l.program)) (map piece_of l.pieces.items);
}
