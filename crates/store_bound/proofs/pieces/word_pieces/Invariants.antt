use Rattle.std.proofs.Common.{◌≡◌, ◌++◌, drop, map}
use Rattle.std.specs.List.{AllByRecursion}
use Rattle.affine_program.specs.Parts.{meaning}
use Rattle.footprint_pieces.specs.Pieces.{PieceFits, pieces_of}
use Rattle.iolb_check.specs.Claims.{claim_of_term}
use Rattle.store_bound.specs.Counted.{computed_fronts}
use Rattle.store_bound.proofs.pieces.word_pieces.Given as goal
use Rattle.wavefront.specs.FrontPieces.{front_piece}

abbrev pub invariant-loop-term : goal.invariant-loop-term
invariant-loop-term l = record {
  pieces : pieces_of l.pieces ++ map (front_piece (meaning l.program)) (computed_fronts (map claim_of_term (drop l.term-index l.terms))) ≡ map (front_piece (meaning l.program)) (computed_fronts (map claim_of_term l.terms));
  fit : AllByRecursion (PieceFits (meaning l.program)) (pieces_of l.pieces);
}
