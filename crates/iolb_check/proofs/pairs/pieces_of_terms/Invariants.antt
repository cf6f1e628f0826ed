use Rattle.std.proofs.Common.{◌≡◌, ◌++◌, drop, map}
use Rattle.std.specs.List.{AllByRecursion}
use Rattle.affine_program.specs.Parts.{meaning}
use Rattle.footprint_pieces.specs.Pieces.{PieceFits, pieces_of}
use Rattle.dep_quast.specs.Quasts.{trees_of}
use Rattle.iolb_check.specs.Claims.{claim_of_term}
use Rattle.iolb_check.specs.Conditions.{branch_pieces}
use Rattle.iolb_check.proofs.pairs.pieces_of_terms.Given as goal

abbrev pub invariant-loop-term : goal.invariant-loop-term
invariant-loop-term l = record {
  so_far : map pieces_of l.lists.items ++ branch_pieces (meaning l.program) (trees_of l.quasts) (map claim_of_term (drop l.term-index l.terms))
      ≡ branch_pieces (meaning l.program) (trees_of l.quasts) (map claim_of_term l.terms);
  fit : AllByRecursion (AllByRecursion (PieceFits (meaning l.program))) (map pieces_of l.lists.items);
}
