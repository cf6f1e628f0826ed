use Rattle.std.proofs.Common.{◌≡◌, ◌++◌, drop, map}
use Rattle.affine_program.specs.Parts.{meaning}
use Rattle.dep_quast.specs.Quasts.{trees_of}
use Rattle.footprint_pieces.specs.TargetPairs.{items_of}
use Rattle.iolb_check.specs.Claims.{claim_of_term}
use Rattle.iolb_check.specs.PairFit.{term_targets}
use Rattle.iolb_check.proofs.fit_pairs.branch_targets.Given as goal

abbrev pub invariant-loop-term : goal.invariant-loop-term
invariant-loop-term l =
    map items_of l.lists.items ++ map (term_targets (meaning l.program) (trees_of l.quasts)) (map claim_of_term (drop l.term-index l.terms))
    ≡ map (term_targets (meaning l.program) (trees_of l.quasts)) (map claim_of_term l.terms)
