use Rattle.projective.proofs.trees.+turns.Given as goal

abbrev pub decreases-turns : goal.decreases-turns
decreases-turns l = l.loops
