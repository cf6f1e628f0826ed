use Rattle.int_sets.proofs.longer.divisor_of.Given as goal

abbrev pub decreases-loop-lesser : goal.decreases-loop-lesser
decreases-loop-lesser l = l.lesser
