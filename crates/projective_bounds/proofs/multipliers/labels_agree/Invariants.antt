use Rattle.std.proofs.Common.{◌≡◌, replicate}
use Rattle.projective_bounds.specs.Multipliers.{none_taken}
use Rattle.projective_bounds.proofs.multipliers.labels_agree.Given as goal

abbrev pub invariant-loop-member : goal.invariant-loop-member
invariant-loop-member l = l.all.items ≡ replicate l._member none_taken
