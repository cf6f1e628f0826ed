use Rattle.std.proofs.Common.{ℕ}
use Rattle.iolb_commands.proofs.Sampled.{IsGreatestBelow}
use Rattle.iolb_commands.proofs.sampling.greatest_narrow.Given as goal

abbrev pub invariant-loop-branch : goal.invariant-loop-branch
invariant-loop-branch l = IsGreatestBelow l.bound.branches l.sizes l.s l.branch l.greatest
