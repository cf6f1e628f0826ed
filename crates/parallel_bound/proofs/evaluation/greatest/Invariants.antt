use Rattle.std.proofs.Common.{◌≡◌, drop}
use Rattle.iolb_check.specs.Bounds.{lists}
use Rattle.parallel_bound.specs.Widths.{HasWideParallelBranch, greatest_parallel_branch}
use Rattle.parallel_bound.proofs.evaluation.greatest.Given as goal

abbrev pub invariant-loop-terms : goal.invariant-loop-terms
invariant-loop-terms l = record {
  best : greatest_parallel_branch (lists (drop l.terms-index l.branches)) l.point l.processors l.s l.best ≡ greatest_parallel_branch (lists l.branches) l.point l.processors l.s 0;
  wide : HasWideParallelBranch l.point l.processors l.s (lists (drop l.terms-index l.branches)) → HasWideParallelBranch l.point l.processors l.s (lists l.branches);
  narrow : (HasWideParallelBranch l.point l.processors l.s (lists (drop l.terms-index l.branches)) → ⊥) → HasWideParallelBranch l.point l.processors l.s (lists l.branches) → ⊥;
}
