use Rattle.std.proofs.Common.{◌≡◌, drop}
use Rattle.iolb_check.specs.Bounds.{HasWideBranch, greatest_branch, lists}
use Rattle.iolb_check.proofs.evaluation.greatest.Given as goal

abbrev pub invariant-loop-terms : goal.invariant-loop-terms
invariant-loop-terms l = record {
  best : greatest_branch (lists (drop l.terms-index l.branches)) l.point l.s l.best ≡ greatest_branch (lists l.branches) l.point l.s 0;
  wide : HasWideBranch l.point l.s (lists (drop l.terms-index l.branches)) → HasWideBranch l.point l.s (lists l.branches);
  narrow : (HasWideBranch l.point l.s (lists (drop l.terms-index l.branches)) → ⊥) → HasWideBranch l.point l.s (lists l.branches) → ⊥;
}
