use Rattle.std.proofs.Common.{◌≡◌, ◌≤◌, ◌+◌, min, max, drop, map}
use Rattle.std.specs.Prelude.{fold}
use Rattle.iolb_model.specs.Parallel.{own_part}
use Rattle.iolb_model.specs.declared.limits.TheConstants.{MEASURE}
use Rattle.iolb_check.specs.Bounds.{terms_of}
use Rattle.parallel_bound.specs.Widths.{HasWideParallelTerm, shared_sum}
use Rattle.parallel_bound.proofs.evaluation.branch_at.Given as goal

abbrev pub invariant-loop-term : goal.invariant-loop-term
invariant-loop-term l = record {
  low : l.all_shared ≤ MEASURE;
  shared : min (l.all_shared + shared_sum (drop l.term-index l.terms) l.point l.processors l.s) MEASURE ≡ min (shared_sum l.terms l.point l.processors l.s) MEASURE;
  own : fold max l.greatest_own (map (λ term. own_part term l.point l.processors l.s) (terms_of (drop l.term-index l.terms)))
      ≡ fold max 0 (map (λ term. own_part term l.point l.processors l.s) (terms_of l.terms));
  wide : HasWideParallelTerm l.point l.processors l.s (drop l.term-index l.terms) → HasWideParallelTerm l.point l.processors l.s l.terms;
  narrow : (HasWideParallelTerm l.point l.processors l.s (drop l.term-index l.terms) → ⊥) → HasWideParallelTerm l.point l.processors l.s l.terms → ⊥;
}
