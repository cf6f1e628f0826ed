use Rattle.std.proofs.Common.{◌≡◌, ◌+◌, ◌≤◌, length, drop}
use Rattle.std.specs.Prelude.{◌==◌, filter}
use Rattle.store_bound.specs.StoresFit.{statements_of}
use Rattle.store_bound.proofs.pair_counts.outputs_of.Given as goal

abbrev pub invariant-loop-output : goal.invariant-loop-output
invariant-loop-output l = record {
  many : l.count + length (filter (λ other. l.statement == other) (statements_of (drop l.output-index l.outputs))) ≡ length (filter (λ other. l.statement == other) (statements_of l.outputs));
  few : l.count ≤ l.output-index;
}
