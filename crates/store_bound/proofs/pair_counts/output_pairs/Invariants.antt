use Rattle.std.proofs.Common.{◌≡◌, ◌+◌, ◌*◌, ◌≤◌, length, drop}
use Rattle.store_bound.specs.StoresFit.{output_pairs, statements_of}
use Rattle.store_bound.proofs.pair_counts.output_pairs.Given as goal
use Rattle.store_terms.specs.declared.limits.TheConstants.{OUTPUTS}

abbrev pub invariant-loop-i : goal.invariant-loop-i
invariant-loop-i l = record {
  pairs : l.pairs + length (output_pairs (statements_of (drop l.i l.outputs))) ≡ length (output_pairs (statements_of l.outputs));
  few : l.pairs ≤ OUTPUTS * l.i;
}
