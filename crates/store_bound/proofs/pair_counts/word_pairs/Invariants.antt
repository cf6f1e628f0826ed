use Rattle.std.proofs.Common.{◌≡◌, ◌+◌, ◌*◌, ◌≤◌, length, drop, map}
use Rattle.iolb_check.specs.Claims.{claim_of_term}
use Rattle.iolb_model.specs.declared.limits.TheConstants.{TERMS}
use Rattle.store_bound.specs.StoresFit.{statements_of, word_pairs, word_statements}
use Rattle.store_bound.proofs.pair_counts.word_pairs.Given as goal

abbrev pub invariant-loop-output : goal.invariant-loop-output
invariant-loop-output l = record {
  pairs : l.pairs + length (word_pairs (statements_of (drop l.output-index l.outputs)) (word_statements (map claim_of_term l.terms))) ≡ length (word_pairs (statements_of l.outputs) (word_statements (map claim_of_term l.terms)));
  few : l.pairs ≤ TERMS * l.output-index;
}
