use Rattle.std.proofs.Common.{◌≡◌, ◌+◌, ◌≤◌, length, drop, map}
use Rattle.std.specs.Prelude.{◌==◌, filter}
use Rattle.iolb_check.specs.Claims.{claim_of_term}
use Rattle.store_bound.specs.StoresFit.{word_statements}
use Rattle.store_bound.proofs.pair_counts.words_of.Given as goal

abbrev pub invariant-loop-term : goal.invariant-loop-term
invariant-loop-term l = record {
  many : l.count + length (filter (λ other. l.statement == other) (word_statements (map claim_of_term (drop l.term-index l.terms)))) ≡ length (filter (λ other. l.statement == other) (word_statements (map claim_of_term l.terms)));
  few : l.count ≤ l.term-index;
}
