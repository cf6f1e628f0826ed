use Rattle.std.proofs.Common.{ap, ℕ, ◌+◌, List, length, drop, map, arith}
use Rattle.std.specs.Prelude.{◌==◌, filter}
use Rattle.std.proofs.lemmas.List.{length-append}
use Rattle.base_laws.proofs.Lists.{rest_at}
use Rattle.iolb_check.specs.Claims.{claim_of_term}
use Rattle.store_bound.specs.StoresFit.{statements_of, word_pairs, word_statements}
use Rattle.store_bound.proofs.pair_counts.word_pairs.Goals as goal
use Rattle.store_terms.specs.declared.output.Output.{Output}

pub loop-output-preserved : goal.loop-output-preserved
loop-output-preserved c =
    let outputs : List Output = c.args.outputs.now in
    let i : ℕ = c.loop-output.output-index in
    let o : Output = c.output-item.result in
    let words : List ℕ = word_statements (map claim_of_term c.args.terms.now) in
    let split = ap (λ (os : List Output). length (word_pairs (statements_of os) words)) (rest_at outputs i o c.loop-output-test.true c.output-item.is) in
    record {
      pairs = omega (
        arith,
        split,
        length-append (filter (λ (other : ℕ). o.statement == other) words) (word_pairs (statements_of (drop (i + 1) outputs)) words),
        c.words_of-pairs.ensures.many,
        c.loop-output.invariant.pairs,
      );
      few = omega (arith, c.words_of-pairs.ensures.few, c.requires.terms, c.loop-output.invariant.few);
    }
