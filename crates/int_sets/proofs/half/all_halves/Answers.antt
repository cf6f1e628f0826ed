use Rattle.int_sets.proofs.Held.{pairs-more, two-held}
use Rattle.int_sets.proofs.half.all_halves.Goals as goal

pub loop-first-preserved : goal.loop-first-preserved
loop-first-preserved c = record {
  halves = c.in_ok-push_pairs.ensures.halves;
  kept = λ weights held. c.in_ok-push_pairs.ensures.kept weights (c.loop-first.invariant.kept weights held);
  pairs = pairs-more c.args.small.now c.loop-first.halves.items c.push_pairs.new.halves.items c.loop-first.first-index _ c.loop-first-test.true
      c.in_ok-push_pairs.ensures.kept c.in_ok-push_pairs.ensures.pairs c.loop-first.invariant.pairs;
}

pub returns-clause-all : goal.returns-clause-all
returns-clause-all c =
    two-held c.args.system.now.rows c.args.small.now c.loop-first.halves.items c.loop-first.first-index c.requires.all c.loop-first.invariant.kept c.loop-first.invariant.pairs
    c.loop-first-test.false
