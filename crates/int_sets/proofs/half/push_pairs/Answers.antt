use Rattle.std.proofs.Common.{◌∷◌, []}
use Rattle.base_laws.proofs.Lists.{All-push, All-at}
use Rattle.int_sets.specs.Halves.{IsHalf}
use Rattle.int_sets.proofs.Held.{Holds-append, pairs-push, pairs-skip}
use Rattle.int_sets.proofs.half.push_pairs.Goals as goal
use Rattle.int_sets.proofs.half.push_pairs.Goals.{then-is_behind+in_ok-push, else-is_behind}

pub loop-second-preserved : goal.loop-second-preserved
loop-second-preserved c = elim c.if-is_behind.branch [
  | then-is_behind+in_ok-push w ↦ rw (w.halves-is, w.in_ok-push.ensures.items) (record {
    halves = All-push (IsHalf c.args.system.now.rows) c.loop-second.halves.items w.two_rows.result c.loop-second.invariant.halves w.two_rows.ensures.half;
    kept = λ weights held. Holds-append c.loop-second.halves.items (w.two_rows.result ∷ []) weights (c.loop-second.invariant.kept weights held);
    pairs = pairs-push c.args.first.now c.args.small.now c.loop-second.halves.items c.loop-second.second-index _ w.two_rows.result c.loop-second-test.true w.two_rows.ensures.weights c.loop-second.invariant.pairs;
  })
  | else-is_behind w ↦ rw w.halves-is (record {
    halves = c.loop-second.invariant.halves;
    kept = c.loop-second.invariant.kept;
    pairs = pairs-skip c.args.first.now c.args.small.now c.loop-second.halves.items c.loop-second.second-index _ c.loop-second-test.true c.requires.first.two
        (All-at (IsHalf c.args.system.now.rows) c.args.small.now c.loop-second.second-index _ c.requires.small c.loop-second-test.true).two
        (λ one less. let t = w.if-is_behind.ensures.1 (one, less) in absurd cc) c.loop-second.invariant.pairs;
  })
]
