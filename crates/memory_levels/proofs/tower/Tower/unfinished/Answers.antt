-- The first that isn't finished.
use Rattle.std.proofs.Common.{arith}
use Rattle.memory_levels.proofs.tower.Tower.unfinished.Goals as goal

pub returns-then-not-is_finished : goal.returns-then-not-is_finished
returns-then-not-is_finished c = record {
  there = omega (arith, c.loop-v-test.true, c.instances-v-end.ensures.instances);
  unfinished = λ finished. let yes = c.is_finished.ensures.1 finished in let no = c.if-not-is_finished.true in cc;
  before = c.loop-v.invariant;
}
