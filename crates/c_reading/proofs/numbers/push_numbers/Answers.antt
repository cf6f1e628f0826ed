use Rattle.std.proofs.Common.{rules}
use Rattle.c_reading.proofs.Sizes.{numbers_next}
use Rattle.c_reading.proofs.numbers.push_numbers.Goals as goal

pub loop-x-preserved : goal.loop-x-preserved
loop-x-preserved c = numbers_next c.args.k.now c.in-Some.x.now c.in-Some-split_first.y.now c.in-Some-small_number.n c.loop-x.numbers.items c.push.new.self.items c.loop-x.xs.now c.loop-x.ys.now c.in-Some.behind_x.now c.in-Some-split_first.behind_y.now _ (search rules) (search rules) (search rules) (search rules) c.loop-x.invariant
