use Rattle.std.proofs.Common.{arith}
use Rattle.std.proofs.lemmas.Grind.{common_steps}
use Rattle.std.proofs.lemmas.Int.{ints}
use Rattle.c_reading.proofs.Sizes.{abs_product}
use Rattle.c_reading.proofs.numbers.times.Goals as goal

pub overflow_mul-result : goal.overflow_mul-result
overflow_mul-result c = grind (arith, common_steps, ints, abs_product)

pub returns-clause-size : goal.returns-clause-size
returns-clause-size c = grind (arith, common_steps, ints, abs_product)
