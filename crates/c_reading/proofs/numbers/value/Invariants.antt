use Rattle.std.proofs.Common.{◌≡◌, ◌≤◌, drop}
use Rattle.c_reading.specs.Numbers.{value_from}
use Rattle.c_reading.proofs.numbers.value.Given as goal
use Rattle.iolb_model.specs.declared.limits.TheConstants.{NUMBER_SIZE}

abbrev pub invariant-loop-b : goal.invariant-loop-b
invariant-loop-b l = (value_from l.n (drop l.b-index l.bytes) ≡ value_from 0 l.bytes) × (l.n ≤ NUMBER_SIZE)
