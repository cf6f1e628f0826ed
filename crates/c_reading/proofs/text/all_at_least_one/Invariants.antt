use Rattle.std.proofs.Common.{◌≡◌}
use Rattle.c_reading.specs.Text.{all_at_least_one}
use Rattle.c_reading.proofs.text.all_at_least_one.Given as goal

abbrev pub invariant-loop-k : goal.invariant-loop-k
invariant-loop-k l = l.rows ≡ all_at_least_one l.k
