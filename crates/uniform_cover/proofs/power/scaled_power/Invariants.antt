use Rattle.std.proofs.Common.{◌≡◌, ◌*◌, ◌^◌, ◌<◌}
use Rattle.uniform_cover.proofs.power.scaled_power.Given as goal

abbrev pub invariant-loop : goal.invariant-loop
invariant-loop l = record {
  is : l.product ≡ l.factor * l.base ^ l.counter;
  fits : l.product < 2 ^ 128;
}
