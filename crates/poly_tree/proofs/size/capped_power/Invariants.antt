use Rattle.std.proofs.Common.{◌≡◌, ◌*◌, ◌-◌, ◌^◌, min}
use Rattle.poly_tree.proofs.size.capped_power.Given as goal
use Rattle.iolb_model.specs.declared.limits.TheConstants.{MEASURE}

abbrev pub invariant-loop : goal.invariant-loop
invariant-loop l = min (l.product * l.base ^ (l.exponent - l.counter)) MEASURE ≡ min (l.number * l.base ^ l.exponent) MEASURE
