use Rattle.std.proofs.Common.{◌-◌, ◌*◌, ◌^◌, ◌<◌, ◌≤◌}
use Rattle.uniform_cover.proofs.greatest.greatest_within.Given as goal

-- low is within, or is 1; high is not within
abbrev pub invariant-loop-low : goal.invariant-loop-low
invariant-loop-low l = record {
  at_least_one : 1 ≤ l.low;
  ordered : l.low ≤ l.high;
  small : l.high ≤ 2 ^ 127;
  within : 1 < l.low → l.low ^ l.q * l.den ≤ l.top;
  past : l.top < l.high ^ l.q * l.den;
}

abbrev pub decreases-loop-low : goal.decreases-loop-low
decreases-loop-low l = l.high - l.low
