-- The greatest number whose scaled power stays within a limit.
use Rattle.std.specs.Prelude.{ℕ, ◌*◌, ◌^◌, ◌<◌, ◌≤◌}

-- u is the greatest number with u^q * den at most top, and at least 1
pub record IsGreatest (q den top u : ℕ) : Type 0 where
  pub at_least_one : 1 ≤ u
  pub within : 1 < u → u ^ q * den ≤ top
  pub greatest : (v : ℕ) → v ^ q * den ≤ top → v ≤ u
