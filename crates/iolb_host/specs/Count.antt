-- Counts of faults, as counters of 64 bits keep them.
use Rattle.std.specs.Prelude.{◌≡◌, ℕ, ◌+◌, ◌-◌, ◌^◌, nat_lt, if◌then◌else◌}

-- what follows a count: one more, but a counter stays at its last value
abbrev pub next_count : ℕ → ℕ
next_count count = if nat_lt count (2 ^ 64 - 1) then count + 1 else count

-- A count rose in a call.
abbrev pub Rose : ℕ → ℕ → Type 0
Rose old new = new ≡ next_count old
