-- Products of powers that are printed one after another.
use Rattle.std.specs.Prelude.{ℕ, ◌==◌, Bool, not, if◌then◌else◌, List, ◌++◌, filter, flat_map, codes}
use Rattle.std.specs.List.{join_by}
use Rattle.iolb_model.specs.Printed.{power_text}

-- the powers that are left, without those of exponent 0, where one stands before them or none does
abbrev pub powers_after : Bool → List (List ℕ × ℕ) → List ℕ
powers_after started powers =
    let shown = filter (λ power. not (power.1 == 0)) powers
    in if started then flat_map (λ power. codes "*" ++ power_text power) shown else join_by power_text (codes "*") shown
