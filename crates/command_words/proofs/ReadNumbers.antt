-- Numbers that are read one by one.
use Rattle.std.specs.Prelude.{ℕ, List, ◌++◌, Option, option_map}

-- these numbers and then others, if there are others
abbrev pub numbers-behind : List ℕ → Option (List ℕ) → Option (List ℕ)
numbers-behind front o = option_map (λ numbers. front ++ numbers) o
