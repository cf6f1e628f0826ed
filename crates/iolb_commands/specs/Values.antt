-- The lines of values.
use Rattle.std.specs.Prelude.{ℕ, ◌+◌, ℤ, List, [], ◌∷◌, ◌++◌, length, codes, decimal}
use Rattle.iolb_model.specs.Bound.{Bound, BoundTerm, branch_value, bound_value}
use Rattle.iolb_model.specs.Parallel.{parallel_value}
use Rattle.iolb_model.specs.declared.tower.TowerMove.{TowerMove}
use Rattle.memory_levels.specs.declared.climbs.Crossed.{Crossed}
use Rattle.memory_levels.specs.Climbs.{crossings}
use Rattle.memory_levels.specs.Values.{level_values}

-- the value of each branch from this number on
abbrev pub branch_value_lines : ℕ → List (List BoundTerm) → List ℤ → ℕ → List ℕ
branch_value_lines number [] sizes s = []
branch_value_lines number (terms ∷ branches) sizes s =
    codes "branch " ++ decimal number ++ codes " " ++ decimal (branch_value terms sizes s) ++ codes "\n" ++ branch_value_lines (number + 1) branches sizes s

-- the value of each branch, and that of the bound
abbrev pub values_text : Bound → List ℤ → ℕ → List ℕ
values_text bound sizes s = branch_value_lines 0 bound.branches sizes s ++ codes "value " ++ decimal (bound_value bound sizes s) ++ codes "\n"

-- so many processors, and a value for them
abbrev pub processor_lines : ℕ → ℕ → List ℕ
processor_lines processors value = codes "processors " ++ decimal processors ++ codes "\nvalue " ++ decimal value ++ codes "\n"

-- the value of a bound for so many processors
abbrev pub parallel_text : ℕ → Bound → List ℤ → ℕ → List ℕ
parallel_text processors bound sizes s = processor_lines processors (parallel_value bound sizes processors s)

-- so many loads, so many stores, and both together
abbrev pub traffic_text : ℕ → ℕ → List ℕ
traffic_text loads stores = codes "loads " ++ decimal loads ++ codes "\nstores " ++ decimal stores ++ codes "\ntraffic " ++ decimal (loads + stores) ++ codes "\n"

-- a boundary's value
abbrev pub boundary_line : ℕ → ℕ → List ℕ
boundary_line boundary value = codes "boundary " ++ decimal boundary ++ codes " " ++ decimal value ++ codes "\n"

-- a value for each boundary, from this one on
abbrev pub boundary_lines : ℕ → List ℕ → List ℕ
boundary_lines boundary [] = []
boundary_lines boundary (value ∷ values) = boundary_line boundary value ++ boundary_lines (boundary + 1) values

-- the value of a bound for each boundary of levels
abbrev pub levels_text : Bound → List ℤ → List ℕ → List ℕ
levels_text bound sizes capacities = boundary_lines 1 (level_values bound sizes capacities)

-- how many words are brought and sent over a boundary
abbrev pub crossing_line : ℕ → Crossed → List ℕ
crossing_line boundary crossed =
    codes "boundary " ++ decimal boundary ++ codes " brings " ++ decimal crossed.brings ++ codes " sends " ++ decimal crossed.sends ++ codes "\n"

-- the same of each boundary, from this one on
abbrev pub crossing_lines : ℕ → List Crossed → List ℕ
crossing_lines boundary [] = []
crossing_lines boundary (crossed ∷ others) = crossing_line boundary crossed ++ crossing_lines (boundary + 1) others

-- what a play over levels brings and sends over each boundary
abbrev pub climb_text : List ℕ → List TowerMove → List ℕ
climb_text capacities moves = crossing_lines 1 (crossings (length capacities) moves)
