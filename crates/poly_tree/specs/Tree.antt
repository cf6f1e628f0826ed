-- The code's trees as expansions.
use Rattle.std.specs.Prelude.{ℕ, List, map, slice_index_or, pos}
use Rattle.poly_tree.specs.declared.tree.Tree.{Tree}
use Rattle.poly_tree.specs.declared.tree.Tree.TheOpen.{Tree-F, Num, Over}
use Rattle.poly_tree.specs.declared.tree.Tree.TheFolds.{fold-Tree}
use Rattle.poly_tree.specs.Expansion.{Expansion, Parts, number, over, parts_from}

-- a tree, with the expansion of each part in its place
abbrev pub expansion_step : Tree-F Expansion → Expansion
expansion_step (Num n) = number n
expansion_step (Over var parts) = over var (parts_from parts.items)

-- a tree as an expansion
abbrev pub expansion : Tree → Expansion
expansion = fold-Tree Expansion expansion_step

-- trees as expansions
abbrev pub expansions : List Tree → List Expansion
expansions trees = map expansion trees

-- trees as the parts of an expansion
abbrev pub parts_of : List Tree → Parts
parts_of trees = parts_from (expansions trees)

-- the part at a power, which is zero past the last
abbrev pub part_at : List Tree → ℕ → Expansion
part_at trees power = slice_index_or (expansions trees) power (number (pos 0))
