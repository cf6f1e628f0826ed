-- The source trees of a program's reads: for each statement a row of trees, one for each read.
use Rattle.std.specs.Prelude.{ℕ, List, map, Option, Some, None, option_and_then, slice_get, Vec}
use Rattle.std.specs.Global.{Global}
use Rattle.dep_quast.specs.declared.quast.Quast.{Quast}
use Rattle.dep_quast.specs.Tree.{SelectionTree, leaf, blank, tree_of}
use Rattle.dep_quast.specs.Context.{ReadOf}
use Rattle.dep_quast.specs.declared.quasts.Quasts.{Quasts}

-- the source tree of a read of a statement, where there is one
abbrev pub tree_at : List (List SelectionTree) → ℕ → ℕ → Option SelectionTree
tree_at trees statement read = option_and_then (λ (row : List SelectionTree). slice_get row read) (slice_get trees statement)

-- and a blank leaf where there is none
abbrev pub tree_or_blank : Option SelectionTree → SelectionTree
tree_or_blank None = leaf blank
tree_or_blank (Some tree) = tree

abbrev pub tree_for : List (List SelectionTree) → ReadOf → SelectionTree
tree_for trees reader = tree_or_blank (tree_at trees reader.statement reader.read)

-- the trees that the code holds, for one statement and for all
abbrev pub row_trees : Vec Quast Global → List SelectionTree
row_trees row = map tree_of row.items

abbrev pub trees_of : Quasts → List (List SelectionTree)
trees_of quasts = map row_trees quasts.rows.items
