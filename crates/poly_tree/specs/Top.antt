-- The top of a tree as an expansion.
use Rattle.poly_tree.specs.declared.top.Top.{Top}
use Rattle.poly_tree.specs.declared.top.Top.TheVariants.{Number, Over}
use Rattle.poly_tree.specs.Expansion.{Expansion, number, over}
use Rattle.poly_tree.specs.Tree.{parts_of}

abbrev pub top_expansion : Top → Expansion
top_expansion (Number n) = number n
top_expansion (Over v parts) = over v (parts_of parts.now)
