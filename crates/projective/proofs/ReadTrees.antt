-- The source tree of each read is there.
use Rattle.std.proofs.Common.{◌≡◌, sym, ◌∙◌, ap, subst, ℕ, zero, suc, ◌+◌, ◌<◌, List, [], ◌∷◌, length, get_or, arith}
use Rattle.std.specs.Prelude.{Option, Some, None, unwrap_or}
use Rattle.std.proofs.lemmas.Option.{slice_get-get_or}
use Rattle.iolb_model.specs.Program.{AffineProgram, statement_at}
use Rattle.dep_quast.specs.Tree.{SelectionTree, leaf, blank}
use Rattle.dep_quast.specs.Quasts.{tree_at}
use Rattle.projective.specs.SourceTrees.{AreFromRead, AreSourceTrees, IsSourceTree}

from-at : (program : AffineProgram) (first k : ℕ) (row : List SelectionTree) (d : SelectionTree) → AreFromRead program first row → k < length row → IsSourceTree program (first + k) (get_or row k d)
from-at program first k [] d h below = absurd (omega arith)
from-at program first zero (tree ∷ row) d h below = subst (λ (n : ℕ). IsSourceTree program n tree) (omega arith) h.0
from-at program first (suc k) (tree ∷ row) d h below = subst (λ (n : ℕ). IsSourceTree program n (get_or row k d)) (omega arith) (from-at program (suc first) k row d h.1 (omega arith))

module _ (program : AffineProgram) (rows : List (List SelectionTree)) (h : AreSourceTrees program rows) (read : ℕ) (below : read < length (statement_at program 0).reads) where
  abbrev pub tree_of_read : SelectionTree
  tree_of_read = get_or h.row read (leaf blank)

  inside : read < length h.row
  inside = omega (arith, h.many, below)

  pub tree-there : tree_at rows 0 read ≡ Some tree_of_read
  tree-there = ap (λ (rs : List (List SelectionTree)). tree_at rs 0 read) h.one ∙ slice_get-get_or h.row read (leaf blank) inside

  pub tree-is : IsSourceTree program read tree_of_read
  tree-is = subst (λ (n : ℕ). IsSourceTree program n tree_of_read) (omega arith) (from-at program 0 read h.row (leaf blank) h.each inside)

  pub found-is : (tree : SelectionTree) → tree_at rows 0 read ≡ Some tree → IsSourceTree program read tree
  found-is tree e = subst (IsSourceTree program read) (ap (λ (o : Option SelectionTree). unwrap_or o tree) (sym tree-there ∙ e)) tree-is

  pub never-none : tree_at rows 0 read ≡ None → ⊥
  never-none e = clash (sym tree-there ∙ e) where
    clash : Some tree_of_read ≡ None → ⊥
    clash f = cc
