-- Degrees of trees.
use Rattle.std.proofs.Common.{◌≡◌, ℕ, ◌+◌, ◌-◌, ◌==◌, if◌then◌else◌, ◌≤◌, List, length, take, arith, subst, sym, ◌∙◌, ap}
use Rattle.std.proofs.lemmas.List.{take_all, length-map}
use Rattle.std.proofs.lemmas.Bool.Decides.{nat_tests}
use Rattle.poly_tree.specs.declared.tree.Tree.{Tree}
use Rattle.poly_tree.specs.Expansion.{Expansion, over, parts_count, degree_in, parts_degree_in, DegreesAtMost, PartsDegreesAtMost}
use Rattle.poly_tree.specs.Tree.{expansion, expansions, parts_of}
use Rattle.poly_tree.proofs.Expansions.{parts_count-length}

count : (trees : List Tree) → parts_count (parts_of trees) ≡ length trees
count trees = parts_count-length (expansions trees) ∙ length-map trees expansion

pub degrees-count : (d : ℕ) (t : Expansion) (v : ℕ) (trees : List Tree) → t ≡ over v (parts_of trees) → DegreesAtMost d t → length trees ≤ d + 1
degrees-count d t v trees e h = let p = (subst (DegreesAtMost d) e h).0 in omega (arith, p, count trees)

pub degrees-from : (d : ℕ) (t : Expansion) (v : ℕ) (trees : List Tree) (k : ℕ) → t ≡ over v (parts_of trees) → length trees ≤ d + 1 → length trees ≤ k
    → PartsDegreesAtMost d (parts_of (take k trees)) → DegreesAtMost d t
degrees-from d t v trees k e few all h =
    subst (DegreesAtMost d) (sym e) (omega (arith, count trees), subst (λ (us : List Tree). PartsDegreesAtMost d (parts_of us)) (take_all k trees all) h)

-- the degree in the top variable
pub degree_in-here : (v w : ℕ) (t : Expansion) (trees : List Tree) → t ≡ over w (parts_of trees) → w ≡ v → degree_in v t ≡ length trees - 1
degree_in-here v w t trees e same =
    ap (degree_in v) e ∙ tested (parts_count (parts_of trees) - 1) (parts_degree_in v (parts_of trees)) ∙ ap (λ (n : ℕ). n - 1) (count trees) where
      tested : (m n : ℕ) → (if w == v then m else n) ≡ m
      tested m n = grind (arith, nat_tests)
