-- How many rows compares mean: at least one more, and not more than there may be.
use Rattle.std.proofs.Common.{◌≡◌, ℕ, ◌+◌, ◌<◌, ◌≤◌, List, ◌∷◌, [], ◌++◌, length, refl, sym, ap, ◌∙◌, subst, Option, Some, None, arith, length-append, leb-true}
use Rattle.std.specs.Prelude.{ℤ, pos, nat_le, option_and_then}
use Rattle.c_reading.specs.Compare.{Rows}
use Rattle.c_grammar.specs.Affine as tree
use Rattle.c_grammar.specs.Meaning.{Names, then_in, given, affine_means, row_behind, with_row, with_compare, row_count, if_rows, compare_means, compares_mean}
use Rattle.c_grammar.proofs.Steps.{bool_cases}
use Rattle.c_grammar.proofs.Spelled.{then_some, given_last}

-- one row more
row_counted : (rows : Rows) (o : Option (List ℤ)) (more : Rows) → row_behind rows o ≡ Some more → length more ≡ length rows + 1
row_counted rows None more e = cc
row_counted rows (Some row) more e = let same : rows ++ row ∷ [] ≡ more = cc in ap (λ (l : Rows). length l) (sym same) ∙ length-append rows (row ∷ [])

-- the rows of a comparison
rows_counted : (c : tree.Comparison) (rows more : Rows) (a b : List ℤ) → with_compare rows c a b ≡ Some more → length more ≡ length rows + row_count c
rows_counted tree.at_least rows more a b e = row_counted rows _ more e
rows_counted tree.above rows more a b e = row_counted rows _ more e
rows_counted tree.at_most rows more a b e = row_counted rows _ more e
rows_counted tree.below rows more a b e = row_counted rows _ more e
rows_counted tree.equal rows more a b e = both (with_row rows (pos 0) a b) refl e where
  both : (o : Option Rows) → with_row rows (pos 0) a b ≡ o → option_and_then (λ one. with_row one (pos 0) b a) o ≡ Some more → length more ≡ length rows + 2
  both None is f = cc
  both (Some one) is f = omega (arith, row_counted rows _ one is, row_counted one _ more f)

-- each comparison means a row
some_rows : (c : tree.Comparison) → 0 < row_count c
some_rows tree.equal = omega arith
some_rows _ = omega arith

-- where a comparison's rows are given they aren't too many
rows_given : (room : ℕ) (rows all : Rows) (c : tree.Comparison) (o : Option Rows) → if_rows room rows c o ≡ Some all → (o ≡ Some all) × (length rows + row_count c ≤ room)
rows_given room rows all c o e = bool_cases (nat_le (length rows + row_count c) room) (λ t. (rw t at e, leb-true (length rows + row_count c) room t)) (λ t. let none = rw t at e in cc)

-- rows behind others, of which there is one, and not too many
pub record AreMore (room : ℕ) (rows all : Rows) : Type 0 where
  pub some : length rows < length all
  pub few : length all ≤ room

-- those of a compare
compare_more : (b room : ℕ) (rows : Rows) (c : tree.Compare) (s : Names) (x : Rows × Names) → compare_means b room rows c s ≡ Some x → AreMore room rows x.0
unfolding compare_means
compare_more b room rows c s x e =
    then_some (λ start i. then_in (affine_means b c.right i) (λ end. given (if_rows room rows c.comparison (with_compare rows c.comparison start.numbers end.numbers)))) (affine_means b c.left s) e (λ p f g.
    then_some (λ end. given (if_rows room rows c.comparison (with_compare rows c.comparison p.0.numbers end.numbers))) (affine_means b c.right p.1) g (λ q h k.
    given_last (if_rows room rows c.comparison (with_compare rows c.comparison p.0.numbers q.0.numbers)) q.1 k (λ all j is.
    let found = rows_given room rows all c.comparison _ j in
    subst (λ (y : Rows × Names). AreMore room rows y.0) is (
    let many = rows_counted c.comparison rows all p.0.numbers q.0.numbers found.0 in
    record { some = omega (arith, many, some_rows c.comparison); few = omega (arith, many, found.1) }))))

-- those of compares
pub compares_more : (b room : ℕ) (rows : Rows) (cs : tree.Compares) (s : Names) (x : Rows × Names) → compares_mean b room rows cs s ≡ Some x → AreMore room rows x.0
unfolding compares_mean
compares_more b room rows (tree.last_compare c) s x e = compare_more b room rows c s x e
compares_more b room rows (tree.compare c cs) s x e =
    then_some (λ more. compares_mean b room more cs) (compare_means b room rows c s) e (λ p f g.
    let one = compare_more b room rows c s p f in
    let others = compares_more b room p.0 cs p.1 x g in
    record { some = omega (arith, one.some, others.some); few = others.few })
