-- Comparisons of affine expressions, and the rows that they mean: forms that are at least 0.
use Rattle.std.specs.Prelude.{ℕ, zero, suc, ◌+◌, nat_le, if◌then◌else◌, ℤ, pos, negsuc, List, [], ◌∷◌, ◌++◌, length, Option, Some, None, Result, Ok, Err, codes}
use Rattle.c_reading.specs.declared.error.ReadFault.{ReadFault}
use Rattle.c_reading.specs.declared.compare.Comparison.{Comparison}
use Rattle.c_reading.specs.declared.compare.Comparison.TheVariants.{AtLeast, Above, AtMost, Below, Equal}
use Rattle.c_reading.specs.Input.{Input, Rule, ◌>>=◌, ◌>>◌, pure, given, fault_at, pass, refuse, sees, place, next, left}
use Rattle.c_reading.specs.Numbers.{combined}
use Rattle.c_reading.specs.Affine.{Affine, affine, refusal_after}
use Rattle.iolb_model.specs.declared.limits.TheConstants.{ASSUMPTIONS, BRACKETS}

-- how many brackets may be open at once, and how many rows may be assumed
abbrev pub most_brackets : ℕ
most_brackets = BRACKETS

abbrev pub most_rows : ℕ
most_rows = ASSUMPTIONS

abbrev pub Rows : Type 0
Rows = List (List ℤ)

-- the comparison that the next token is
unfoldable pub comparison : Input → Option Comparison
comparison i =
    if sees (codes ">=") i then Some AtLeast
    else (if sees (codes ">") i then Some Above
    else (if sees (codes "<=") i then Some AtMost
    else (if sees (codes "<") i then Some Below
    else (if sees (codes "==") i then Some Equal
    else None))))

-- how many rows it means
abbrev pub row_count : Comparison → ℕ
row_count Equal = 2
row_count _ = 1

-- a row, where its numbers are small; else fault 11 where the compare begins
abbrev pub if_row : ℕ → Rows → Option (List ℤ) → Result Rows ReadFault
if_row start rows None = Err (record { number = 11; place = start })
if_row start rows (Some row) = Ok (rows ++ row ∷ [])

-- a less b and this much, as one row more
unfoldable pub with_row : ℕ → Rows → ℤ → List ℤ → List ℤ → Result Rows ReadFault
with_row start rows less a b = if_row start rows (combined (negsuc 0) less a b)

abbrev pub with_both : ℕ → List ℤ → List ℤ → Result Rows ReadFault → Result Rows ReadFault
with_both start a b (Err e) = Err e
with_both start a b (Ok rows) = with_row start rows (pos 0) b a

-- the rows with those of a comparison of a with b
unfoldable pub with_compare : ℕ → Rows → Comparison → List ℤ → List ℤ → Result Rows ReadFault
with_compare start rows AtLeast a b = with_row start rows (pos 0) a b
with_compare start rows Above a b = with_row start rows (pos 1) a b
with_compare start rows AtMost a b = with_row start rows (pos 0) b a
with_compare start rows Below a b = with_row start rows (pos 1) b a
with_compare start rows Equal a b = with_both start a b (with_row start rows (pos 0) a b)

-- the comparison that has to follow the expression, where its rows aren't more than there may be
unfoldable pub comparison_by : ℕ → ℕ → ℕ → Affine → Option Comparison → Rule Comparison
comparison_by room start count a None i = Err (refusal_after a i)
comparison_by room start count a (Some c) i = if nat_le (count + row_count c) room then Ok (c, i) else fault_at 10 start i

-- what a compare adds: the rows with its own, and the expression that it ends with
pub record Compared : Type 0 where
  pub rows : Rows
  pub last : Affine

-- where so many brackets may still be opened, and there may be so many rows
unfoldable pub compare_from : ℕ → ℕ → ℕ → Rows → Rule Compared
compare_from brackets room start rows = do
  a ← affine brackets None
  c ← λ i. comparison_by room start (length rows) a (comparison i) i
  pass
  b ← affine brackets None
  all ← given (with_compare start rows c a.numbers b.numbers)
  pure (record { rows = all; last = b })

unfoldable pub compare : ℕ → ℕ → Rows → Rule Compared
compare brackets room rows i = compare_from brackets room (place i) rows i

-- compares with `&&` between them. The number bounds the turns, and each turn takes a token.
unfoldable pub compares : ℕ → ℕ → ℕ → Rows → Rule Compared
compares brackets room zero rows i = refuse i
compares brackets room (suc turns) rows i = (compare brackets room rows >>= (λ c j.
    if sees (codes "&&") j then compares brackets room turns c.rows (next j) else Ok (c, j))) i

unfoldable pub all_compares : ℕ → ℕ → Rows → Rule Compared
all_compares brackets room rows i = compares brackets room (left i) rows i
