-- The rows of compares are over names that are there, and within the limits.
use Rattle.std.proofs.Common.{◌≡◌, refl, subst, ℕ, suc, ◌+◌, ◌<◌, ◌≤◌, List, [], ◌∷◌, length, arith, Bool, true, false, length-append, leb-true}
use Rattle.std.specs.Prelude.{ℤ, pos, negsuc, nat_le, option_and_then, Option, Some, None, if◌then◌else◌, codes}
use Rattle.std.specs.List.{AllByRecursion}
use Rattle.base_laws.proofs.Lists.{All-append}
use Rattle.c_reading.specs.Numbers.{combined}
use Rattle.c_reading.specs.Compare.{Rows}
use Rattle.c_grammar.specs.Words.{a_symbol}
use Rattle.c_grammar.specs.Affine as tree
use Rattle.c_grammar.specs.Affine.{affine_words, comparison_word, compare_words, compares_words}
use Rattle.c_grammar.specs.Meaning as mean
use Rattle.c_grammar.specs.Meaning.{Names, affine_means, with_compare, row_count, compare_means, compares_mean}
use Rattle.c_grammar.proofs.Forms.{IsWhereSome, IsRow, combined_row}
use Rattle.c_grammar.proofs.Kept.{AreNamed, first_named, second_named, State, Kept, kept-trans, rows-grown, nothing, Reads, bind, stays}
use Rattle.c_grammar.proofs.KeptRefs.{affine_form}

-- so many rows, at most
pub record AreFew (parameters depth most : ℕ) (rows : Rows) : Type 0 where
  pub few : length rows ≤ most
  pub each : AllByRecursion (IsRow parameters depth) rows

-- one row more
with_row_few : (parameters depth most : ℕ) (rows : Rows) (less : ℤ) (a b : List ℤ) → AreFew parameters depth most rows → IsRow parameters depth a → IsRow parameters depth b → IsWhereSome (λ more. AreFew parameters depth (suc most) more × (0 < length more)) (mean.with_row rows less a b)
with_row_few parameters depth most rows less a b h p q = placed (combined (negsuc 0) less a b) (combined_row (negsuc 0) less a b p q) where
  placed : (o : Option (List ℤ)) → IsWhereSome (IsRow parameters depth) o → IsWhereSome (λ more. AreFew parameters depth (suc most) more × (0 < length more)) (mean.row_behind rows o)
  placed None g = tt
  placed (Some row) g = (record { few = omega (arith, length-append rows (row ∷ []), h.few); each = All-append (IsRow parameters depth) rows (row ∷ []) h.each (g, tt) }, omega (arith, length-append rows (row ∷ [])))

-- the rows of a comparison
with_compare_few : (parameters depth : ℕ) (rows : Rows) (c : tree.Comparison) (a b : List ℤ) → AllByRecursion (IsRow parameters depth) rows → IsRow parameters depth a → IsRow parameters depth b → IsWhereSome (λ more. AreFew parameters depth (length rows + row_count c) more × (0 < length more)) (with_compare rows c a b)
with_compare_few parameters depth rows c a b h p q = by c where
  start : AreFew parameters depth (length rows) rows
  start = record { few = omega arith; each = h }

  single : (o : Option Rows) → IsWhereSome (λ more. AreFew parameters depth (suc (length rows)) more × (0 < length more)) o → IsWhereSome (λ more. AreFew parameters depth (length rows + 1) more × (0 < length more)) o
  single o g = let one : suc (length rows) ≡ length rows + 1 = omega arith in subst (λ n. IsWhereSome (λ more. AreFew parameters depth n more × (0 < length more)) o) one g

  second : (o : Option Rows) → IsWhereSome (λ more. AreFew parameters depth (suc (length rows)) more × (0 < length more)) o → IsWhereSome (λ more. AreFew parameters depth (length rows + 2) more × (0 < length more)) (option_and_then (λ more. mean.with_row more (pos 0) b a) o)
  second None g = tt
  second (Some more) g = let two : suc (suc (length rows)) ≡ length rows + 2 = omega arith in subst (λ n. IsWhereSome (λ all. AreFew parameters depth n all × (0 < length all)) (mean.with_row more (pos 0) b a)) two (with_row_few parameters depth (suc (length rows)) more (pos 0) b a g.0 q p)

  by : (c : tree.Comparison) → IsWhereSome (λ more. AreFew parameters depth (length rows + row_count c) more × (0 < length more)) (with_compare rows c a b)
  by tree.at_least = single _ (with_row_few parameters depth (length rows) rows (pos 0) a b start p q)
  by tree.above = single _ (with_row_few parameters depth (length rows) rows (pos 1) a b start p q)
  by tree.at_most = single _ (with_row_few parameters depth (length rows) rows (pos 0) b a start q p)
  by tree.below = single _ (with_row_few parameters depth (length rows) rows (pos 1) b a start q p)
  by tree.equal = second _ (with_row_few parameters depth (length rows) rows (pos 0) a b start p q)

-- rows behind a compare, of which there is one
abbrev pub AreAsked : ℕ → ℕ → Rows → Names → Type 0
AreAsked depth room rows j = AreFew j.parameters depth room rows × (0 < length rows)

-- a compare gives rows
compare_few : (depth b room : ℕ) (rows : Rows) (c : tree.Compare) (i : Names) → AreNamed (compare_words c) → State depth i → AllByRecursion (IsRow i.parameters depth) rows → Reads depth i (compare_means b room rows c i) (AreAsked depth room)
unfolding compare_means
compare_few depth b room rows c i n s h =
    let ws = comparison_word c.comparison ∷ affine_words c.right in
    bind (affine_means b c.left i) (affine_form b c.left i (first_named (affine_words c.left) ws n) s) (λ a j t k p.
    bind (affine_means b c.right j) (affine_form b c.right j (second_named (affine_words c.left) ws n).1 t) (λ end l u m q.
    counted l u (with_compare rows c.comparison a.numbers end.numbers) (nat_le (length rows + row_count c.comparison) room) refl
    (with_compare_few l.parameters depth rows c.comparison a.numbers end.numbers (rows-grown depth rows (kept-trans k m).grown h) (row_stays m p) q))) where
      row_stays : {j l : Names} {row : List ℤ} → Kept j [] l → IsRow j.parameters depth row → IsRow l.parameters depth row
      row_stays {row = row} m p = (rows-grown depth (row ∷ []) m.grown (p, tt)).0

      counted : (l : Names) → State depth l → (o : Option Rows) (t : Bool) → nat_le (length rows + row_count c.comparison) room ≡ t → IsWhereSome (λ more. AreFew l.parameters depth (length rows + row_count c.comparison) more × (0 < length more)) o
          → Reads depth l (mean.given (if t then o else None) l) (AreAsked depth room)
      counted l u (Some more) true e g = stays u (record { few = omega (arith, g.0.few, leb-true (length rows + row_count c.comparison) room e); each = g.0.each }, g.1)
      counted l u o false e g = nothing
      counted l u None true e g = nothing

-- compares give rows
pub compares_few : (depth b room : ℕ) (rows : Rows) (cs : tree.Compares) (i : Names) → AreNamed (compares_words cs) → State depth i → AllByRecursion (IsRow i.parameters depth) rows → Reads depth i (compares_mean b room rows cs i) (AreAsked depth room)
unfolding compares_mean
compares_few depth b room rows (tree.last_compare c) i n s h = compare_few depth b room rows c i n s h
compares_few depth b room rows (tree.compare c cs) i n s h =
    let ws = a_symbol (codes "&&") ∷ compares_words cs in
    bind (compare_means b room rows c i) (compare_few depth b room rows c i (first_named (compare_words c) ws n) s h) (λ more j t k g. compares_few depth b room more cs j (second_named (compare_words c) ws n).1 t g.0.each)
