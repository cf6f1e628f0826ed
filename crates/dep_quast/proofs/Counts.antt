-- How many levels there are, writer by writer, and how many rows there are for a level.
use Rattle.std.proofs.Common.{◌≡◌, refl, sym, ◌∙◌, ap, subst, inl, inr, ℕ, zero, suc, ◌+◌, ◌*◌, ◌<◌, ◌≤◌, Bool, true, false, List, [], ◌∷◌, length, map, get_or, drop, arith}
use Rattle.std.specs.Prelude.{◌==◌, nat_lt, if◌then◌else◌, flat_map}
use Rattle.std.specs.List.{range_with_len}
use Rattle.std.proofs.lemmas.Bool.{lt-ltb, ltb-true}
use Rattle.std.proofs.lemmas.List.{drop_more, drop-map, length-append, length-map}
use Rattle.std.proofs.lemmas.List.FromFn.{length-range_with_len}
use Rattle.std.proofs.Math.Numerals.{suc-eq-add-one}
use Rattle.iolb_model.specs.Form.{AffineForm}
use Rattle.iolb_model.specs.Program.{Direction, AffineProgram, Statement as ModelStatement, no_statement}
use Rattle.iolb_model.specs.Order.{common_loops}
use Rattle.affine_form.specs.Rows.{order_rows}
use Rattle.affine_program.specs.declared.statement.Statement.{Statement}
use Rattle.affine_program.specs.Parts.{statement_of}
use Rattle.dep_quast.specs.Context.{ReadOf, reference_of, earlier_write, earlier_writes, write_between, writes_between}
use Rattle.dep_quast.specs.Levels.{level_count, levels, writers, writers_from, order_count, levels_before, levels_between}
use Rattle.dep_quast.specs.Tree.{SourceClaim}
use Rattle.dep_quast.specs.Truth.{IsLevel}

-- one statement more
pub count-more : (g : ℕ → List ℕ) (statements : List Statement) (k array total one whole : ℕ) → k < length statements
    → one ≡ (if (get_or (map statement_of statements) k no_statement).writes.array == array then length (g k) else 0)
    → total + length (flat_map g (writers_from k (map statement_of (drop k statements)) array)) ≡ whole
    → (total + one) + length (flat_map g (writers_from (k + 1) (map statement_of (drop (k + 1) statements)) array)) ≡ whole
count-more g statements k array total one whole below is h =
    let all : List ModelStatement = map statement_of statements in
    let rest : map statement_of (drop k statements) ≡ get_or all k no_statement ∷ map statement_of (drop (k + 1) statements) =
    sym (drop-map statement_of k statements) ∙ drop_more all k no_statement (omega (arith, length-map statements statement_of)) ∙ ap (λ xs. get_or all k no_statement ∷ xs) (drop-map statement_of (k + 1) statements) in
    by ((get_or all k no_statement).writes.array == array) is
    (subst (λ (xs : List ModelStatement). total + length (flat_map g (writers_from k xs array)) ≡ whole) rest h) where
      moved : length (flat_map g (writers_from (suc k) (map statement_of (drop (k + 1) statements)) array)) ≡ length (flat_map g (writers_from (k + 1) (map statement_of (drop (k + 1) statements)) array))
      moved = ap (λ (n : ℕ). length (flat_map g (writers_from n (map statement_of (drop (k + 1) statements)) array))) (suc-eq-add-one k)

      by : (b : Bool) → one ≡ (if b then length (g k) else 0)
          → total + length (flat_map g (if b then k ∷ writers_from (suc k) (map statement_of (drop (k + 1) statements)) array else writers_from (suc k) (map statement_of (drop (k + 1) statements)) array)) ≡ whole
          → (total + one) + length (flat_map g (writers_from (k + 1) (map statement_of (drop (k + 1) statements)) array)) ≡ whole
      by true e p = omega (arith, e, p, moved, length-append (g k) (flat_map g (writers_from (suc k) (map statement_of (drop (k + 1) statements)) array)))
      by false e p = omega (arith, e, p, moved)

pub length-levels : (program : AffineProgram) (t s : ℕ) → length (levels program t s) ≡ level_count program t s
length-levels program t s = length-range_with_len 0 (level_count program t s)

same-many : {X : Type 0} (g : ℕ → List X) (many : ℕ) → ((k : ℕ) → length (g k) ≡ many) → (first n : ℕ) → length (flat_map g (range_with_len first n)) ≡ n * many
same-many g many each first zero = omega arith
same-many g many each first (suc n) = omega (arith, length-append (g first) (flat_map g (range_with_len (first + 1) n)), each first, same-many g many each (first + 1) n)

pub length-pairs : (program : AffineProgram) (t w s : ℕ) → length (flat_map (λ (after : ℕ). levels program w s) (levels program t w)) ≡ level_count program t w * level_count program w s
length-pairs program t w s = same-many (λ after. levels program w s) (level_count program w s) (λ k. length-levels program w s) 0 (level_count program t w)

same-lengths : {X Y : Type 0} (f : ℕ → List X) (g : ℕ → List Y) → ((k : ℕ) → length (f k) ≡ length (g k)) → (ks : List ℕ) → length (flat_map f ks) ≡ length (flat_map g ks)
same-lengths f g each [] = refl
same-lengths f g each (k ∷ ks) = length-append (f k) (flat_map f ks) ∙ sums (length (f k)) (length (g k)) (length (flat_map f ks)) (length (flat_map g ks)) (each k) (same-lengths f g each ks) ∙ sym (length-append (g k) (flat_map g ks)) where
  sums : (a b c d : ℕ) → a ≡ b → c ≡ d → a + c ≡ b + d
  sums a b c d p q = omega arith

-- the earlier writes are as many as the levels before the reader, whatever the rows
pub earlier-many : (program : AffineProgram) (reader : ReadOf) (rows : List AffineForm)
    → length (earlier_writes program reader rows) ≡ length (levels_before program (writers program (reference_of program reader).array) reader.statement)
earlier-many program reader rows =
    same-lengths (λ writer. map (earlier_write program reader rows writer) (levels program writer reader.statement)) (λ writer. levels program writer reader.statement)
    (λ k. length-map (levels program k reader.statement) (earlier_write program reader rows k)) (writers program (reference_of program reader).array)

-- and the writes between are as many as the pairs of levels
pub between-many : (program : AffineProgram) (reader : ReadOf) (rows : List AffineForm) (claim : SourceClaim)
    → length (writes_between program reader rows claim) ≡ length (levels_between program claim.statement (writers program (reference_of program reader).array) reader.statement)
between-many program reader rows claim =
    same-lengths (λ writer. flat_map (λ after. map (write_between program reader rows claim writer after) (levels program writer reader.statement)) (levels program claim.statement writer))
    (λ writer. flat_map (λ after. levels program writer reader.statement) (levels program claim.statement writer))
    (λ k. same-lengths (λ after. map (write_between program reader rows claim k after) (levels program k reader.statement)) (λ after. levels program k reader.statement)
    (λ after. length-map (levels program k reader.statement) (write_between program reader rows claim k after)) (levels program claim.statement k))
    (writers program (reference_of program reader).array)

-- one number more on both sides of a test
less-suc : (a b : ℕ) → nat_lt a b ≡ nat_lt (suc a) (suc b)
less-suc a b = by (nat_lt a b) (nat_lt (suc a) (suc b)) refl refl where
  by : (x y : Bool) → x ≡ nat_lt a b → y ≡ nat_lt (suc a) (suc b) → x ≡ y
  by true true p q = refl
  by false false p q = refl
  by true false p q = absurd (let less : a < b = ltb-true a b (sym p) in let more : nat_lt (suc a) (suc b) ≡ true = lt-ltb (suc a) (suc b) (omega arith) in cc)
  by false true p q = absurd (let more : suc a < suc b = ltb-true (suc a) (suc b) (sym q) in let less : nat_lt a b ≡ true = lt-ltb a b (omega arith) in cc)

-- the rows of an order are so many
pub order-many : (vars : ℕ) (loops : List Direction) (level : ℕ) (ys xs : List AffineForm) → level ≤ length loops → length loops ≤ length ys → length loops ≤ length xs
    → length (order_rows vars loops level ys xs) ≡ order_count (length loops) level
order-many vars [] zero ys xs p q r = refl
order-many vars [] (suc level) ys xs p q r = absurd (omega arith)
order-many vars (d ∷ loops) level [] xs p q r = absurd (omega arith)
order-many vars (d ∷ loops) level (y ∷ ys) [] p q r = absurd (omega arith)
order-many vars (d ∷ loops) zero (y ∷ ys) (x ∷ xs) p q r =
    ap (λ (b : Bool). 2 * 0 + (if b then 1 else 0)) (sym (lt-ltb 0 (suc (length loops)) (omega arith)))
order-many vars (d ∷ loops) (suc level) (y ∷ ys) (x ∷ xs) p q r =
    let rest = order-many vars loops level ys xs (omega arith) (omega arith) (omega arith) in
    ap (λ (n : ℕ). suc (suc n)) rest ∙ two_more level (if nat_lt level (length loops) then 1 else 0) ∙ ap (λ (b : Bool). 2 * suc level + (if b then 1 else 0)) (less-suc level (length loops)) where
      two_more : (a b : ℕ) → suc (suc (2 * a + b)) ≡ 2 * suc a + b
      two_more a b = omega arith

-- a level is at most the last
pub level-within : (program : AffineProgram) (t s level : ℕ) → IsLevel program t s level → level ≤ length (common_loops program t s)
level-within program t s level (inl less) = omega arith
level-within program t s level (inr last) = omega (arith, last.0)
