-- A test that computes over the table, and the rule that it gives of each row.
use Rattle.std.specs.Prelude.{◌≡◌, ◌≢◌, ℕ, ℤ, pos, ◌+◌, ◌-◌, ◌^◌, ◌<◌, ◌≤◌, ◌+ℤ◌, ◌-ℤ◌, ◌*ℤ◌, ◌≤ℤ◌, Bool, true, false, not, ◌&&◌, ◌||◌, ◌==◌, nat_lt, List, [], ◌∷◌, drop, unsigned_abs, int_lt, slice_get, IfSome}
use Rattle.std.proofs.Common.{arith, ap, sym, refl, ◌∙◌, subst, zero, suc}
use Rattle.std.specs.Int.{◌∣◌}
use Rattle.std.specs.List.{list_all, list_any}
use Rattle.std.specs.Ordering.{int_eq}
use Rattle.std.proofs.lemmas.Bool.{false≢true, and_parts}
use Rattle.std.proofs.lemmas.Bool.Decides.{Decides-int_eq, Decides-eqb, Decides-ltb}
use Rattle.std.proofs.lemmas.Int.{ints}
use Rattle.std.proofs.lemmas.List.{get_or-drop}
use Rattle.std.proofs.lemmas.Nat.Gcd.{dvd_antisymm}
use Rattle.std.proofs.Math.Nat.{one-dvd}
use Rattle.base_laws.proofs.Ring.{mul-add}
use Rattle.iolb_model.specs.Polynomial.{int_power}
use Rattle.power_sums.specs.Polynomial.{value, coefficient}
use Rattle.power_sums.specs.PowerSum.{IsPowerSum, total_of_powers}
use Rattle.power_sums.specs.declared.row.Row.{Row}
use Rattle.power_sums.specs.declared.row.TheConstants.{ROWS}
use Rattle.power_sums.proofs.Powers.{power_pos}
use Rattle.power_sums.proofs.Polynomials.{difference, shift, monomial, all_zero, value-difference, value-shift, value-monomial, value-all_zero, coefficient-all_zero, value_at_zero}

-- the difference from the shift is den n^d, coefficient by coefficient
abbrev pub meets_rule : ℕ → List ℤ → ℤ → Bool
meets_rule d num den = all_zero (difference (difference num (shift num)) (monomial d den))

-- a number of one digit in base 64
abbrev pub is_small : ℤ → Bool
is_small c = nat_lt (unsigned_abs c) (2 ^ 6)

-- what the table is tested for, at row d
abbrev pub passes : ℕ → List ℤ → ℤ → Bool
passes d num den =
    int_eq (coefficient num 0) (pos 0)
    && (meets_rule d num den
    && (not (int_eq (coefficient num (suc d)) (pos 0))
    && (all_zero (drop (suc (suc d)) num)
    && (int_lt (pos 0) den
    && (is_small den
    && (list_all is_small num
    && list_any (λ c. unsigned_abs c == 1) num))))))

module _ (d : ℕ) (num : List ℤ) (den : ℤ) where
  difference_from : meets_rule d num den ≡ true → (n : ℤ) → value num n -ℤ value num (n -ℤ pos 1) ≡ den *ℤ int_power n d
  difference_from h n =
      let none : value (difference (difference num (shift num)) (monomial d den)) n ≡ pos 0 =
      value-all_zero (difference (difference num (shift num)) (monomial d den)) n h in
      let split : value (difference (difference num (shift num)) (monomial d den)) n ≡ (value num n -ℤ value num (n -ℤ pos 1)) -ℤ (den *ℤ int_power n d) =
      value-difference (difference num (shift num)) (monomial d den) n
      ∙ ap (λ z. z -ℤ value (monomial d den) n) (value-difference num (shift num) n ∙ ap (λ z. value num n -ℤ z) (value-shift num n))
      ∙ ap (λ z. (value num n -ℤ value num (n -ℤ pos 1)) -ℤ z) (value-monomial d den n) in
      apart (value num n -ℤ value num (n -ℤ pos 1)) (den *ℤ int_power n d) (sym split ∙ none)
    where
      apart : (a b : ℤ) → a -ℤ b ≡ pos 0 → a ≡ b
      apart a b e = omega (arith, ints)

  total_from : value num (pos 0) ≡ pos 0 → ((n : ℤ) → value num n -ℤ value num (n -ℤ pos 1) ≡ den *ℤ int_power n d) → (n : ℕ) → value num (pos n) ≡ den *ℤ pos (total_of_powers d n)
  total_from start rule zero = start ∙ sym (nothing den)
    where
      nothing : (a : ℤ) → a *ℤ pos 0 ≡ pos 0
      nothing a = omega (arith, ints)
  total_from start rule (suc n) =
      let before : pos (suc n) -ℤ pos 1 ≡ pos n = omega (arith, ints) in
      let step : value num (pos (suc n)) -ℤ value num (pos n) ≡ den *ℤ pos (suc n ^ d) =
      ap (λ z. value num (pos (suc n)) -ℤ value num z) (sym before) ∙ rule (pos (suc n)) ∙ ap (λ z. den *ℤ z) (power_pos (suc n) d) in
      let rest : value num (pos n) ≡ den *ℤ pos (total_of_powers d n) = total_from start rule n in
      joined (value num (pos (suc n))) (value num (pos n)) (den *ℤ pos (suc n ^ d)) (den *ℤ pos (total_of_powers d n)) step rest
      ∙ sym (mul-add den (pos (total_of_powers d n)) (pos (suc n ^ d)))
    where
      joined : (a b p t : ℤ) → a -ℤ b ≡ p → b ≡ t → a ≡ t +ℤ p
      joined a b p t e is = omega (arith, ints)

past_from : (num : List ℤ) (k e : ℕ) → all_zero (drop k num) ≡ true → k ≤ e → coefficient num e ≡ pos 0
past_from num k e h le =
    let is : k + (e - k) ≡ e = omega arith in
    ap (λ i. coefficient num i) (sym is) ∙ sym (get_or-drop k num (e - k) (pos 0)) ∙ coefficient-all_zero (drop k num) (e - k) h

small_from : (num : List ℤ) (e : ℕ) → list_all is_small num ≡ true → unsigned_abs (coefficient num e) < 2 ^ 6
small_from [] e h = omega arith
small_from (c ∷ num) e h =
    let parts : (is_small c ≡ true) × (list_all is_small num ≡ true) = and_parts (is_small c) (list_all is_small num) h in
    at c num e ((Decides-ltb (unsigned_abs c) (2 ^ 6)).0 parts.0) (λ i. small_from num i parts.1)
  where
    at : (c : ℤ) (num : List ℤ) (e : ℕ) → unsigned_abs c < 2 ^ 6 → ((i : ℕ) → unsigned_abs (coefficient num i) < 2 ^ 6) → unsigned_abs (coefficient (c ∷ num) e) < 2 ^ 6
    at c num zero small rest = small
    at c num (suc i) small rest = rest i

-- a coefficient is 1 or -1
unit_from : (num : List ℤ) → list_any (λ c. unsigned_abs c == 1) num ≡ true → (e : ℕ) × (unsigned_abs (coefficient num e) ≡ 1)
unit_from [] h = absurd (false≢true h)
unit_from (c ∷ num) h = at c num (unsigned_abs c == 1) refl h (unit_from num)
  where
    at : (c : ℤ) (num : List ℤ) (t : Bool) → (unsigned_abs c == 1) ≡ t → (t || list_any (λ c. unsigned_abs c == 1) num) ≡ true
        → (list_any (λ c. unsigned_abs c == 1) num ≡ true → (e : ℕ) × (unsigned_abs (coefficient num e) ≡ 1))
        → (e : ℕ) × (unsigned_abs (coefficient (c ∷ num) e) ≡ 1)
    at c num true is h rest = (0, (Decides-eqb (unsigned_abs c) 1).0 is)
    at c num false is h rest = let r : (e : ℕ) × (unsigned_abs (coefficient num e) ≡ 1) = rest h in (suc r.0, r.1)

not_zero : (c : ℤ) → not (int_eq c (pos 0)) ≡ true → c ≢ pos 0
not_zero c h = λ is. at (int_eq c (pos 0)) ((Decides-int_eq c (pos 0)).1 is) h
  where
    at : (t : Bool) → t ≡ true → not t ≡ true → ⊥
    at true is h = false≢true h
    at false is h = false≢true is

positive_from : (den : ℤ) → int_lt (pos 0) den ≡ true → pos 1 ≤ℤ den
positive_from den h = omega (arith, ints)

-- a row that passes is a sum of powers
pub row_from : (d : ℕ) (num : List ℤ) (den : ℤ) → passes d num den ≡ true → IsPowerSum d num den
row_from d num den h =
    let a = and_parts (int_eq (coefficient num 0) (pos 0)) _ h in
    let b = and_parts (meets_rule d num den) _ a.1 in
    let c = and_parts (not (int_eq (coefficient num (suc d)) (pos 0))) _ b.1 in
    let e = and_parts (all_zero (drop (suc (suc d)) num)) _ c.1 in
    let f = and_parts (int_lt (pos 0) den) _ e.1 in
    let g = and_parts (is_small den) _ f.1 in
    let i = and_parts (list_all is_small num) _ g.1 in
    let start : value num (pos 0) ≡ pos 0 = value_at_zero num ∙ (Decides-int_eq (coefficient num 0) (pos 0)).0 a.0 in
    let rule : (n : ℤ) → value num n -ℤ value num (n -ℤ pos 1) ≡ den *ℤ int_power n d = difference_from d num den b.0 in
    let unit : (k : ℕ) × (unsigned_abs (coefficient num k) ≡ 1) = unit_from num i.1 in
    record {
      zero_at_zero = start;
      difference = rule;
      total = total_from d num den start rule;
      leading = not_zero (coefficient num (suc d)) c.0;
      past_degree = λ k past. past_from num (suc (suc d)) k e.0 past;
      positive = positive_from den f.0;
      small_den = (Decides-ltb (unsigned_abs den) (2 ^ 6)).0 g.0;
      small_num = λ k. small_from num k i.0;
      lowest = λ k divides_den divides_num. dvd_antisymm (subst (λ m. k ∣ m) unit.1 (divides_num unit.0)) (one-dvd k);
    }

-- the rows from d on pass
abbrev pub rows_pass : ℕ → List (Row 8) → Bool
rows_pass d [] = true
rows_pass d (row ∷ rows) = passes d row.num row.den && rows_pass (suc d) rows

rows_from : (d k e : ℕ) → d + k ≡ e → (rows : List (Row 8)) → rows_pass d rows ≡ true → IfSome (slice_get rows k) (λ row. IsPowerSum e row.num row.den)
rows_from d k e is [] h = tt
rows_from d zero e is (row ∷ rows) h =
    let parts : (passes d row.num row.den ≡ true) × (rows_pass (suc d) rows ≡ true) = and_parts (passes d row.num row.den) (rows_pass (suc d) rows) h in
    let same : d ≡ e = omega arith in
    subst (λ i. IsPowerSum i row.num row.den) same (row_from d row.num row.den parts.0)
rows_from d (suc k) e is (row ∷ rows) h =
    let parts : (passes d row.num row.den ≡ true) × (rows_pass (suc d) rows ≡ true) = and_parts (passes d row.num row.den) (rows_pass (suc d) rows) h in
    rows_from (suc d) k e (omega arith) rows parts.1

-- each row of the table is the sum of powers of its index
pub table : (d : ℕ) → IfSome (slice_get ROWS d) (λ row. IsPowerSum d row.num row.den)
table d = rows_from 0 d d (omega arith) ROWS refl
