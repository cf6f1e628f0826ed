-- Forms with different variables put in for their variables keep small numbers.
use Rattle.std.proofs.Common.{◌≡◌, ◌≢◌, refl, sym, ◌∙◌, ap, subst, inl, inr, ℕ, zero, suc, ◌+◌, ◌*◌, ◌<◌, ◌≤◌, List, [], ◌∷◌, ◌++◌, length, map, get_or, set, replicate, arith, add-mul, mul-le-mul, lit<}
use Rattle.std.specs.Prelude.{◌⊎◌, unsigned_abs, zip}
use Rattle.std.specs.List.{AllByRecursion}
use Rattle.std.proofs.Math.IntN.{ℤ, pos, ◌+ℤ◌, ◌*ℤ◌}
use Rattle.std.proofs.lemmas.Bool.{cases_eq}
use Rattle.std.proofs.lemmas.Int.{ints, unsigned_abs-mul}
use Rattle.std.proofs.lemmas.List.{get_or-set_other, get_or-set_same, length-replicate}
use Rattle.base_laws.proofs.Lists.{All-append, All-replicate, All-weaken}
use Rattle.base_laws.proofs.Ring.{mul-zero}
use Rattle.iolb_model.specs.Form.{AffineForm}
use Rattle.affine_form.specs.Combination.{combination, constant_form, coefficient_of}
use Rattle.affine_form.specs.Form.{IsSmall, IsSmallForm}
use Rattle.affine_form.specs.Rows.{variable, variables_from, IsSmallOver}
use Rattle.affine_form.specs.Substitution.{substitution}
use Rattle.affine_form.proofs.Combination.{coefficient_of-combination, coefficient_of-constant}
use Rattle.affine_form.proofs.RowLemmas.{length-widened, variables-substitution}
use Rattle.affine_form.proofs.Sizes.{size-add}
use Rattle.dep_quast.specs.OpenLeaves.{form_at}
use Rattle.iolb_model.specs.declared.limits.TheConstants.{NUMBER_SIZE}

-- the sizes of a variable's coefficients in forms, added up
total_size : ℕ → List AffineForm → ℕ
total_size v [] = 0
total_size v (f ∷ fs) = unsigned_abs (coefficient_of v f) + total_size v fs

total_size-append : (v : ℕ) (fs gs : List AffineForm) → total_size v (fs ++ gs) ≡ total_size v fs + total_size v gs
unfolding total_size
total_size-append v [] gs = omega arith
total_size-append v (f ∷ fs) gs = omega (arith, total_size-append v fs gs)

-- a coefficient of a combination is at most as often the greatest number as the variable stands in the forms
coefficient-bounded : (v limit : ℕ) (cs : List ℤ) (fs : List AffineForm) (constant : ℤ) → AllByRecursion (λ (c : ℤ). unsigned_abs c ≤ limit) cs
    → unsigned_abs (coefficient_of v (combination (zip cs fs) (constant_form 0 constant))) ≤ total_size v fs * limit
unfolding total_size
coefficient-bounded v limit [] fs constant h = omega arith
coefficient-bounded v limit (c ∷ cs) [] constant h = omega arith
coefficient-bounded v limit (c ∷ cs) (f ∷ fs) constant h =
    let x : ℤ = coefficient_of v f in
    let rest : ℤ = coefficient_of v (combination (zip cs fs) (constant_form 0 constant)) in
    let below : unsigned_abs rest ≤ total_size v fs * limit = coefficient-bounded v limit cs fs constant h.1 in
    let product : unsigned_abs x * unsigned_abs c ≤ unsigned_abs x * limit = mul-le-mul (omega arith) h.0 in
    subst (λ (z : ℤ). unsigned_abs z ≤ (unsigned_abs x + total_size v fs) * limit) (sym (coefficient_of-combination v c f (zip cs fs) (constant_form 0 constant)))
    (omega (arith, size-add (c *ℤ x) rest, unsigned_abs-mul c x, turned (unsigned_abs c) (unsigned_abs x), add-mul (unsigned_abs x) (total_size v fs) limit, below, product)) where
      turned : (m n : ℕ) → m * n ≡ n * m
      turned m n = grind arith

-- a variable stands once in the variables of a row among which it is, and else not
unit-at : (vars place v : ℕ) → place < vars → (v ≡ place → unsigned_abs (coefficient_of v (variable vars place)) ≡ 1) × (v ≢ place → unsigned_abs (coefficient_of v (variable vars place)) ≡ 0)
unit-at vars place v there = (
  λ e. ap unsigned_abs (ap (λ (n : ℕ). get_or (set (replicate vars (pos 0)) place (pos 1)) n (pos 0)) e ∙ get_or-set_same (replicate vars (pos 0)) place (pos 1) (pos 0) (omega (arith, there, length-replicate vars (pos 0)))),
  λ apart. ap unsigned_abs (get_or-set_other (replicate vars (pos 0)) place v (pos 1) (pos 0) apart ∙ coefficient_of-constant v vars),
)

row-without : (vars first count v : ℕ) → first + count ≤ vars → (v < first) ⊎ (first + count ≤ v) → total_size v (variables_from vars first count) ≡ 0
unfolding total_size
row-without vars first zero v room out = refl
row-without vars first (suc count) v room out =
    omega (arith, (unit-at vars first v (omega (arith, room))).1 (λ e. other out e), row-without vars (suc first) count v (omega (arith, room)) (later out)) where
      other : (v < first) ⊎ (first + suc count ≤ v) → v ≡ first → ⊥
      other (inl less) e = absurd (omega (arith, less, e))
      other (inr more) e = absurd (omega (arith, more, e))

      later : (v < first) ⊎ (first + suc count ≤ v) → (v < suc first) ⊎ (suc first + count ≤ v)
      later (inl less) = inl (omega (arith, less))
      later (inr more) = inr (omega (arith, more))

row-once : (vars first count v : ℕ) → first + count ≤ vars → total_size v (variables_from vars first count) ≤ 1
unfolding total_size
row-once vars first zero v room = omega arith
row-once vars first (suc count) v room = by (cases_eq v first) (row-once vars (suc first) count v (omega (arith, room))) where
  by : (v ≡ first) ⊎ (v ≢ first) → total_size v (variables_from vars (suc first) count) ≤ 1
      → unsigned_abs (coefficient_of v (variable vars first)) + total_size v (variables_from vars (suc first) count) ≤ 1
  by (inl e) later = omega (arith, (unit-at vars first v (omega (arith, room))).0 e, row-without vars (suc first) count v (omega (arith, room)) (inl (omega (arith, e))))
  by (inr apart) later = omega (arith, (unit-at vars first v (omega (arith, room))).1 apart, later)

-- the constant is the form's
constant-kept : (cs : List ℤ) (fs : List AffineForm) (constant : ℤ) → AllByRecursion (λ (f : AffineForm). f.constant ≡ pos 0) fs
    → (combination (zip cs fs) (constant_form 0 constant)).constant ≡ constant
constant-kept [] fs constant h = refl
constant-kept (c ∷ cs) [] constant h = refl
constant-kept (c ∷ cs) (f ∷ fs) constant h =
    sum (c *ℤ f.constant) (combination (zip cs fs) (constant_form 0 constant)).constant (ap (λ (z : ℤ). c *ℤ z) h.0 ∙ mul-zero c) (constant-kept cs fs constant h.1) where
      sum : (a b : ℤ) → a ≡ pos 0 → b ≡ constant → a +ℤ b ≡ constant
      sum a b p q = omega (arith, ints)

row-constants : (vars first count : ℕ) → AllByRecursion (λ (f : AffineForm). f.constant ≡ pos 0) (variables_from vars first count)
row-constants vars first zero = tt
row-constants vars first (suc count) = (refl, row-constants vars (suc first) count)

All-places : (P : ℤ → Type 0) (xs : List ℤ) → ((i : ℕ) → P (get_or xs i (pos 0))) → AllByRecursion P xs
All-places P [] h = tt
All-places P (x ∷ xs) h = (h 0, All-places P xs (λ i. h (suc i)))

module _ (vars params first count : ℕ) (apart : params ≤ first) (room : first + count ≤ vars) where
  -- two rows of variables, the second behind the first
  abbrev point : List AffineForm
  point = variables_from vars 0 params ++ variables_from vars first count

  once : (v : ℕ) → total_size v point ≤ 1
  once v = by (split v) where
    split : (v : ℕ) → (v < params) ⊎ (params ≤ v)
    split v = grind arith

    by : (v < params) ⊎ (params ≤ v) → total_size v point ≤ 1
    by (inl less) =
        omega (
          arith,
          total_size-append v (variables_from vars 0 params) (variables_from vars first count),
          row-once vars 0 params v (omega (arith, apart, room)),
          row-without vars first count v room (inl (omega (arith, less, apart))),
        )
    by (inr more) =
        omega (
          arith,
          total_size-append v (variables_from vars 0 params) (variables_from vars first count),
          row-without vars 0 params v (omega (arith, apart, room)) (inr (omega (arith, more))),
          row-once vars first count v room,
        )

  -- a small form stays small
  substituted-small : (form : AffineForm) → IsSmallForm NUMBER_SIZE form → IsSmallForm NUMBER_SIZE (substitution form point)
  substituted-small form h = (
    All-places (IsSmall NUMBER_SIZE) (substitution form point).coefficients (λ v. small v (once v)
        (coefficient-bounded v 1048575 form.coefficients point form.constant (All-weaken (IsSmall NUMBER_SIZE) (λ (c : ℤ). unsigned_abs c ≤ 1048575) form.coefficients (λ c less. omega (arith, less)) h.0))),
    subst (IsSmall NUMBER_SIZE) (sym (constant-kept form.coefficients point form.constant (All-append (λ (f : AffineForm). f.constant ≡ pos 0) (variables_from vars 0 params) (variables_from vars first count) (row-constants vars 0 params) (row-constants vars first count)))) h.1,
  ) where
    small : (v : ℕ) → total_size v point ≤ 1 → unsigned_abs (coefficient_of v (substitution form point)) ≤ total_size v point * 1048575 → unsigned_abs (coefficient_of v (substitution form point)) < NUMBER_SIZE
    small v one bounded = omega (arith, one, bounded)

  -- and over all variables
  pub forms_at-small : AllByRecursion (IsSmallOver vars) point → (forms : List AffineForm) → AllByRecursion (IsSmallOver (length point)) forms → AllByRecursion (IsSmallOver vars) (map (form_at vars point) forms)
  forms_at-small over [] h = tt
  forms_at-small over (form ∷ forms) h =
      let put : IsSmallForm NUMBER_SIZE (substitution form point) = substituted-small form h.0.small in (
        record {
          over = length-widened vars (substitution form point) (variables-substitution form point vars (sym h.0.over) over);
          small = (All-append (IsSmall NUMBER_SIZE) (substitution form point).coefficients _ put.0 (All-replicate (IsSmall NUMBER_SIZE) _ (pos 0) (lit< tt)), put.1);
        },
        forms_at-small over forms h.1,
      )
