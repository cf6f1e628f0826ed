-- Variables, and variables one turn before, are small forms.
use Rattle.std.proofs.Common.{◌≡◌, ℕ, zero, suc, ◌+◌, ◌-◌, ◌<◌, List, [], ◌∷◌, length, map, replicate, arith, lit<}
use Rattle.std.specs.Prelude.{slice_set}
use Rattle.std.specs.List.{AllByRecursion}
use Rattle.std.proofs.Math.IntN.{ℤ, pos, negsuc, ◌-ℤ◌}
use Rattle.base_laws.proofs.Lists.{All-append, All-replicate, All-weaken}
use Rattle.iolb_model.specs.declared.limits.TheConstants.{NUMBER_SIZE}
use Rattle.iolb_model.specs.Program.{Direction, upward, downward}
use Rattle.affine_form.specs.Combination.{add_lists}
use Rattle.affine_form.specs.Form.{variables, IsSmall}
use Rattle.affine_form.specs.Rows.{IsSmallOver, variable, difference, widened}
use Rattle.affine_form.proofs.RowLemmas.{variables-over, length-difference}
use Rattle.affine_form.proofs.Sizes.{size-add}
use Rattle.flow_deps.specs.Candidates.{step_back}

-- a variable is a small form
pub variable-small : (vars k : ℕ) → IsSmallOver vars (variable vars k)
variable-small vars k = (variables-over vars k 1).0

add-small : (m n : ℕ) (xs ys : List ℤ) → 0 < m → 0 < n → AllByRecursion (IsSmall m) xs → AllByRecursion (IsSmall n) ys → AllByRecursion (IsSmall (m + n)) (add_lists xs ys)
add-small m n [] ys a b p q = All-weaken (IsSmall n) (IsSmall (m + n)) ys (λ y h. omega (arith, h)) q
add-small m n (x ∷ xs) [] a b p q = All-weaken (IsSmall m) (IsSmall (m + n)) (x ∷ xs) (λ y h. omega (arith, h)) p
add-small m n (x ∷ xs) (y ∷ ys) a b p q = (omega (arith, size-add x y, p.0, q.0), add-small m n xs ys a b p.1 q.1)

set-below : (limit : ℕ) (n k : ℕ) → 1 < limit → AllByRecursion (IsSmall limit) (variable n k).coefficients
set-below limit n k h = set-all (replicate n (pos 0)) k (All-replicate (IsSmall limit) n (pos 0) (omega arith)) where
  set-all : (xs : List ℤ) (k : ℕ) → AllByRecursion (IsSmall limit) xs → AllByRecursion (IsSmall limit) (slice_set xs k (pos 1))
  set-all [] k p = tt
  set-all (x ∷ xs) zero p = (h, p.1)
  set-all (x ∷ xs) (suc k) p = (p.0, set-all xs k p.1)

negated-zeros : (n : ℕ) → AllByRecursion (IsSmall 1) (map (λ (x : ℤ). pos 0 -ℤ x) (replicate n (pos 0)))
negated-zeros zero = tt
negated-zeros (suc n) = (lit< tt, negated-zeros n)

-- a variable one turn before is a small form
pub turn-small : (vars k : ℕ) (direction : Direction) → IsSmallOver vars (difference vars (variable vars k) (record { coefficients = []; constant = pos 0 }) (step_back direction))
turn-small vars k direction =
    let one : variables (variable vars k) ≡ vars = (variable-small vars k).over in
    let wide : AllByRecursion (IsSmall 2) (widened vars (variable vars k)).coefficients =
    All-append (IsSmall 2) (variable vars k).coefficients (replicate (vars - length (variable vars k).coefficients) (pos 0)) (set-below 2 vars k (lit< tt))
    (All-replicate (IsSmall 2) (vars - length (variable vars k).coefficients) (pos 0) (lit< tt)) in
    record {
      over = length-difference vars (variable vars k) (record { coefficients = []; constant = pos 0 }) (step_back direction) (omega (arith, one)) (omega arith);
      small = (
        All-weaken (IsSmall (2 + 1)) (IsSmall NUMBER_SIZE) (difference vars (variable vars k) (record { coefficients = []; constant = pos 0 }) (step_back direction)).coefficients (λ x h. omega (arith, h))
            (add-small 2 1 (widened vars (variable vars k)).coefficients (map (λ (x : ℤ). pos 0 -ℤ x) (widened vars (record { coefficients = []; constant = pos 0 })).coefficients) (lit< tt) (lit< tt)
            wide (negated-zeros (vars - 0))),
        number direction,
      );
    } where
      number : (d : Direction) → IsSmall NUMBER_SIZE (difference vars (variable vars k) (record { coefficients = []; constant = pos 0 }) (step_back d)).constant
      number upward = lit< tt
      number downward = lit< tt
