-- Rows as forms, and what holds of each member of a list.
use Rattle.std.proofs.Common.{ℕ, ◌+◌, ◌<◌, List, [], ◌∷◌, map, take, drop, ◌≤◌, ◌++◌, arith, ℤ}
use Rattle.std.proofs.lemmas.List.{length-append, length-take-le, length-drop}
use Rattle.std.specs.List.{AllByRecursion}
use Rattle.std.specs.Prelude.{unsigned_abs}
use Rattle.base_laws.proofs.Lists.{All-append, All-map, All-weaken, All-take, All-drop}
use Rattle.iolb_model.specs.Program.{IsOver}
use Rattle.affine_form.specs.Form.{IsSmall, IsSmallForm}
use Rattle.c_reading.specs.Numbers.{constant_of}
use Rattle.c_grammar.specs.Well.{IsRowOver}
use Rattle.c_grammar.specs.Program.{narrowed}
use Rattle.iolb_model.specs.declared.limits.TheConstants.{LOOPS, PARAMETERS, NUMBER_SIZE, COEFFICIENT_SIZE}

pub All-mapped : {X Y : Type 0} (f : X → Y) (P : Y → Type 0) (Q : X → Type 0) → ((x : X) → Q x → P (f x)) → (xs : List X) → AllByRecursion Q xs → AllByRecursion P (map f xs)
All-mapped f P Q g xs h = All-map P f xs (All-weaken Q (λ x. P (f x)) xs g h)

pub smaller_all : (ns : List ℤ) → AllByRecursion (λ n. unsigned_abs n < NUMBER_SIZE) ns → AllByRecursion (IsSmall COEFFICIENT_SIZE) ns
smaller_all ns h = All-weaken (λ n. unsigned_abs n < NUMBER_SIZE) (IsSmall COEFFICIENT_SIZE) ns (λ n h. omega (arith, h)) h

-- the coefficients of a row's form are small
pub parts_small : (P : ℤ → Type 0) (p d : ℕ) (row : List ℤ) → AllByRecursion P row → AllByRecursion P (take p (drop 1 row) ++ take d (drop (1 + PARAMETERS) row))
parts_small P p d row h = All-append P (take p (drop 1 row)) (take d (drop (1 + PARAMETERS) row)) (All-take P p (drop 1 row) (All-drop P 1 row h)) (All-take P d (drop (1 + PARAMETERS) row) (All-drop P (1 + PARAMETERS) row h))

first_small : (row : List ℤ) → AllByRecursion (λ n. unsigned_abs n < NUMBER_SIZE) row → unsigned_abs (constant_of row) < NUMBER_SIZE
first_small [] h = omega arith
first_small (x ∷ row) h = h.0

pub narrowed_small : (p d : ℕ) (row : List ℤ) → IsRowOver p d row → IsSmallForm NUMBER_SIZE (narrowed p d row)
narrowed_small p d row over = (parts_small (IsSmall NUMBER_SIZE) p d row over.small, first_small row over.small)

pub narrowed_over : (p d : ℕ) (row : List ℤ) → p ≤ PARAMETERS → d ≤ LOOPS → IsRowOver p d row → IsOver (p + d) (narrowed p d row)
narrowed_over p d row few inner over =
    let first = length-drop 1 row in
    let last = length-drop (1 + PARAMETERS) row in
    let left = length-take-le p (drop 1 row) (omega (arith, first, over.width, few)) in
    let right = length-take-le d (drop (1 + PARAMETERS) row) (omega (arith, last, over.width, inner)) in
    omega (arith, left, right, length-append (take p (drop 1 row)) (take d (drop (1 + PARAMETERS) row)))

pub narrowed_all_small : (p d : ℕ) (rows : List (List ℤ)) → AllByRecursion (IsRowOver p d) rows → AllByRecursion (IsSmallForm NUMBER_SIZE) (map (narrowed p d) rows)
narrowed_all_small p d rows h = All-mapped (narrowed p d) (IsSmallForm NUMBER_SIZE) (IsRowOver p d) (narrowed_small p d) rows h

pub narrowed_all_over : (p d : ℕ) (rows : List (List ℤ)) → p ≤ PARAMETERS → d ≤ LOOPS → AllByRecursion (IsRowOver p d) rows → AllByRecursion (IsOver (p + d)) (map (narrowed p d) rows)
narrowed_all_over p d rows few inner h = All-mapped (narrowed p d) (IsOver (p + d)) (IsRowOver p d) (λ row over. narrowed_over p d row few inner over) rows h
