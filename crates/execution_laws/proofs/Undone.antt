-- Where a matrix undoes the order of the subscripts, points whose cells are equal are equal.
use Rattle.std.proofs.Common.{◌≡◌, refl, sym, ◌∙◌, ap, subst, inl, inr, ℕ, zero, suc, ◌+◌, ◌<◌, Bool, cond, List, [], ◌∷◌, ◌++◌, length, map, get_or, drop, arith}
use Rattle.std.specs.Prelude.{ℤ, pos, ◌+ℤ◌, ◌*ℤ◌}
use Rattle.std.proofs.lemmas.Int.{ints}
use Rattle.std.proofs.lemmas.Bool.{eq-eqb, ne_eqb, cases_eq}
use Rattle.std.proofs.lemmas.List.{same_lists, get_or_default}
use Rattle.base_laws.proofs.Ring.{zero-mul, mul-cancel, mul-zero, mul-add, add-mul, mul_assoc_ℤ, add_pairs}
use Rattle.iolb_model.specs.Form.{dot}
use Rattle.execution_laws.specs.Inverse.{column, scaled_entry, IsScaledInverse}

dot-nil : (row : List ℤ) → dot row [] ≡ pos 0
dot-nil [] = refl
dot-nil (c ∷ row) = refl

-- a row at a point is its number at this place times the first value, and what follows at the other values
dot-drop : (k : ℕ) (row : List ℤ) (x : ℤ) (xs : List ℤ) → dot (drop k row) (x ∷ xs) ≡ (get_or row k (pos 0) *ℤ x) +ℤ dot (drop (suc k) row) xs
dot-drop zero [] x xs = omega (arith, ints, zero-mul x)
dot-drop (suc k) [] x xs = omega (arith, ints, zero-mul x)
dot-drop zero (c ∷ row) x xs = refl
dot-drop (suc k) (c ∷ row) x xs = dot-drop k row x xs

-- a combination of sums is the sum of the combinations
dot-linear : (m : List ℤ) (rows : List (List ℤ)) (f g : List ℤ → ℤ) (x : ℤ)
    → dot m (map (λ (row : List ℤ). (f row *ℤ x) +ℤ g row) rows) ≡ (dot m (map f rows) *ℤ x) +ℤ dot m (map g rows)
dot-linear [] rows f g x = omega (arith, ints, zero-mul x)
dot-linear (a ∷ m) [] f g x = omega (arith, ints, zero-mul x)
dot-linear (a ∷ m) (row ∷ rows) f g x =
    ap (λ (z : ℤ). (a *ℤ ((f row *ℤ x) +ℤ g row)) +ℤ z) (dot-linear m rows f g x)
    ∙ ap (λ (z : ℤ). z +ℤ ((dot m (map f rows) *ℤ x) +ℤ dot m (map g rows))) (mul-add a (f row *ℤ x) (g row) ∙ ap (λ (z : ℤ). z +ℤ (a *ℤ g row)) (sym (mul_assoc_ℤ a (f row) x)))
    ∙ add_pairs ((a *ℤ f row) *ℤ x) (a *ℤ g row) (dot m (map f rows) *ℤ x) (dot m (map g rows))
    ∙ ap (λ (z : ℤ). z +ℤ ((a *ℤ g row) +ℤ dot m (map g rows))) (sym (add-mul (a *ℤ f row) (dot m (map f rows)) x))

map-same : {A B : Type 0} (f g : A → B) → ((x : A) → f x ≡ g x) → (xs : List A) → map f xs ≡ map g xs
map-same f g e [] = refl
map-same f g e (x ∷ xs) = ap (λ y. y ∷ map f xs) (e x) ∙ ap (λ l. g x ∷ l) (map-same f g e xs)

dot-of_zeros : (m : List ℤ) (rows : List (List ℤ)) → dot m (map (λ (row : List ℤ). pos 0) rows) ≡ pos 0
dot-of_zeros [] rows = refl
dot-of_zeros (a ∷ m) [] = refl
dot-of_zeros (a ∷ m) (row ∷ rows) = omega (arith, ints, mul-zero a, dot-of_zeros m rows)

-- the combination of the rows' numbers in one column
abbrev pub entry : List ℤ → List (List ℤ) → ℕ → ℤ
entry m rows place = dot m (column place rows)

off_diagonal : (scale row col : ℕ) → (row ≡ col → ⊥) → scaled_entry scale row col ≡ pos 0
off_diagonal scale row col apart = ap (λ (b : Bool). cond b (pos scale) (pos 0)) (ne_eqb row col apart)

on_diagonal : (scale row col : ℕ) → row ≡ col → scaled_entry scale row col ≡ pos scale
on_diagonal scale row col e = ap (λ (b : Bool). cond b (pos scale) (pos 0)) (eq-eqb row col e)

next_diagonal : (scale row col : ℕ) → scaled_entry scale (suc row) (suc col) ≡ scaled_entry scale row col
next_diagonal scale row col = elim (cases_eq row col) [
  | inl e ↦ on_diagonal scale (suc row) (suc col) (ap suc e) ∙ sym (on_diagonal scale row col e)
  | inr apart ↦ off_diagonal scale (suc row) (suc col) (λ e. apart (omega (arith, e))) ∙ sym (off_diagonal scale row col apart)
]

-- A combination of the rows at a point whose first entries are 0 ..
past_diagonal : (m : List ℤ) (rows : List (List ℤ)) (k : ℕ) (xs : List ℤ) → ((j : ℕ) → j < length xs → entry m rows (k + j) ≡ pos 0)
    → dot m (map (λ (row : List ℤ). dot (drop k row) xs) rows) ≡ pos 0
past_diagonal m rows k [] h = ap (dot m) (map-same (λ (row : List ℤ). dot (drop k row) []) (λ (row : List ℤ). pos 0) (λ row. dot-nil (drop k row)) rows) ∙ dot-of_zeros m rows
past_diagonal m rows k (x ∷ xs) h =
    ap (dot m) (map-same (λ (row : List ℤ). dot (drop k row) (x ∷ xs)) (λ (row : List ℤ). (get_or row k (pos 0) *ℤ x) +ℤ dot (drop (suc k) row) xs) (λ row. dot-drop k row x xs) rows)
    ∙ dot-linear m rows (λ (row : List ℤ). get_or row k (pos 0)) (λ (row : List ℤ). dot (drop (suc k) row) xs) x
    ∙ total (entry m rows k) (dot m (map (λ (row : List ℤ). dot (drop (suc k) row) xs) rows))
    (subst (λ (n : ℕ). entry m rows n ≡ pos 0) (omega arith) (h 0 (omega arith)))
    (past_diagonal m rows (suc k) xs (λ j l. subst (λ (n : ℕ). entry m rows n ≡ pos 0) (omega arith) (h (suc j) (omega (arith, l))))) where
      total : (a b : ℤ) → a ≡ pos 0 → b ≡ pos 0 → (a *ℤ x) +ℤ b ≡ pos 0
      total a b e f = ap (λ (z : ℤ). (z *ℤ x) +ℤ b) e ∙ omega (arith, ints, zero-mul x)

-- .. but for a number at one place is that number times the point's value at this place
at_diagonal : (scale : ℕ) (m : List ℤ) (rows : List (List ℤ)) (k place : ℕ) (xs : List ℤ) → ((j : ℕ) → j < length xs → entry m rows (k + j) ≡ scaled_entry scale place j)
    → place < length xs → dot m (map (λ (row : List ℤ). dot (drop k row) xs) rows) ≡ pos scale *ℤ get_or xs place (pos 0)
at_diagonal scale m rows k place [] h l = absurd (omega (arith, l))
at_diagonal scale m rows k zero (x ∷ xs) h l =
    ap (dot m) (map-same (λ (row : List ℤ). dot (drop k row) (x ∷ xs)) (λ (row : List ℤ). (get_or row k (pos 0) *ℤ x) +ℤ dot (drop (suc k) row) xs) (λ row. dot-drop k row x xs) rows)
    ∙ dot-linear m rows (λ (row : List ℤ). get_or row k (pos 0)) (λ (row : List ℤ). dot (drop (suc k) row) xs) x
    ∙ total (entry m rows k) (dot m (map (λ (row : List ℤ). dot (drop (suc k) row) xs) rows))
    (subst (λ (n : ℕ). entry m rows n ≡ pos scale) (omega arith) (h 0 (omega arith) ∙ on_diagonal scale 0 0 refl))
    (past_diagonal m rows (suc k) xs (λ j lt. subst (λ (n : ℕ). entry m rows n ≡ pos 0) (omega arith) (h (suc j) (omega (arith, lt)) ∙ off_diagonal scale 0 (suc j) (λ e. omega (arith, e))))) where
      total : (a b : ℤ) → a ≡ pos scale → b ≡ pos 0 → (a *ℤ x) +ℤ b ≡ pos scale *ℤ x
      total a b e f = ap (λ (z : ℤ). (z *ℤ x) +ℤ b) e ∙ omega (arith, ints)
at_diagonal scale m rows k (suc place) (x ∷ xs) h l =
    ap (dot m) (map-same (λ (row : List ℤ). dot (drop k row) (x ∷ xs)) (λ (row : List ℤ). (get_or row k (pos 0) *ℤ x) +ℤ dot (drop (suc k) row) xs) (λ row. dot-drop k row x xs) rows)
    ∙ dot-linear m rows (λ (row : List ℤ). get_or row k (pos 0)) (λ (row : List ℤ). dot (drop (suc k) row) xs) x
    ∙ total (entry m rows k) (dot m (map (λ (row : List ℤ). dot (drop (suc k) row) xs) rows)) (pos scale *ℤ get_or xs place (pos 0))
    (subst (λ (n : ℕ). entry m rows n ≡ pos 0) (omega arith) (h 0 (omega arith) ∙ off_diagonal scale (suc place) 0 (λ e. omega (arith, e))))
    (at_diagonal scale m rows (suc k) place xs (λ j lt. subst (λ (n : ℕ). entry m rows n ≡ scaled_entry scale place j) (omega arith) (h (suc j) (omega (arith, lt)) ∙ next_diagonal scale place j)) (omega (arith, l))) where
      total : (a b c : ℤ) → a ≡ pos 0 → b ≡ c → (a *ℤ x) +ℤ b ≡ c
      total a b c e f = ap (λ (z : ℤ). (z *ℤ x) +ℤ b) e ∙ omega (arith, ints, zero-mul x)

-- what the rows give at a point, the first matrix turns back into the point's values, scaled
pub undone : (scale size : ℕ) (matrix rows : List (List ℤ)) (xs : List ℤ) → length xs ≡ size → IsScaledInverse scale size matrix rows → (place : ℕ) → place < size
    → dot (get_or matrix place []) (map (λ (row : List ℤ). dot row xs) rows) ≡ pos scale *ℤ get_or xs place (pos 0)
undone scale size matrix rows xs wide inverse place l =
    at_diagonal scale (get_or matrix place []) rows 0 place xs
    (λ j lt. subst (λ (n : ℕ). entry (get_or matrix place []) rows n ≡ scaled_entry scale place j) (omega arith) (inverse place j l (omega (arith, lt, wide)))) (omega (arith, l, wide))

-- so points at which the rows give the same are equal
pub same_point : (scale size : ℕ) (matrix rows : List (List ℤ)) (xs ys : List ℤ) → length xs ≡ size → length ys ≡ size → IsScaledInverse (suc scale) size matrix rows
    → map (λ (row : List ℤ). dot row xs) rows ≡ map (λ (row : List ℤ). dot row ys) rows → xs ≡ ys
same_point scale size matrix rows xs ys wide wide' inverse e =
    same_lists xs ys (wide ∙ sym wide') (λ k d l.
    get_or_default xs k d (pos 0) l
    ∙ mul-cancel scale (get_or xs k (pos 0)) (get_or ys k (pos 0))
    (sym (undone (suc scale) size matrix rows xs wide inverse k (omega (arith, l, wide)))
    ∙ ap (dot (get_or matrix k [])) e
    ∙ undone (suc scale) size matrix rows ys wide' inverse k (omega (arith, l, wide)))
    ∙ sym (get_or_default ys k d (pos 0) (omega (arith, l, wide, wide'))))

-- a form at parameters and loop values: what the parameters give, and what the loop values give
pub dot-append : (row : List ℤ) (parameters xs : List ℤ) → dot row (parameters ++ xs) ≡ dot row parameters +ℤ dot (drop (length parameters) row) xs
dot-append row [] xs = omega (arith, ints, dot-nil row)
dot-append [] (p ∷ parameters) xs = refl
dot-append (c ∷ row) (p ∷ parameters) xs = omega (arith, ints, dot-append row parameters xs)
