-- What the rows of a nest, of equal cells and of the order of execution are worth.
use Rattle.std.proofs.Common.{◌≡◌, refl, sym, ◌∙◌, ap, subst, inl, inr, ℕ, zero, suc, ◌+◌, ◌<◌, ◌≤◌, List, [], ◌∷◌, ◌++◌, length, get_or, arith}
use Rattle.std.specs.Prelude.{◌⊎◌, ⊤}
use Rattle.std.specs.List.{AllByRecursion}
use Rattle.std.proofs.Math.IntN.{ℤ, pos, negsuc, ◌+ℤ◌, ◌-ℤ◌}
use Rattle.std.proofs.lemmas.Int.{ints}
use Rattle.std.proofs.lemmas.List.{length-append, length-map, map-append}
use Rattle.iolb_model.specs.Form.{AffineForm, form_value}
use Rattle.iolb_model.specs.Program.{Direction, upward, downward}
use Rattle.affine_form.specs.Form.{variables}
use Rattle.affine_form.specs.Substitution.{substitution, values_at}
use Rattle.affine_form.specs.System.{AllOver}
use Rattle.affine_form.specs.Rows.{variable, variables_from, difference, within_rows, equality_rows, put_in, order_rows}
use Rattle.affine_form.proofs.Meaning.{form_value-difference, form_value-variable}
use Rattle.affine_form.proofs.RowLemmas.{length-variables}
use Rattle.affine_form.proofs.SubstitutionLemmas.{form_value-substitution}
use Rattle.projective.proofs.Picked.{Worth, IsWorth, IsPicked, picked-none}

-- ---- worths

-- a variable's value, and a worth less another
abbrev pub at : ℕ → Worth
at place point = get_or point place (pos 0)

abbrev pub less : Worth → Worth → Worth
less a b point = a point -ℤ b point

-- and 1 less
abbrev pub below : Worth → Worth → Worth
below a b point = (a point -ℤ b point) +ℤ negsuc 0

-- the forms are worth this, one by one
abbrev pub AreWorth : (ℕ → Worth) → List AffineForm → Type 0
AreWorth ws [] = ⊤
AreWorth ws (f ∷ fs) = IsWorth f (ws 0) × AreWorth (λ j. ws (suc j)) fs

pub worth-same : (ws vs : ℕ → Worth) (fs : List AffineForm) → ((j : ℕ) (point : List ℤ) → j < length fs → ws j point ≡ vs j point) → AreWorth ws fs → AreWorth vs fs
worth-same ws vs [] e h = tt
worth-same ws vs (f ∷ fs) e h =
    ((λ point. h.0 point ∙ e 0 point (omega arith)), worth-same (λ j. ws (suc j)) (λ j. vs (suc j)) fs (λ j point less. e (suc j) point (omega (arith, less))) h.1)

pub variables-worth : (vars first count : ℕ) → first + count ≤ vars → AreWorth (λ j. at (first + j)) (variables_from vars first count)
variables-worth vars first zero h = tt
variables-worth vars first (suc count) h = (
  (λ point. form_value-variable vars first point (omega arith) ∙ ap (λ (k : ℕ). get_or point k (pos 0)) none),
  worth-same (λ j. at (suc first + j)) (λ j. at (first + suc j)) (variables_from vars (suc first) count) (λ j point less. ap (λ (k : ℕ). get_or point k (pos 0)) (moved j))
      (variables-worth vars (suc first) count (omega arith)),
) where
  none : first ≡ first + 0
  none = omega arith

  moved : (j : ℕ) → suc first + j ≡ first + suc j
  moved j = omega arith

difference-worth : (vars : ℕ) (f g : AffineForm) (a b : Worth) (number : ℤ) → IsWorth f a → IsWorth g b → (point : List ℤ) → form_value (difference vars f g number) point ≡ (a point -ℤ b point) +ℤ number
difference-worth vars f g a b number p q point =
    form_value-difference vars f g number point ∙ ap (λ (z : ℤ). (z -ℤ form_value g point) +ℤ number) (p point) ∙ ap (λ (z : ℤ). (a point -ℤ z) +ℤ number) (q point)

pub less-worth : (vars : ℕ) (f g : AffineForm) (a b : Worth) → IsWorth f a → IsWorth g b → IsWorth (difference vars f g (pos 0)) (less a b)
less-worth vars f g a b p q point = let h = difference-worth vars f g a b (pos 0) p q point in omega (arith, ints)

pub below-worth : (vars : ℕ) (f g : AffineForm) (a b : Worth) → IsWorth f a → IsWorth g b → IsWorth (difference vars f g (negsuc 0)) (below a b)
below-worth vars f g a b p q point = difference-worth vars f g a b (negsuc 0) p q point

-- ---- bounds of a nest

-- two points have the same parameters
abbrev pub SameParameters : ℕ → List ℤ → List ℤ → Type 0
SameParameters params q point = (k : ℕ) → k < params → get_or q k (pos 0) ≡ get_or point k (pos 0)

-- each loop runs from 0 to its end, which depends on the parameters alone
abbrev pub RunsTo : ℕ → (ℕ → Worth) → List (AffineForm × AffineForm) → Type 0
RunsTo params ends [] = ⊤
RunsTo params ends (bounds ∷ loops) =
    (((q : List ℤ) → form_value bounds.0 q ≡ pos 0) × ((q point : List ℤ) → SameParameters params q point → form_value bounds.1 q ≡ ends 0 point))
    × RunsTo params (λ j. ends (suc j)) loops

-- forms whose first ones are the parameters
pub record KeepsParameters (params : ℕ) (before : List AffineForm) : Type 0 where
  pub long : params ≤ length before
  pub same : (point : List ℤ) → SameParameters params (values_at before point) point

at_left : (xs ys : List ℤ) (k : ℕ) → k < length xs → get_or (xs ++ ys) k (pos 0) ≡ get_or xs k (pos 0)
at_left [] ys k h = absurd (omega arith)
at_left (x ∷ xs) ys zero h = refl
at_left (x ∷ xs) ys (suc k) h = at_left xs ys k (omega arith)

pub keeps-more : (params : ℕ) (before more : List AffineForm) → KeepsParameters params before → KeepsParameters params (before ++ more)
keeps-more params before more h = record {
  long = omega (arith, h.long, length-append before more);
  same = λ point k less.
      ap (λ (xs : List ℤ). get_or xs k (pos 0)) (map-append (λ form. form_value form point) before more)
      ∙ at_left (values_at before point) (values_at more point) k (omega (arith, h.long, length-map before (λ (form : AffineForm). form_value form point))) ∙ h.same point k less;
}

pub at_worth : (ws : ℕ → Worth) (fs : List AffineForm) (k : ℕ) (point : List ℤ) → AreWorth ws fs → k < length fs → get_or (values_at fs point) k (pos 0) ≡ ws k point
at_worth ws [] k point h less = absurd (omega arith)
at_worth ws (f ∷ fs) zero point h less = h.0 point
at_worth ws (f ∷ fs) (suc k) point h less = at_worth (λ j. ws (suc j)) fs k point h.1 (omega arith)

-- the rows of the loop at a place
pub within-picked : (vars params : ℕ) (loops : List (AffineForm × AffineForm)) (before values : List AffineForm) (ends ws : ℕ → Worth) (j : ℕ) → RunsTo params ends loops → KeepsParameters params before
    → AreWorth ws values → j < length loops → j < length values → IsPicked (within_rows vars loops before values) (ws j ∷ less (ends j) (ws j) ∷ [])
within-picked vars params [] before values ends ws j runs keeps worth there here = absurd (omega arith)
within-picked vars params (bounds ∷ loops) before [] ends ws j runs keeps worth there here = absurd (omega arith)
within-picked vars params (bounds ∷ loops) before (v ∷ values) ends ws zero runs keeps worth there here =
    inl ((λ point. low point), inl ((λ point. high point), picked-none (within_rows vars loops (before ++ v ∷ []) values))) where
      low : (point : List ℤ) → form_value (difference vars v (substitution bounds.0 before) (pos 0)) point ≡ ws 0 point
      low point =
          let h = difference-worth vars v (substitution bounds.0 before) (ws 0) (λ p. pos 0) (pos 0) worth.0 (λ p. form_value-substitution bounds.0 before p ∙ runs.0.0 (values_at before p)) point in omega (arith, ints)

      high : (point : List ℤ) → form_value (difference vars (substitution bounds.1 before) v (pos 0)) point ≡ ends 0 point -ℤ ws 0 point
      high point =
          let h = difference-worth vars (substitution bounds.1 before) v (ends 0) (ws 0) (pos 0)
          (λ p. form_value-substitution bounds.1 before p ∙ runs.0.1 (values_at before p) p (keeps.same p)) worth.0 point in omega (arith, ints)
within-picked vars params (bounds ∷ loops) before (v ∷ values) ends ws (suc j) runs keeps worth there here =
    inr (inr (within-picked vars params loops (before ++ v ∷ []) values (λ k. ends (suc k)) (λ k. ws (suc k)) j runs.1 (keeps-more params before (v ∷ []) keeps) worth.1 (omega arith) (omega arith)))

-- what holds of all rows: of one that is worth the value at a place, and of one that is worth the end less it
pub within-each : (P : AffineForm → Type 0) (vars params : ℕ) (loops : List (AffineForm × AffineForm)) (before values : List AffineForm) (ends ws : ℕ → Worth) → RunsTo params ends loops
    → KeepsParameters params before → AreWorth ws values → AllOver vars (within_rows vars loops before values)
    → ((j : ℕ) → j < length loops → (f : AffineForm) → variables f ≡ vars → IsWorth f (ws j) → P f)
    → ((j : ℕ) → j < length loops → (f : AffineForm) → variables f ≡ vars → IsWorth f (less (ends j) (ws j)) → P f) → AllByRecursion P (within_rows vars loops before values)
within-each P vars params [] before values ends ws runs keeps worth over low high = tt
within-each P vars params (bounds ∷ loops) before [] ends ws runs keeps worth over low high = tt
within-each P vars params (bounds ∷ loops) before (v ∷ values) ends ws runs keeps worth over low high = (
  low 0 (omega arith) (difference vars v (substitution bounds.0 before) (pos 0)) over.0 (λ point.
      let h = difference-worth vars v (substitution bounds.0 before) (ws 0) (λ p. pos 0) (pos 0) worth.0 (λ p. form_value-substitution bounds.0 before p ∙ runs.0.0 (values_at before p)) point in omega (arith, ints)),
  (
    high 0 (omega arith) (difference vars (substitution bounds.1 before) v (pos 0)) over.1.0
        (less-worth vars (substitution bounds.1 before) v (ends 0) (ws 0) (λ p. form_value-substitution bounds.1 before p ∙ runs.0.1 (values_at before p) p (keeps.same p)) worth.0),
    within-each P vars params loops (before ++ v ∷ []) values (λ k. ends (suc k)) (λ k. ws (suc k)) runs.1 (keeps-more params before (v ∷ []) keeps) worth.1 over.1.1
        (λ j below. low (suc j) (omega (arith, below))) (λ j below. high (suc j) (omega (arith, below))),
  ),
)

-- ---- forms put in for variables

at_right : (xs ys : List ℤ) (n k : ℕ) → length xs ≡ n → get_or (xs ++ ys) (n + k) (pos 0) ≡ get_or ys k (pos 0)
at_right [] ys n k e = ap (λ (m : ℕ). get_or ys m (pos 0)) (omega arith)
at_right (x ∷ xs) ys zero k e = absurd (omega arith)
at_right (x ∷ xs) ys (suc n) k e = ap (λ (m : ℕ). get_or (x ∷ (xs ++ ys)) m (pos 0)) (moved n k) ∙ at_right xs ys n k (omega arith) where
  moved : (n k : ℕ) → suc n + k ≡ suc (n + k)
  moved n k = omega arith

-- a loop's variable with the parameters and loop values put in is worth the loop's value
pub put-worth : (vars n place : ℕ) (params values : List AffineForm) (ws : ℕ → Worth) → length params ≡ n → AreWorth ws values → place < length values → n + place < vars
    → IsWorth (substitution (variable vars (n + place)) (params ++ values)) (ws place)
put-worth vars n place params values ws long worth there below point =
    form_value-substitution (variable vars (n + place)) (params ++ values) point
    ∙ form_value-variable vars (n + place) (values_at (params ++ values) point) below
    ∙ ap (λ (xs : List ℤ). get_or xs (n + place) (pos 0)) (map-append (λ form. form_value form point) params values)
    ∙ at_right (values_at params point) (values_at values point) n place (length-map params (λ (form : AffineForm). form_value form point) ∙ long)
    ∙ at_worth ws values place point worth there

-- and with variables put in the variable
pub same-worth : (vars wide place : ℕ) → place < vars → vars ≤ wide → IsWorth (substitution (variable vars place) (variables_from wide 0 vars)) (at place)
same-worth vars wide place below more point =
    form_value-substitution (variable vars place) (variables_from wide 0 vars) point
    ∙ form_value-variable vars place (values_at (variables_from wide 0 vars) point) below
    ∙ at_worth (λ j. at (0 + j)) (variables_from wide 0 vars) place point (variables-worth wide 0 vars (omega arith)) (omega (arith, length-variables wide 0 vars))
    ∙ ap (λ (k : ℕ). get_or point k (pos 0)) none where
      none : 0 + place ≡ place
      none = omega arith

-- variables of the parameters keep them
pub parameters-kept : (vars params : ℕ) → params ≤ vars → KeepsParameters params (variables_from vars 0 params)
parameters-kept vars params more = record {
  long = omega (arith, length-variables vars 0 params);
  same = λ point k less. at_worth (λ j. at (0 + j)) (variables_from vars 0 params) k point (variables-worth vars 0 params (omega arith)) (omega (arith, length-variables vars 0 params))
      ∙ ap (λ (m : ℕ). get_or point m (pos 0)) (none k);
} where
  none : (k : ℕ) → 0 + k ≡ k
  none k = omega arith

-- ---- equal cells

-- a form is among others
abbrev pub IsAmong : AffineForm → List AffineForm → Type 0
IsAmong form [] = ⊥
IsAmong form (f ∷ fs) = (f ≡ form) ⊎ IsAmong form fs

module _ (vars : ℕ) (here there : List AffineForm) (form : AffineForm) (a b : Worth) (p : IsWorth (substitution form here) a) (q : IsWorth (substitution form there) b) where
  -- the rows of a subscript
  pub equality-first : (forms : List AffineForm) → IsAmong form forms → IsPicked (equality_rows vars (put_in here forms) (put_in there forms)) (less a b ∷ [])
  equality-first [] h = absurd h
  equality-first (f ∷ fs) (inl e) =
      inl (less-worth vars (substitution f here) (substitution f there) a b (subst (λ (g : AffineForm). IsWorth (substitution g here) a) (sym e) p) (subst (λ (g : AffineForm). IsWorth (substitution g there) b) (sym e) q), tt)
  equality-first (f ∷ fs) (inr h) = inr (inr (equality-first fs h))

  pub equality-second : (forms : List AffineForm) → IsAmong form forms → IsPicked (equality_rows vars (put_in here forms) (put_in there forms)) (less b a ∷ [])
  equality-second [] h = absurd h
  equality-second (f ∷ fs) (inl e) =
      inr (inl (less-worth vars (substitution f there) (substitution f here) b a (subst (λ (g : AffineForm). IsWorth (substitution g there) b) (sym e) q) (subst (λ (g : AffineForm). IsWorth (substitution g here) a) (sym e) p), picked-none (equality_rows vars (put_in here fs) (put_in there fs))))
  equality-second (f ∷ fs) (inr h) = inr (inr (equality-second fs h))

-- rows of forms that have the same value are worth nothing
pub equality-each : (P : AffineForm → Type 0) (vars : ℕ) (here there forms : List AffineForm) → AllOver vars (equality_rows vars (put_in here forms) (put_in there forms))
    → AllByRecursion (λ (form : AffineForm). (point : List ℤ) → form_value (substitution form here) point ≡ form_value (substitution form there) point) forms
    → ((f : AffineForm) → variables f ≡ vars → IsWorth f (λ point. pos 0) → P f) → AllByRecursion P (equality_rows vars (put_in here forms) (put_in there forms))
equality-each P vars here there [] over same each = tt
equality-each P vars here there (f ∷ fs) over same each = (
  each (difference vars (substitution f here) (substitution f there) (pos 0)) over.0 (λ point.
      let h = form_value-difference vars (substitution f here) (substitution f there) (pos 0) point in let e = same.0 point in omega (arith, ints)),
  (
    each (difference vars (substitution f there) (substitution f here) (pos 0)) over.1.0 (λ point.
        let h = form_value-difference vars (substitution f there) (substitution f here) (pos 0) point in let e = same.0 point in omega (arith, ints)),
    equality-each P vars here there fs over.1.1 same.1 each,
  ),
)

-- ---- the order of execution

-- loops that all run upward
abbrev pub AreUpward : List Direction → Type 0
AreUpward [] = ⊤
AreUpward (upward ∷ loops) = AreUpward loops
AreUpward (downward ∷ loops) = ⊥

-- the row of the last loop
pub order-last : (vars : ℕ) (loops : List Direction) (level : ℕ) (ys xs : List AffineForm) (b a : ℕ → Worth) → AreUpward loops → AreWorth b ys → AreWorth a xs
    → level < length loops → level < length ys → level < length xs → IsPicked (order_rows vars loops level ys xs) (below (a level) (b level) ∷ [])
order-last vars [] level ys xs b a rise p q h i k = absurd (omega arith)
order-last vars (direction ∷ loops) level [] xs b a rise p q h i k = absurd (omega arith)
order-last vars (direction ∷ loops) level (y ∷ ys) [] b a rise p q h i k = absurd (omega arith)
order-last vars (downward ∷ loops) level (y ∷ ys) (x ∷ xs) b a rise p q h i k = absurd rise
order-last vars (upward ∷ loops) zero (y ∷ ys) (x ∷ xs) b a rise p q h i k = inl (below-worth vars x y (a 0) (b 0) q.0 p.0, tt)
order-last vars (upward ∷ loops) (suc level) (y ∷ ys) (x ∷ xs) b a rise p q h i k =
    inr (inr (order-last vars loops level ys xs (λ j. b (suc j)) (λ j. a (suc j)) rise p.1 q.1 (omega arith) (omega arith) (omega arith)))

-- the second row of a loop before it
pub order-second : (vars : ℕ) (loops : List Direction) (level : ℕ) (ys xs : List AffineForm) (b a : ℕ → Worth) (j : ℕ) → AreWorth b ys → AreWorth a xs
    → level < length loops → level < length ys → level < length xs → j < level → IsPicked (order_rows vars loops level ys xs) (less (a j) (b j) ∷ [])
order-second vars [] level ys xs b a j p q h i k before = absurd (omega arith)
order-second vars (direction ∷ loops) level [] xs b a j p q h i k before = absurd (omega arith)
order-second vars (direction ∷ loops) level (y ∷ ys) [] b a j p q h i k before = absurd (omega arith)
order-second vars (direction ∷ loops) zero (y ∷ ys) (x ∷ xs) b a j p q h i k before = absurd (omega arith)
order-second vars (direction ∷ loops) (suc level) (y ∷ ys) (x ∷ xs) b a zero p q h i k before =
    inr (inl (less-worth vars x y (a 0) (b 0) q.0 p.0, picked-none (order_rows vars loops level ys xs)))
order-second vars (direction ∷ loops) (suc level) (y ∷ ys) (x ∷ xs) b a (suc j) p q h i k before =
    inr (inr (order-second vars loops level ys xs (λ n. b (suc n)) (λ n. a (suc n)) j p.1 q.1 (omega arith) (omega arith) (omega arith) (omega arith)))

-- where the values are equal before the last loop, and in it the second is 1 more, all rows are worth nothing
pub order-each : (P : AffineForm → Type 0) (vars : ℕ) (loops : List Direction) (level : ℕ) (ys xs : List AffineForm) (b a : ℕ → Worth) → AreUpward loops → AreWorth b ys → AreWorth a xs
    → AllOver vars (order_rows vars loops level ys xs) → ((j : ℕ) (point : List ℤ) → j < level → a j point ≡ b j point) → ((point : List ℤ) → a level point ≡ b level point +ℤ pos 1)
    → ((f : AffineForm) → variables f ≡ vars → IsWorth f (λ point. pos 0) → P f) → AllByRecursion P (order_rows vars loops level ys xs)
order-each P vars [] level ys xs b a rise p q over same next each = tt
order-each P vars (direction ∷ loops) level [] xs b a rise p q over same next each = tt
order-each P vars (direction ∷ loops) level (y ∷ ys) [] b a rise p q over same next each = tt
order-each P vars (downward ∷ loops) level (y ∷ ys) (x ∷ xs) b a rise p q over same next each = absurd rise
order-each P vars (upward ∷ loops) zero (y ∷ ys) (x ∷ xs) b a rise p q over same next each =
    (each (difference vars x y (negsuc 0)) over.0 (λ point. let h = below-worth vars x y (a 0) (b 0) q.0 p.0 point in let e = next point in omega (arith, ints)), tt)
order-each P vars (upward ∷ loops) (suc level) (y ∷ ys) (x ∷ xs) b a rise p q over same next each = (
  each (difference vars y x (pos 0)) over.0 (λ point. let h = less-worth vars y x (b 0) (a 0) p.0 q.0 point in let e = same 0 point (omega arith) in omega (arith, ints)),
  (
    each (difference vars x y (pos 0)) over.1.0 (λ point. let h = less-worth vars x y (a 0) (b 0) q.0 p.0 point in let e = same 0 point (omega arith) in omega (arith, ints)),
    order-each P vars loops level ys xs (λ j. b (suc j)) (λ j. a (suc j)) rise p.1 q.1 over.1.1 (λ j point before. same (suc j) point (omega (arith, before))) next each,
  ),
)
