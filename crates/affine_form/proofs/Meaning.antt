-- What rows made of forms say of a point.
use Rattle.std.proofs.Common.{◌≡◌, refl, sym, ◌∙◌, ap, subst, ℕ, zero, suc, ◌+◌, ◌-◌, ◌*◌, ◌<◌, ◌≤◌, List, [], ◌∷◌, ◌++◌, length, map, replicate, get_or, arith}
use Rattle.std.specs.Prelude.{◌<ℤ◌, slice_set}
use Rattle.std.specs.List.{AllByRecursion}
use Rattle.std.proofs.Math.IntN.{ℤ, pos, negsuc, ◌+ℤ◌, ◌-ℤ◌, ◌*ℤ◌}
use lib.Signed.{◌≤ℤ◌}
use Rattle.std.proofs.lemmas.Int.{ints}
use Rattle.std.proofs.lemmas.List.{get_or_at, length-append, append-nil, append_assoc, map-append}
use Rattle.iolb_model.proofs.Forms.{form_value-front}
use Rattle.base_laws.proofs.Ring.{zero-mul, one-mul, sub-mul}
use Rattle.iolb_model.specs.Form.{AffineForm, dot, form_value}
use Rattle.iolb_model.specs.Program.{Direction, upward, downward, IsOver}
use Rattle.iolb_model.specs.Domain.{IsWithin}
use Rattle.iolb_model.specs.Order.{GoesBefore, Precedes}
use Rattle.affine_form.specs.Substitution.{substitution, values_at}
use Rattle.affine_form.specs.System.{IsMet}
use Rattle.affine_form.proofs.Combination.{dot-add_lists, dot-zeros}
use Rattle.affine_form.proofs.SubstitutionLemmas.{form_value-substitution}
use Rattle.affine_form.specs.Rows.{IsSmallOver, widened, variable, variables_from, difference, within_rows, guard_rows, equality_rows, put_in, earlier_row, order_rows}

-- zeros at the end add nothing
dot-end : (cs : List ℤ) (n : ℕ) (point : List ℤ) → dot (cs ++ replicate n (pos 0)) point ≡ dot cs point
dot-end [] n point = dot-zeros n point
dot-end (c ∷ cs) n [] = refl
dot-end (c ∷ cs) n (p ∷ point) = ap (λ (z : ℤ). (c *ℤ p) +ℤ z) (dot-end cs n point)

-- a form read over more variables has the same values
pub form_value-widened : (vars : ℕ) (form : AffineForm) (point : List ℤ) → form_value (widened vars form) point ≡ form_value form point
form_value-widened vars form point = ap (λ (z : ℤ). z +ℤ form.constant) (dot-end form.coefficients (vars - length form.coefficients) point)

dot-less : (xs point : List ℤ) → dot (map (λ x. pos 0 -ℤ x) xs) point ≡ pos 0 -ℤ dot xs point
dot-less [] point = refl
dot-less (x ∷ xs) [] = refl
dot-less (x ∷ xs) (p ∷ point) =
    let h : dot (map (λ x. pos 0 -ℤ x) xs) point ≡ pos 0 -ℤ dot xs point = dot-less xs point in
    let product : (pos 0 -ℤ x) *ℤ p ≡ (pos 0 *ℤ p) -ℤ (x *ℤ p) = sub-mul (pos 0) x p in
    let none : pos 0 *ℤ p ≡ pos 0 = zero-mul p in
    total ((pos 0 -ℤ x) *ℤ p) (pos 0 *ℤ p) (x *ℤ p) (dot (map (λ x. pos 0 -ℤ x) xs) point) (dot xs point) product none h where
      total : (a b c d e : ℤ) → a ≡ b -ℤ c → b ≡ pos 0 → d ≡ pos 0 -ℤ e → a +ℤ d ≡ pos 0 -ℤ (c +ℤ e)
      total a b c d e p q r = omega (arith, ints)

-- the value of a difference
pub form_value-difference : (vars : ℕ) (f g : AffineForm) (number : ℤ) (point : List ℤ)
    → form_value (difference vars f g number) point ≡ (form_value f point -ℤ form_value g point) +ℤ number
form_value-difference vars f g number point =
    total (dot (difference vars f g number).coefficients point) (dot f.coefficients point) (dot g.coefficients point) f.constant g.constant
    (dot-add_lists (widened vars f).coefficients (map (λ x. pos 0 -ℤ x) (widened vars g).coefficients) point
    ∙ ap (λ (z : ℤ). z +ℤ dot (map (λ x. pos 0 -ℤ x) (widened vars g).coefficients) point) (dot-end f.coefficients (vars - length f.coefficients) point)
    ∙ ap (λ (z : ℤ). dot f.coefficients point +ℤ z) (dot-less (widened vars g).coefficients point ∙ ap (λ (z : ℤ). pos 0 -ℤ z) (dot-end g.coefficients (vars - length g.coefficients) point))) where
      total : (d a b m n : ℤ) → d ≡ a +ℤ (pos 0 -ℤ b) → d +ℤ ((m -ℤ n) +ℤ number) ≡ ((a +ℤ m) -ℤ (b +ℤ n)) +ℤ number
      total d a b m n h = omega (arith, ints)

dot-unit : (vars place : ℕ) (point : List ℤ) → place < vars → dot (slice_set (replicate vars (pos 0)) place (pos 1)) point ≡ get_or point place (pos 0)
dot-unit zero place point h = absurd (omega arith)
dot-unit (suc vars) zero [] h = refl
dot-unit (suc vars) zero (p ∷ point) h = sum (pos 1 *ℤ p) (dot (replicate vars (pos 0)) point) (one-mul p) (dot-zeros vars point) where
  sum : (a b : ℤ) → a ≡ p → b ≡ pos 0 → a +ℤ b ≡ p
  sum a b q r = omega (arith, ints)
dot-unit (suc vars) (suc place) [] h = refl
dot-unit (suc vars) (suc place) (p ∷ point) h =
    sum (pos 0 *ℤ p) (dot (slice_set (replicate vars (pos 0)) place (pos 1)) point) (get_or point place (pos 0)) (zero-mul p) (dot-unit vars place point (omega arith)) where
      sum : (a b c : ℤ) → a ≡ pos 0 → b ≡ c → a +ℤ b ≡ c
      sum a b c q r = omega (arith, ints)

pub form_value-variable : (vars place : ℕ) (point : List ℤ) → place < vars → form_value (variable vars place) point ≡ get_or point place (pos 0)
form_value-variable vars place point h = none (dot-unit vars place point h) where
  none : {a b : ℤ} → a ≡ b → a +ℤ pos 0 ≡ b
  none e = omega (arith, ints)

-- variables in a row have the values that stand there
pub values_at-variables : (vars first : ℕ) (before xs after : List ℤ) → length before ≡ first → first + length xs ≤ vars
    → values_at (variables_from vars first (length xs)) (before ++ (xs ++ after)) ≡ xs
values_at-variables vars first before [] after e h = refl
values_at-variables vars first before (x ∷ xs) after e h =
    let here : form_value (variable vars first) (before ++ (x ∷ (xs ++ after))) ≡ x =
    form_value-variable vars first (before ++ (x ∷ (xs ++ after))) (omega arith) ∙ get_or_at before x (xs ++ after) (pos 0) first e in
    let rest : values_at (variables_from vars (suc first) (length xs)) ((before ++ x ∷ []) ++ (xs ++ after)) ≡ xs =
    values_at-variables vars (suc first) (before ++ x ∷ []) xs after (omega (arith, length-append before (x ∷ []))) (omega arith) in
    let moved : (before ++ x ∷ []) ++ (xs ++ after) ≡ before ++ (x ∷ (xs ++ after)) = append_assoc before (x ∷ []) (xs ++ after) in
    ap (λ (v : ℤ). v ∷ values_at (variables_from vars (suc first) (length xs)) (before ++ (x ∷ (xs ++ after)))) here
    ∙ ap (λ (vs : List ℤ). x ∷ vs) (subst (λ (p : List ℤ). values_at (variables_from vars (suc first) (length xs)) p ≡ xs) moved rest)

at_least : (a b d : ℤ) → d ≡ (a -ℤ b) +ℤ pos 0 → pos 0 ≤ℤ d → b ≤ℤ a
at_least a b d e h = omega (arith, ints)

at_least-from : (a b d : ℤ) → d ≡ (a -ℤ b) +ℤ pos 0 → b ≤ℤ a → pos 0 ≤ℤ d
at_least-from a b d e h = omega (arith, ints)

-- the rows of values within bounds are met where the values are within them
pub within_rows-says : (vars : ℕ) (bounds : List (AffineForm × AffineForm)) (before values : List AffineForm) (point : List ℤ) → length values ≡ length bounds
    → IsMet (within_rows vars bounds before values) point → IsWithin bounds (values_at before point) (values_at values point)
within_rows-says vars [] before [] point same met = tt
within_rows-says vars [] before (v ∷ vs) point same met = absurd (omega arith)
within_rows-says vars (b ∷ bounds) before [] point same met = absurd (omega arith)
within_rows-says vars (b ∷ bounds) before (v ∷ vs) point same met =
    let least = form_value-difference vars v (substitution b.0 before) (pos 0) point ∙ ap (λ (z : ℤ). (form_value v point -ℤ z) +ℤ pos 0) (form_value-substitution b.0 before point) in
    let greatest = form_value-difference vars (substitution b.1 before) v (pos 0) point ∙ ap (λ (z : ℤ). (z -ℤ form_value v point) +ℤ pos 0) (form_value-substitution b.1 before point) in (
      at_least (form_value v point) (form_value b.0 (values_at before point)) (form_value (difference vars v (substitution b.0 before) (pos 0)) point) least met.0,
      at_least (form_value b.1 (values_at before point)) (form_value v point) (form_value (difference vars (substitution b.1 before) v (pos 0)) point) greatest met.1.0,
      subst (λ (p : List ℤ). IsWithin bounds p (values_at vs point)) (map-append (λ form. form_value form point) before (v ∷ []))
          (within_rows-says vars bounds (before ++ v ∷ []) vs point (omega arith) met.1.1),
    )

pub within_rows-met : (vars : ℕ) (bounds : List (AffineForm × AffineForm)) (before values : List AffineForm) (point : List ℤ)
    → IsWithin bounds (values_at before point) (values_at values point) → IsMet (within_rows vars bounds before values) point
within_rows-met vars [] before values point h = tt
within_rows-met vars (b ∷ bounds) before [] point h = absurd h
within_rows-met vars (b ∷ bounds) before (v ∷ vs) point h =
    let least = form_value-difference vars v (substitution b.0 before) (pos 0) point ∙ ap (λ (z : ℤ). (form_value v point -ℤ z) +ℤ pos 0) (form_value-substitution b.0 before point) in
    let greatest = form_value-difference vars (substitution b.1 before) v (pos 0) point ∙ ap (λ (z : ℤ). (z -ℤ form_value v point) +ℤ pos 0) (form_value-substitution b.1 before point) in (
      at_least-from (form_value v point) (form_value b.0 (values_at before point)) (form_value (difference vars v (substitution b.0 before) (pos 0)) point) least h.0,
      (
        at_least-from (form_value b.1 (values_at before point)) (form_value v point) (form_value (difference vars (substitution b.1 before) v (pos 0)) point) greatest h.1,
        within_rows-met vars bounds (before ++ v ∷ []) vs point
            (subst (λ (p : List ℤ). IsWithin bounds p (values_at vs point)) (sym (map-append (λ form. form_value form point) before (v ∷ []))) h.2),
      ),
    )

-- they are two for each loop
pub length-within_rows : (vars : ℕ) (bounds : List (AffineForm × AffineForm)) (before values : List AffineForm) → length values ≡ length bounds → length (within_rows vars bounds before values) ≡ 2 * length bounds
length-within_rows vars [] before values e = refl
length-within_rows vars (b ∷ bounds) before [] e = absurd (omega arith)
length-within_rows vars (b ∷ bounds) before (v ∷ values) e = omega (arith, length-within_rows vars bounds (before ++ v ∷ []) values (omega arith))

-- and at most so many for any values
pub within_rows-few : (vars : ℕ) (bounds : List (AffineForm × AffineForm)) (before values : List AffineForm) → length (within_rows vars bounds before values) ≤ 2 * length bounds
within_rows-few vars [] before values = omega arith
within_rows-few vars (b ∷ bounds) before [] = omega arith
within_rows-few vars (b ∷ bounds) before (v ∷ values) = omega (arith, within_rows-few vars bounds (before ++ v ∷ []) values)

equal-from : (a b d e : ℤ) → d ≡ (a -ℤ b) +ℤ pos 0 → e ≡ (b -ℤ a) +ℤ pos 0 → pos 0 ≤ℤ d → pos 0 ≤ℤ e → a ≡ b
equal-from a b d e p q h k = omega (arith, ints)

-- the rows of equal forms are met where the values are equal
pub equality_rows-say : (vars : ℕ) (fs gs : List AffineForm) (point : List ℤ) → length fs ≡ length gs → IsMet (equality_rows vars fs gs) point → values_at fs point ≡ values_at gs point
equality_rows-say vars [] [] point same met = refl
equality_rows-say vars [] (g ∷ gs) point same met = absurd (omega arith)
equality_rows-say vars (f ∷ fs) [] point same met = absurd (omega arith)
equality_rows-say vars (f ∷ fs) (g ∷ gs) point same met =
    let first : form_value f point ≡ form_value g point = equal-from (form_value f point) (form_value g point) (form_value (difference vars f g (pos 0)) point) (form_value (difference vars g f (pos 0)) point)
    (form_value-difference vars f g (pos 0) point) (form_value-difference vars g f (pos 0) point) met.0 met.1.0 in
    let rest : values_at fs point ≡ values_at gs point = equality_rows-say vars fs gs point (omega arith) met.1.1 in cc

pub equality_rows-met : (vars : ℕ) (fs gs : List AffineForm) (point : List ℤ) → values_at fs point ≡ values_at gs point → IsMet (equality_rows vars fs gs) point
equality_rows-met vars [] gs point e = tt
equality_rows-met vars (f ∷ fs) [] point e = absurd cc
equality_rows-met vars (f ∷ fs) (g ∷ gs) point e =
    let first : form_value f point ≡ form_value g point = cc in
    let rest : values_at fs point ≡ values_at gs point = cc in (
      at_least-from (form_value f point) (form_value g point) (form_value (difference vars f g (pos 0)) point) (form_value-difference vars f g (pos 0) point) (omega (arith, ints)),
      (
        at_least-from (form_value g point) (form_value f point) (form_value (difference vars g f (pos 0)) point) (form_value-difference vars g f (pos 0) point) (omega (arith, ints)),
        equality_rows-met vars fs gs point rest,
      ),
    )

-- forms put in have the values of the forms at the values of those that are put in
pub values_at-put_in : (point forms : List AffineForm) (values : List ℤ) → values_at (put_in point forms) values ≡ values_at forms (values_at point values)
values_at-put_in point [] values = refl
values_at-put_in point (f ∷ fs) values =
    let first : form_value (substitution f point) values ≡ form_value f (values_at point values) = form_value-substitution f point values in
    let rest = values_at-put_in point fs values in cc

-- the rows of guards are met where the guards are
pub guard_rows-met : (vars : ℕ) (guards point : List AffineForm) (values : List ℤ) → IsMet guards (values_at point values) → IsMet (guard_rows vars guards point) values
guard_rows-met vars [] point values met = tt
guard_rows-met vars (g ∷ guards) point values met = (
  subst (λ (z : ℤ). pos 0 ≤ℤ z) (sym (form_value-widened vars (substitution g point) values ∙ form_value-substitution g point values)) met.0,
  guard_rows-met vars guards point values met.1,
)

pub guard_rows-say : (vars : ℕ) (guards point : List AffineForm) (values : List ℤ) → IsMet (guard_rows vars guards point) values → IsMet guards (values_at point values)
guard_rows-say vars [] point values met = tt
guard_rows-say vars (g ∷ guards) point values met = (
  subst (λ (z : ℤ). pos 0 ≤ℤ z) (form_value-widened vars (substitution g point) values ∙ form_value-substitution g point values) met.0,
  guard_rows-say vars guards point values met.1,
)

-- they are one for each guard
pub length-guard_rows : (vars : ℕ) (guards point : List AffineForm) → length (guard_rows vars guards point) ≡ length guards
length-guard_rows vars [] point = refl
length-guard_rows vars (g ∷ guards) point = ap suc (length-guard_rows vars guards point)

above-one : (a b d : ℤ) → d ≡ (a -ℤ b) +ℤ negsuc 0 → pos 0 ≤ℤ d → b <ℤ a
above-one a b d e h = omega (arith, ints)

above-one-from : (a b d : ℤ) → d ≡ (a -ℤ b) +ℤ negsuc 0 → b <ℤ a → pos 0 ≤ℤ d
above-one-from a b d e h = omega (arith, ints)

-- the row of a loop is met where the one value comes before the other
earlier_row-says : (vars : ℕ) (direction : Direction) (y x : AffineForm) (point : List ℤ) → pos 0 ≤ℤ form_value (earlier_row vars direction y x) point
    → GoesBefore direction (form_value y point) (form_value x point)
earlier_row-says vars upward y x point met =
    above-one (form_value x point) (form_value y point) (form_value (difference vars x y (negsuc 0)) point) (form_value-difference vars x y (negsuc 0) point) met
earlier_row-says vars downward y x point met =
    above-one (form_value y point) (form_value x point) (form_value (difference vars y x (negsuc 0)) point) (form_value-difference vars y x (negsuc 0) point) met

earlier_row-met : (vars : ℕ) (direction : Direction) (y x : AffineForm) (point : List ℤ) → GoesBefore direction (form_value y point) (form_value x point)
    → pos 0 ≤ℤ form_value (earlier_row vars direction y x) point
earlier_row-met vars upward y x point h =
    above-one-from (form_value x point) (form_value y point) (form_value (difference vars x y (negsuc 0)) point) (form_value-difference vars x y (negsuc 0) point) h
earlier_row-met vars downward y x point h =
    above-one-from (form_value y point) (form_value x point) (form_value (difference vars y x (negsuc 0)) point) (form_value-difference vars y x (negsuc 0) point) h

-- two statements have a level of the loops around both: one for each loop, and one more where the first stands earlier
abbrev pub HasLevel : List Direction → ℕ → ℕ → ℕ → Type 0
HasLevel [] zero t s = t < s
HasLevel [] (suc level) t s = ⊥
HasLevel (direction ∷ loops) zero t s = Unit {0}
HasLevel (direction ∷ loops) (suc level) t s = HasLevel loops level t s

-- the rows of an order are met where the one comes before the other
pub order_rows-say : (vars : ℕ) (loops : List Direction) (level t s : ℕ) (ys xs : List AffineForm) (point : List ℤ) → HasLevel loops level t s
    → length loops ≤ length ys → length loops ≤ length xs → IsMet (order_rows vars loops level ys xs) point → Precedes loops level t s (values_at ys point) (values_at xs point)
order_rows-say vars [] zero t s ys xs point has p q met = has
order_rows-say vars [] (suc level) t s ys xs point has p q met = has
order_rows-say vars (d ∷ loops) level t s [] xs point has p q met = absurd (omega arith)
order_rows-say vars (d ∷ loops) level t s (y ∷ ys) [] point has p q met = absurd (omega arith)
order_rows-say vars (d ∷ loops) zero t s (y ∷ ys) (x ∷ xs) point has p q met = earlier_row-says vars d y x point met.0
order_rows-say vars (d ∷ loops) (suc level) t s (y ∷ ys) (x ∷ xs) point has p q met = (
  equal-from (form_value y point) (form_value x point) (form_value (difference vars y x (pos 0)) point) (form_value (difference vars x y (pos 0)) point)
      (form_value-difference vars y x (pos 0) point) (form_value-difference vars x y (pos 0) point) met.0 met.1.0,
  order_rows-say vars loops level t s ys xs point has (omega arith) (omega arith) met.1.1,
)

pub order_rows-met : (vars : ℕ) (loops : List Direction) (level t s : ℕ) (ys xs : List AffineForm) (point : List ℤ)
    → Precedes loops level t s (values_at ys point) (values_at xs point) → HasLevel loops level t s × IsMet (order_rows vars loops level ys xs) point
order_rows-met vars [] zero t s ys xs point h = (h, tt)
order_rows-met vars [] (suc level) t s ys xs point h = absurd h
order_rows-met vars (d ∷ loops) level t s [] xs point h = absurd h
order_rows-met vars (d ∷ loops) level t s (y ∷ ys) [] point h = absurd h
order_rows-met vars (d ∷ loops) zero t s (y ∷ ys) (x ∷ xs) point h = (tt, (earlier_row-met vars d y x point h, tt))
order_rows-met vars (d ∷ loops) (suc level) t s (y ∷ ys) (x ∷ xs) point h =
    let same : form_value y point ≡ form_value x point = h.0 in
    let rest = order_rows-met vars loops level t s ys xs point h.1 in (
      rest.0,
      (
        at_least-from (form_value y point) (form_value x point) (form_value (difference vars y x (pos 0)) point) (form_value-difference vars y x (pos 0) point) (omega (arith, ints)),
        (at_least-from (form_value x point) (form_value y point) (form_value (difference vars x y (pos 0)) point) (form_value-difference vars x y (pos 0) point) (omega (arith, ints)), rest.1),
      ),
    )

-- forms over the first of a point's values have the same values further on
pub values_at-front : (vars : ℕ) (forms : List AffineForm) (front rest : List ℤ) → AllByRecursion (IsSmallOver vars) forms → vars ≡ length front
    → values_at forms (front ++ rest) ≡ values_at forms front
values_at-front vars [] front rest over e = refl
values_at-front vars (f ∷ fs) front rest over e =
    let first = form_value-front f front rest (omega (arith, over.0.over)) in
    let others = values_at-front vars fs front rest over.1 e in cc

-- rows over the first values that are met there are met further on, also read over more variables
pub widened-met : (vars many : ℕ) (rows : List AffineForm) (front rest : List ℤ) → AllByRecursion (IsOver many) rows → many ≡ length front
    → IsMet rows front → IsMet (map (widened vars) rows) (front ++ rest)
widened-met vars many [] front rest over e met = tt
widened-met vars many (row ∷ rows) front rest over e met = (
  subst (λ (z : ℤ). pos 0 ≤ℤ z) (sym (form_value-widened vars row (front ++ rest) ∙ form_value-front row front rest (omega (arith, over.0)))) met.0,
  widened-met vars many rows front rest over.1 e met.1,
)

pub widened-stay : (vars : ℕ) (rows : List AffineForm) (point : List ℤ) → IsMet rows point → IsMet (map (widened vars) rows) point
widened-stay vars [] point met = tt
widened-stay vars (row ∷ rows) point met = (subst (λ (z : ℤ). pos 0 ≤ℤ z) (sym (form_value-widened vars row point)) met.0, widened-stay vars rows point met.1)

pub widened-say : (vars : ℕ) (rows : List AffineForm) (point : List ℤ) → IsMet (map (widened vars) rows) point → IsMet rows point
widened-say vars [] point met = tt
widened-say vars (row ∷ rows) point met = (subst (λ (z : ℤ). pos 0 ≤ℤ z) (form_value-widened vars row point) met.0, widened-say vars rows point met.1)

-- the variables of the front, of what follows it, and of the end
pub values-front : (vars count : ℕ) (front rest : List ℤ) → count ≡ length front → count ≤ vars → values_at (variables_from vars 0 count) (front ++ rest) ≡ front
values-front vars count front rest e h =
    subst (λ (n : ℕ). values_at (variables_from vars 0 n) (front ++ rest) ≡ front) (sym e) (values_at-variables vars 0 [] front rest refl (omega arith))

pub values-middle : (vars first count : ℕ) (front xs rest : List ℤ) → first ≡ length front → count ≡ length xs → first + count ≤ vars
    → values_at (variables_from vars first count) ((front ++ xs) ++ rest) ≡ xs
values-middle vars first count front xs rest d e h =
    subst (λ (n : ℕ). values_at (variables_from vars first n) ((front ++ xs) ++ rest) ≡ xs) (sym e)
    (subst (λ (p : List ℤ). values_at (variables_from vars first (length xs)) p ≡ xs) (sym (append_assoc front xs rest))
    (values_at-variables vars first front xs rest (sym d) (omega arith)))

pub values-end : (vars first count : ℕ) (front xs : List ℤ) → first ≡ length front → count ≡ length xs → first + count ≤ vars
    → values_at (variables_from vars first count) (front ++ xs) ≡ xs
values-end vars first count front xs d e h =
    subst (λ (p : List ℤ). values_at (variables_from vars first count) p ≡ xs) (append-nil (front ++ xs)) (values-middle vars first count front xs [] d e h)
