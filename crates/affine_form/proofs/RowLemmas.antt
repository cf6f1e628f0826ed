-- Rows made of forms: their lengths and sizes.
use Rattle.std.proofs.Common.{◌≡◌, refl, sym, ◌∙◌, ap, subst, ℕ, zero, suc, ◌+◌, ◌-◌, ◌*◌, ◌^◌, ◌<◌, ◌≤◌, List, [], ◌∷◌, ◌++◌, length, map, replicate, get_or, take, arith, lit<}
use Rattle.std.specs.Prelude.{unsigned_abs, slice_set, zip}
use Rattle.std.specs.List.{AllByRecursion}
use Rattle.std.proofs.Math.IntN.{ℤ, pos, negsuc, ◌-ℤ◌, ◌*ℤ◌}
use Rattle.std.proofs.lemmas.Int.{ints, unsigned_abs-mul}
use Rattle.std.proofs.lemmas.List.{length-append, length-replicate, length-map, length-set, append_assoc, map-append, replicate_more, take_more}
use Rattle.base_laws.proofs.Lists.{All-append, All-replicate, All-weaken}
use Rattle.iolb_model.specs.Form.{AffineForm}
use Rattle.affine_form.specs.Form.{variables, IsSmall, IsSmallForm}
use Rattle.affine_form.specs.Combination.{add_lists, coefficient_of, combination, constant_form}
use Rattle.affine_form.specs.Substitution.{substitution, width}
use Rattle.affine_form.specs.System.{AllOver}
use Rattle.affine_form.proofs.Combination.{get_or-add_lists, length-add_lists}
use Rattle.affine_form.proofs.Sizes.{size-add, product-below}
use Rattle.affine_form.proofs.SubstitutionLemmas.{length-substitution}
use Rattle.iolb_model.specs.Program.{Direction, upward, downward}
use Rattle.affine_form.specs.Rows.{widened, variable, variables_from, difference, within_rows, guard_rows, equality_rows, put_in, earlier_row, order_rows, IsSmallOver, IsSmallWithin, BoundsFit}
use Rattle.iolb_model.specs.declared.limits.TheConstants.{NUMBER_SIZE, PUT_SIZE}

-- a form read over more variables has them
pub length-widened : (vars : ℕ) (form : AffineForm) → variables form ≤ vars → variables (widened vars form) ≡ vars
length-widened vars form h =
    omega (arith, length-append form.coefficients (replicate (vars - length form.coefficients) (pos 0)), length-replicate (vars - length form.coefficients) (pos 0))

-- zeros at the end change no coefficient
pub get_or-zeros : (cs : List ℤ) (n k : ℕ) → get_or (cs ++ replicate n (pos 0)) k (pos 0) ≡ get_or cs k (pos 0)
get_or-zeros [] zero k = refl
get_or-zeros [] (suc n) zero = refl
get_or-zeros [] (suc n) (suc k) = get_or-zeros [] n k
get_or-zeros (c ∷ cs) n zero = refl
get_or-zeros (c ∷ cs) n (suc k) = get_or-zeros cs n k

-- the coefficients of what is subtracted
negated-at : (ys : List ℤ) (k : ℕ) → get_or (map (λ x. pos 0 -ℤ x) ys) k (pos 0) ≡ pos 0 -ℤ get_or ys k (pos 0)
negated-at [] k = refl
negated-at (y ∷ ys) zero = refl
negated-at (y ∷ ys) (suc k) = negated-at ys k

-- a coefficient of a difference
pub coefficient_of-difference : (vars : ℕ) (f g : AffineForm) (number : ℤ) (k : ℕ) → coefficient_of k (difference vars f g number) ≡ coefficient_of k f -ℤ coefficient_of k g
coefficient_of-difference vars f g number k =
    let h = get_or-add_lists (widened vars f).coefficients (map (λ x. pos 0 -ℤ x) (widened vars g).coefficients) k in
    let e = negated-at (widened vars g).coefficients k in
    let p = get_or-zeros f.coefficients (vars - length f.coefficients) k in
    let q = get_or-zeros g.coefficients (vars - length g.coefficients) k in omega (arith, ints)

-- the variables of a difference
pub length-difference : (vars : ℕ) (f g : AffineForm) (number : ℤ) → variables f ≤ vars → variables g ≤ vars → variables (difference vars f g number) ≡ vars
length-difference vars f g number p q =
    length-add_lists vars (widened vars f).coefficients (map (λ x. pos 0 -ℤ x) (widened vars g).coefficients) (length-widened vars f p)
    (length-map (widened vars g).coefficients (λ (x : ℤ). pos 0 -ℤ x) ∙ length-widened vars g q)

-- one zero more
pub zeros-more : (cs : List ℤ) (place : ℕ) (xs : List ℤ) → length cs ≤ place → xs ≡ cs ++ replicate (place - length cs) (pos 0)
    → xs ++ pos 0 ∷ [] ≡ cs ++ replicate ((place + 1) - length cs) (pos 0)
zeros-more cs place xs past h =
    ap (λ (ys : List ℤ). ys ++ pos 0 ∷ []) h ∙ append_assoc cs (replicate (place - length cs) (pos 0)) (pos 0 ∷ [])
    ∙ ap (λ (ys : List ℤ). cs ++ ys) (replicate_more (place - length cs) (pos 0))
    ∙ ap (λ (n : ℕ). cs ++ replicate n (pos 0)) (count (length cs) past) where
      count : (n : ℕ) → n ≤ place → (place - n) + 1 ≡ (place + 1) - n
      count n p = omega arith

-- one variable more
pub variables-more : (vars place end : ℕ) (xs ys whole : List AffineForm) → place < end → ys ≡ xs ++ variable vars place ∷ []
    → xs ++ variables_from vars place (end - place) ≡ whole → ys ++ variables_from vars (place + 1) (end - (place + 1)) ≡ whole
variables-more vars place end xs ys whole below pushed h =
    ap (λ (zs : List AffineForm). zs ++ variables_from vars (place + 1) (end - (place + 1))) pushed
    ∙ append_assoc xs (variable vars place ∷ []) (variables_from vars (place + 1) (end - (place + 1)))
    ∙ ap (λ (n : ℕ). xs ++ variable vars place ∷ variables_from vars n (end - (place + 1))) next
    ∙ ap (λ (n : ℕ). xs ++ variables_from vars place n) more ∙ h where
      next : place + 1 ≡ suc place
      next = omega arith

      more : suc (end - (place + 1)) ≡ end - place
      more = omega arith

-- numbers of a size up to a limit
abbrev IsUpTo : ℕ → ℤ → Type 0
IsUpTo limit x = unsigned_abs x ≤ limit

add_lists-up_to : (m n : ℕ) (xs ys : List ℤ) → AllByRecursion (IsUpTo m) xs → AllByRecursion (IsUpTo n) ys → AllByRecursion (IsUpTo (m + n)) (add_lists xs ys)
add_lists-up_to m n [] ys p q = All-weaken (IsUpTo n) (IsUpTo (m + n)) ys (λ y h. omega (arith, h)) q
add_lists-up_to m n (x ∷ xs) [] p q = All-weaken (IsUpTo m) (IsUpTo (m + n)) (x ∷ xs) (λ y h. omega (arith, h)) p
add_lists-up_to m n (x ∷ xs) (y ∷ ys) p q = (omega (arith, size-add x y, p.0, q.0), add_lists-up_to m n xs ys p.1 q.1)

scale-up_to : (a : ℤ) (xs : List ℤ) → unsigned_abs a < NUMBER_SIZE → AllByRecursion (IsSmall NUMBER_SIZE) xs → AllByRecursion (IsUpTo (2 ^ 40)) (map (λ (x : ℤ). a *ℤ x) xs)
scale-up_to a [] h p = tt
scale-up_to a (x ∷ xs) h p = (omega (arith, unsigned_abs-mul a x, product-below a x NUMBER_SIZE NUMBER_SIZE h p.0), scale-up_to a xs h p.1)

-- the numbers of a form with forms put in
combination-up_to : (xs : List ℤ) (forms : List AffineForm) (constant : ℤ) → AllByRecursion (IsSmall NUMBER_SIZE) xs → AllByRecursion (IsSmallForm NUMBER_SIZE) forms → unsigned_abs constant < NUMBER_SIZE
    → AllByRecursion (IsUpTo (length xs * 2 ^ 40)) (combination (zip xs forms) (constant_form 0 constant)).coefficients
    × IsUpTo (length xs * 2 ^ 40 + NUMBER_SIZE) (combination (zip xs forms) (constant_form 0 constant)).constant
combination-up_to [] forms constant p q h = (tt, omega (arith, h))
combination-up_to (x ∷ xs) [] constant p q h = (tt, omega (arith, h))
combination-up_to (x ∷ xs) (f ∷ fs) constant p q h =
    let rest = combination (zip xs fs) (constant_form 0 constant) in
    let before = combination-up_to xs fs constant p.1 q.1 h in
    let limit : 2 ^ 40 + length xs * 2 ^ 40 ≤ suc (length xs) * 2 ^ 40 = omega arith in (
      All-weaken (IsUpTo (2 ^ 40 + length xs * 2 ^ 40)) (IsUpTo (suc (length xs) * 2 ^ 40)) (add_lists (map (λ (y : ℤ). x *ℤ y) f.coefficients) rest.coefficients) (λ y g. omega (arith, g, limit))
          (add_lists-up_to (2 ^ 40) (length xs * 2 ^ 40) (map (λ (y : ℤ). x *ℤ y) f.coefficients) rest.coefficients (scale-up_to x f.coefficients p.0 q.0.0) before.0),
      omega (arith, size-add (x *ℤ f.constant) rest.constant, unsigned_abs-mul x f.constant, product-below x f.constant NUMBER_SIZE NUMBER_SIZE p.0 q.0.1, before.1),
    )

-- are of size below 2^60
pub small-substitution : (form : AffineForm) (point : List AffineForm) (vars : ℕ) → length point ≤ 24 → IsSmallOver (length point) form → AllByRecursion (IsSmallOver vars) point
    → IsSmallForm PUT_SIZE (substitution form point)
small-substitution form point vars few over h =
    let bounds = combination-up_to form.coefficients point form.constant over.small.0 (All-weaken (IsSmallOver vars) (IsSmallForm NUMBER_SIZE) point (λ f g. g.small) h) over.small.1 in
    let count : length form.coefficients ≤ 24 = omega (arith, over.over) in
    let limit : length form.coefficients * 2 ^ 40 + NUMBER_SIZE < PUT_SIZE = omega (arith, count) in
    (All-weaken (IsUpTo (length form.coefficients * 2 ^ 40)) (IsSmall PUT_SIZE) (substitution form point).coefficients (λ y g. omega (arith, g, limit)) bounds.0, omega (arith, bounds.1, limit))

-- forms over so many variables have the width of the first
pub AllOver-width : (vars : ℕ) (point : List AffineForm) → AllByRecursion (IsSmallOver vars) point → AllOver (width point) point
AllOver-width vars [] h = tt
AllOver-width vars (f ∷ fs) h = (refl, All-weaken (IsSmallOver vars) (λ (row : AffineForm). variables row ≡ variables f) fs (λ g e. e.over ∙ sym h.0.over) h.1)

width-within : (vars : ℕ) (point : List AffineForm) → AllByRecursion (IsSmallOver vars) point → width point ≤ vars
width-within vars [] h = omega arith
width-within vars (f ∷ fs) h = omega (arith, h.0.over)

-- a form with forms put in has no more variables than those
pub variables-substitution : (form : AffineForm) (point : List AffineForm) (vars : ℕ) → length point ≡ variables form → AllByRecursion (IsSmallOver vars) point
    → variables (substitution form point) ≤ vars
variables-substitution form point vars same h =
    omega (arith, length-substitution form point same (AllOver-width vars point h), width-within vars point h)

-- small forms have small numbers
pub small-wider : (form : AffineForm) → IsSmallForm NUMBER_SIZE form → IsSmallForm PUT_SIZE form
small-wider form h = (All-weaken (IsSmall NUMBER_SIZE) (IsSmall PUT_SIZE) form.coefficients (λ x g. omega (arith, g)) h.0, omega (arith, h.1))

-- so many variables in a row
pub length-variables : (vars first count : ℕ) → length (variables_from vars first count) ≡ count
length-variables vars first zero = refl
length-variables vars first (suc count) = ap suc (length-variables vars (suc first) count)

pub set-small : (limit : ℕ) (xs : List ℤ) (k : ℕ) (y : ℤ) → AllByRecursion (IsSmall limit) xs → IsSmall limit y → AllByRecursion (IsSmall limit) (slice_set xs k y)
set-small limit [] k y h p = tt
set-small limit (x ∷ xs) zero y h p = (p, h.1)
set-small limit (x ∷ xs) (suc k) y h p = (h.0, set-small limit xs k y h.1 p)

-- are small forms over all variables
pub variables-over : (vars first count : ℕ) → AllByRecursion (IsSmallOver vars) (variables_from vars first count)
variables-over vars first zero = tt
variables-over vars first (suc count) = (
  record {
    over = length-set (replicate vars (pos 0)) first (pos 1) ∙ length-replicate vars (pos 0);
    small = (set-small NUMBER_SIZE (replicate vars (pos 0)) first (pos 1) (All-replicate (IsSmall NUMBER_SIZE) vars (pos 0) (lit< tt)) (lit< tt), lit< tt);
  },
  variables-over vars (suc first) count,
)

-- the rows of values within bounds are over all variables
pub within_rows-over : (vars : ℕ) (bounds : List (AffineForm × AffineForm)) (before values : List AffineForm) → BoundsFit (length before) bounds
    → AllByRecursion (IsSmallOver vars) before → AllByRecursion (IsSmallOver vars) values → AllOver vars (within_rows vars bounds before values)
within_rows-over vars [] before values fit p q = tt
within_rows-over vars (b ∷ bounds) before [] fit p q = tt
within_rows-over vars (b ∷ bounds) before (v ∷ values) fit p q =
    let value : variables v ≤ vars = omega (arith, q.0.over) in (
      length-difference vars v (substitution b.0 before) (pos 0) value (variables-substitution b.0 before vars (sym fit.0.0.over) p),
      (
        length-difference vars (substitution b.1 before) v (pos 0) (variables-substitution b.1 before vars (sym fit.0.1.over) p) value,
        within_rows-over vars bounds (before ++ v ∷ []) values (subst (λ (n : ℕ). BoundsFit n bounds) (omega (arith, length-append before (v ∷ []))) fit.1)
            (All-append (IsSmallOver vars) before (v ∷ []) p (q.0, tt)) q.1,
      ),
    )

pub equality_rows-over : (vars : ℕ) (fs gs : List AffineForm) → AllByRecursion (λ (f : AffineForm). variables f ≤ vars) fs → AllByRecursion (λ (f : AffineForm). variables f ≤ vars) gs
    → AllOver vars (equality_rows vars fs gs)
equality_rows-over vars [] gs p q = tt
equality_rows-over vars (f ∷ fs) [] p q = tt
equality_rows-over vars (f ∷ fs) (g ∷ gs) p q =
    (length-difference vars f g (pos 0) p.0 q.0, (length-difference vars g f (pos 0) q.0 p.0, equality_rows-over vars fs gs p.1 q.1))

pub put_in-within : (vars : ℕ) (point forms : List AffineForm) → AllByRecursion (IsSmallOver vars) point → AllByRecursion (IsSmallOver (length point)) forms
    → AllByRecursion (λ (f : AffineForm). variables f ≤ vars) (put_in point forms)
put_in-within vars point [] p q = tt
put_in-within vars point (f ∷ fs) p q = (variables-substitution f point vars (sym q.0.over) p, put_in-within vars point fs p q.1)

-- the rows of guards are over all variables
pub guard_rows-over : (vars : ℕ) (guards point : List AffineForm) → AllByRecursion (IsSmallOver vars) point → AllByRecursion (IsSmallOver (length point)) guards
    → AllOver vars (guard_rows vars guards point)
guard_rows-over vars [] point p q = tt
guard_rows-over vars (g ∷ guards) point p q =
    (length-widened vars (substitution g point) (variables-substitution g point vars (sym q.0.over) p), guard_rows-over vars guards point p q.1)

-- the row of one guard more
pub guard_rows-more : (vars k : ℕ) (guards point : List AffineForm) (guard row : AffineForm) (before rows more : List AffineForm) → k < length guards → guard ≡ get_or guards k guard
    → row ≡ widened vars (substitution guard point) → more ≡ rows ++ row ∷ [] → rows ≡ before ++ guard_rows vars (take k guards) point
    → more ≡ before ++ guard_rows vars (take (k + 1) guards) point
guard_rows-more vars k guards point guard row before rows more below read is pushed h =
    let so_far : List AffineForm = guard_rows vars (take k guards) point in
    let next : guard_rows vars (take (k + 1) guards) point ≡ so_far ++ widened vars (substitution guard point) ∷ [] =
    ap (λ (gs : List AffineForm). guard_rows vars gs point) (take_more guards k guard below ∙ ap (λ (g : AffineForm). take k guards ++ g ∷ []) (sym read))
    ∙ ap (map (widened vars)) (map-append (λ (form : AffineForm). substitution form point) (take k guards) (guard ∷ []))
    ∙ map-append (widened vars) (put_in point (take k guards)) (substitution guard point ∷ []) in
    pushed ∙ ap (λ (rs : List AffineForm). rs ++ row ∷ []) h ∙ append_assoc before so_far (row ∷ []) ∙ ap (λ (r : AffineForm). before ++ (so_far ++ r ∷ [])) is
    ∙ ap (λ (rs : List AffineForm). before ++ rs) (sym next)

earlier_row-over : (vars : ℕ) (direction : Direction) (y x : AffineForm) → IsSmallWithin vars y → IsSmallWithin vars x → variables (earlier_row vars direction y x) ≡ vars
earlier_row-over vars upward y x p q = length-difference vars x y (negsuc 0) q.within p.within
earlier_row-over vars downward y x p q = length-difference vars y x (negsuc 0) p.within q.within

pub order_rows-over : (vars : ℕ) (loops : List Direction) (level : ℕ) (ys xs : List AffineForm) → AllByRecursion (IsSmallWithin vars) ys → AllByRecursion (IsSmallWithin vars) xs
    → AllOver vars (order_rows vars loops level ys xs)
order_rows-over vars [] level ys xs p q = tt
order_rows-over vars (d ∷ loops) level [] xs p q = tt
order_rows-over vars (d ∷ loops) level (y ∷ ys) [] p q = tt
order_rows-over vars (d ∷ loops) zero (y ∷ ys) (x ∷ xs) p q = (earlier_row-over vars d y x p.0 q.0, tt)
order_rows-over vars (d ∷ loops) (suc level) (y ∷ ys) (x ∷ xs) p q =
    (length-difference vars y x (pos 0) p.0.within q.0.within, (length-difference vars x y (pos 0) q.0.within p.0.within, order_rows-over vars loops level ys xs p.1 q.1))
