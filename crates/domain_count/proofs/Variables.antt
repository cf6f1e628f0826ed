-- Which variables the polynomial uses that right claims give.
use Rattle.std.proofs.Common.{Bool, true, false, ◌+◌, ◌≡◌, refl, sym, ◌∙◌, ap, subst, inl, inr, ℕ, zero, suc, ◌<◌, ◌≤◌, ◌^◌, List, [], ◌∷◌, ◌++◌, length, replicate, get_or, arith}
use Rattle.std.specs.Prelude.{◌⊎◌, ◌==◌, if◌then◌else◌}
use Rattle.std.proofs.Math.IntN.{ℤ, pos, negsuc, ◌+ℤ◌, ◌-ℤ◌, ◌*ℤ◌}
use Rattle.std.proofs.lemmas.Int.{ints}
use Rattle.std.proofs.lemmas.List.{length-append, length-replicate}
use Rattle.base_laws.proofs.Ring.{zero-mul}
use Rattle.iolb_model.specs.Form.{AffineForm, dot, form_value}
use Rattle.affine_form.specs.Rows.{BoundsFit}
use Rattle.poly_tree.specs.Expansion.{Expansion, Parts, number, over, none, part, at, put, value, parts_value, IsCanonical}
use Rattle.poly_tree.specs.Poly.{Quotient, IsLegal, numerator_at}
use Rattle.poly_tree.proofs.Expansions.{IsCanonical-more}
use Rattle.poly_tree.proofs.SameLemmas.{at-listed, length-listed, listed}
use Rattle.poly_tree.proofs.Unique.{agree, put-same, put-below, unique}
use Rattle.domain_count.specs.Antidifference.{IsAntidifference, IsSummed, less_one}
use Rattle.domain_count.specs.Count.{IsSumFrom}
use Rattle.domain_count.proofs.Counting.{positive-from}
use Rattle.domain_count.proofs.Fractions.{cancelled, ends-value, step-value}

-- two points have the same values of the variables below a bound
abbrev pub AgreeBelow : ℕ → List ℤ → List ℤ → Type 0
AgreeBelow bound p q = (w : ℕ) → w < bound → at p w ≡ at q w

-- a polynomial's value is the same at points that agree below a bound
abbrev pub ReadsBelow : ℕ → Expansion → Type 0
ReadsBelow bound t = (p q : List ℤ) → AgreeBelow bound p q → value t (at p) ≡ value t (at q)

-- a polynomial in a variable whose value doesn't depend on it has the value of its first part
first-part : (bound v : ℕ) (t : Expansion) (ps : Parts) → bound ≤ v → IsCanonical (2 ^ 16) (over v (part t ps)) → ReadsBelow bound (over v (part t ps))
    → (point : ℕ → ℤ) → value (over v (part t ps)) point ≡ value t point
first-part bound v t ps le c reads point =
    let whole = over v (part t ps) in
    let low : IsCanonical (suc v) whole = (omega arith, c.1, c.2) in
    let other = put point v (pos 0) in
    sym (agree (suc v) whole (at (listed point (suc v))) point low (at-listed point (suc v)))
    ∙ reads (listed point (suc v)) (listed other (suc v))
    (λ w below. at-listed point (suc v) w (omega arith) ∙ sym (put-below point v (pos 0) w (omega arith)) ∙ sym (at-listed other (suc v) w (omega arith)))
    ∙ agree (suc v) whole (at (listed other (suc v))) other low (at-listed other (suc v))
    ∙ ap (λ (x : ℤ). value t other +ℤ (x *ℤ parts_value ps x other)) (put-same point v (pos 0))
    ∙ nothing (value t other) (pos 0 *ℤ parts_value ps (pos 0) other) (zero-mul (parts_value ps (pos 0) other))
    ∙ agree v t other point c.1.0 (λ w below. put-below point v (pos 0) w below) where
      nothing : (a b : ℤ) → b ≡ pos 0 → a +ℤ b ≡ a
      nothing a b e = omega (arith, ints)

-- a canonical polynomial uses only variables on which its value depends
pub uses-below : (bound : ℕ) (t : Expansion) → IsCanonical (2 ^ 16) t → ReadsBelow bound t → IsCanonical bound t
uses-below bound (number n) c reads = tt
uses-below bound (over v none) c reads = absurd c.2
uses-below bound (over v (part t ps)) c reads = by (order v bound) where
  order : (m n : ℕ) → (m < n) ⊎ (n ≤ m)
  order m n = grind arith

  by : (v < bound) ⊎ (bound ≤ v) → IsCanonical bound (over v (part t ps))
  by (inl less) = (less, c.1, c.2)
  by (inr le) =
      let same : over v (part t ps) ≡ t = unique (2 ^ 16) (over v (part t ps)) t c (IsCanonical-more v (2 ^ 16) t (omega (arith, c.0)) c.1.0) (first-part bound v t ps le c reads) in
      let low : IsCanonical v (over v (part t ps)) = subst (IsCanonical v) (sym same) c.1.0 in
      absurd (below low.0) where
        below : v < v → ⊥
        below h = omega arith

-- a form's value is the same at points that agree on its variables
dot-agrees : (cs p q : List ℤ) → length cs ≤ length p → length cs ≤ length q → AgreeBelow (length cs) p q → dot cs p ≡ dot cs q
dot-agrees [] p q a b h = refl
dot-agrees (c ∷ cs) [] q a b h = absurd (omega arith)
dot-agrees (c ∷ cs) (x ∷ p) [] a b h = absurd (omega arith)
dot-agrees (c ∷ cs) (x ∷ p) (y ∷ q) a b h =
    let here : x ≡ y = h 0 (omega arith) in
    let rest : dot cs p ≡ dot cs q = dot-agrees cs p q (omega arith) (omega arith) (λ w below. h (suc w) (omega arith)) in
    ap (λ (z : ℤ). (c *ℤ z) +ℤ dot cs p) here ∙ ap (λ (z : ℤ). (c *ℤ y) +ℤ z) rest

form-agrees : (form : AffineForm) (p q : List ℤ) (var : ℕ) → length form.coefficients ≤ var → var ≤ length p → var ≤ length q → AgreeBelow var p q → form_value form p ≡ form_value form q
form-agrees form p q var le a b h =
    ap (λ (z : ℤ). z +ℤ form.constant) (dot-agrees form.coefficients p q (omega arith) (omega arith) (λ w below. h w (omega arith)))

-- points with a value put in agree up to that variable where they agree below it
put-agrees : (p q : ℕ → ℤ) (v : ℕ) (x : ℤ) → ((w : ℕ) → w < v → p w ≡ q w) → (w : ℕ) → w < suc v → put p v x w ≡ put q v x w
put-agrees p q v x h w below = by (cases w v below) where
  cases : (m n : ℕ) → m < suc n → (m ≡ n) ⊎ (m < n)
  cases m n r = grind arith

  by : (w ≡ v) ⊎ (w < v) → put p v x w ≡ put q v x w
  by (inl same) = ap (put p v x) same ∙ put-same p v x ∙ sym (put-same q v x) ∙ ap (put q v x) (sym same)
  by (inr less) = put-below p v x w less ∙ h w less ∙ sym (put-below q v x w less)

-- the same variable put in twice
put-twice : (p r : ℕ → ℤ) (v n : ℕ) (x y : ℤ) → v < n → ((w : ℕ) → w < n → r w ≡ put p v x w) → (w : ℕ) → w < n → put r v y w ≡ put p v y w
unfolding put
put-twice p r v n x y less h w below = by (w == v) refl where
  by : (b : Bool) → b ≡ (w == v) → (if b then y else r w) ≡ (if b then y else p w)
  by true e = refl
  by false e = h w below ∙ ap (λ (b : Bool). if b then x else p w) (sym e)

-- a whole-number function and another with the same steps differ by one number
steps-agree : (F G : ℤ → ℤ) → ((x : ℤ) → F x -ℤ F (x -ℤ pos 1) ≡ G x -ℤ G (x -ℤ pos 1)) → (a b : ℤ) → F b -ℤ F a ≡ G b -ℤ G a
steps-agree F G h a b = by (b -ℤ a) refl where
  up : (n : ℕ) (x : ℤ) → F (x +ℤ pos n) -ℤ F x ≡ G (x +ℤ pos n) -ℤ G x
  up zero x = let same : x +ℤ pos 0 ≡ x = omega (arith, ints) in ap (λ (z : ℤ). F z -ℤ F x) same ∙ nothing (F x) (G x) ∙ ap (λ (z : ℤ). G z -ℤ G x) (sym same) where
    nothing : (m n : ℤ) → m -ℤ m ≡ n -ℤ n
    nothing m n = omega (arith, ints)
  up (suc n) x =
      let back : (x +ℤ pos (suc n)) -ℤ pos 1 ≡ x +ℤ pos n = omega (arith, ints) in
      let step : F (x +ℤ pos (suc n)) -ℤ F (x +ℤ pos n) ≡ G (x +ℤ pos (suc n)) -ℤ G (x +ℤ pos n) =
      ap (λ (z : ℤ). F (x +ℤ pos (suc n)) -ℤ F z) (sym back) ∙ h (x +ℤ pos (suc n)) ∙ ap (λ (z : ℤ). G (x +ℤ pos (suc n)) -ℤ G z) back in
      joined (F (x +ℤ pos (suc n))) (F (x +ℤ pos n)) (F x) (G (x +ℤ pos (suc n))) (G (x +ℤ pos n)) (G x) step (up n x) where
        joined : (c d e c' d' e' : ℤ) → c -ℤ d ≡ c' -ℤ d' → d -ℤ e ≡ d' -ℤ e' → c -ℤ e ≡ c' -ℤ e'
        joined c d e c' d' e' r s = omega (arith, ints)

  by : (z : ℤ) → z ≡ b -ℤ a → F b -ℤ F a ≡ G b -ℤ G a
  by (pos n) e =
      let there : a +ℤ pos n ≡ b = omega (arith, ints) in
      subst (λ (z : ℤ). F z -ℤ F a ≡ G z -ℤ G a) there (up n a)
  by (negsuc n) e =
      let there : b +ℤ pos (suc n) ≡ a = omega (arith, ints) in
      turned (F a) (F b) (G a) (G b) (subst (λ (z : ℤ). F z -ℤ F b ≡ G z -ℤ G b) there (up (suc n) b)) where
        turned : (c d c' d' : ℤ) → c -ℤ d ≡ c' -ℤ d' → d -ℤ c ≡ d' -ℤ c'
        turned c d c' d' r = omega (arith, ints)

-- A polynomial's numerator at a point with a value put in for a variable.
with_value : Quotient → List ℤ → ℕ → ℤ → ℤ
with_value sum p var x = value sum.tree (put (at p) var x)

module _ (n var : ℕ) (summand sum : Quotient) (inside : var < n) (canonical : IsCanonical n sum.tree) (legal : IsLegal sum) (some : 1 ≤ summand.denominator)
    (anti : IsAntidifference var summand sum) where
  -- its step there is what the summand has at such a point
  step-at : (p : List ℤ) (x : ℤ)
      → numerator_at summand (listed (put (at p) var x) n) *ℤ pos sum.denominator ≡ (with_value sum p var x -ℤ with_value sum p var (x -ℤ pos 1)) *ℤ pos summand.denominator
  unfolding with_value
  step-at p x =
      let point = listed (put (at p) var x) n in
      let back = anti.backward in
      let there : at point var ≡ x = at-listed (put (at p) var x) n var inside ∙ put-same (at p) var x in
      let here : numerator_at sum point ≡ with_value sum p var x = agree n sum.tree (at point) (put (at p) var x) canonical (at-listed (put (at p) var x) n) in
      let before : value sum.tree (put (at point) var (at point var -ℤ pos 1)) ≡ with_value sum p var (x -ℤ pos 1) =
      ap (λ (z : ℤ). value sum.tree (put (at point) var (z -ℤ pos 1))) there
      ∙ agree n sum.tree (put (at point) var (x -ℤ pos 1)) (put (at p) var (x -ℤ pos 1)) canonical
      (put-twice (at p) (at point) var n x (x -ℤ pos 1) inside (at-listed (put (at p) var x) n)) in
      step-value sum.denominator back.shifted.denominator anti.difference.denominator summand.denominator (with_value sum p var x) (with_value sum p var (x -ℤ pos 1))
      (numerator_at back.shifted point) (numerator_at anti.difference point) (numerator_at summand point) back.shift.legal.positive back.less.legal.positive
      (back.shift.value point ∙ ap (λ (z : ℤ). z *ℤ pos back.shifted.denominator) before)
      (back.less.value point
      ∙ ap (λ (z : ℤ). ((z *ℤ pos back.shifted.denominator) -ℤ (numerator_at back.shifted point *ℤ pos sum.denominator)) *ℤ pos anti.difference.denominator) here)
      (anti.same point)

  -- so at points that agree below the variable it has the same steps, where the summand reads the variables up to it alone
  values-agree : ((p q : List ℤ) → suc var ≤ length p → suc var ≤ length q → AgreeBelow (suc var) p q → numerator_at summand p ≡ numerator_at summand q)
      → (p q : List ℤ) → AgreeBelow var p q → (a b : ℤ) → with_value sum p var b -ℤ with_value sum p var a ≡ with_value sum q var b -ℤ with_value sum q var a
  values-agree reads p q same =
      steps-agree (with_value sum p var) (with_value sum q var)
      (λ x. let left = listed (put (at p) var x) n in let right = listed (put (at q) var x) n in
      cancelled summand.denominator (with_value sum p var x -ℤ with_value sum p var (x -ℤ pos 1)) (with_value sum q var x -ℤ with_value sum q var (x -ℤ pos 1)) some
      (sym (step-at p x)
      ∙ ap (λ (z : ℤ). z *ℤ pos sum.denominator)
      (reads left right (omega (arith, inside, length-listed (put (at p) var x) n)) (omega (arith, inside, length-listed (put (at q) var x) n))
      (λ w below. at-listed (put (at p) var x) n w (omega (arith, inside, below)) ∙ put-agrees (at p) (at q) var x same w below
      ∙ sym (at-listed (put (at q) var x) n w (omega (arith, inside, below)))))
      ∙ step-at q x))

-- the sum between bounds reads the variables before its own alone, where the summand reads those up to it alone
summed-agrees : (n var : ℕ) (bounds : AffineForm × AffineForm) (summand sum total : Quotient) (p q : List ℤ) → var < n → IsCanonical n sum.tree → 1 ≤ summand.denominator
    → length bounds.0.coefficients ≤ var → length bounds.1.coefficients ≤ var → IsSummed var bounds summand sum total
    → ((r s : List ℤ) → suc var ≤ length r → suc var ≤ length s → AgreeBelow (suc var) r s → numerator_at summand r ≡ numerator_at summand s)
    → var ≤ length p → var ≤ length q → AgreeBelow var p q → numerator_at total p ≡ numerator_at total q
unfolding with_value
summed-agrees n var bounds summand sum total p q inside canonical some le0 le1 is reads a b same =
    let u = is.between.upper in
    let l = is.between.lower in
    let at-ends : (r : List ℤ) → var ≤ length r
    → numerator_at total r *ℤ pos sum.denominator ≡ (with_value sum r var (form_value bounds.1 r) -ℤ with_value sum r var (form_value (less_one bounds.0) r)) *ℤ pos total.denominator
    = λ r far. ends-value sum.denominator u.denominator l.denominator total.denominator (with_value sum r var (form_value bounds.1 r)) (with_value sum r var (form_value (less_one bounds.0) r))
    (numerator_at u r) (numerator_at l r) (numerator_at total r) is.between.at_upper.legal.positive is.between.at_lower.legal.positive
    (is.between.at_upper.value r (omega arith)) (is.between.at_lower.value r (omega arith)) (is.between.less.value r) in
    cancelled sum.denominator (numerator_at total p) (numerator_at total q) is.legal.positive
    (at-ends p a
    ∙ ap (λ (z : ℤ). z *ℤ pos total.denominator)
    (values-agree n var summand sum inside canonical is.legal some is.antidifference reads p q same (form_value (less_one bounds.0) p) (form_value bounds.1 p)
    ∙ ap (λ (z : ℤ). with_value sum q var z -ℤ with_value sum q var (form_value (less_one bounds.0) p)) (form-agrees bounds.1 p q var le1 a b same)
    ∙ ap (λ (z : ℤ). with_value sum q var (form_value bounds.1 q) -ℤ with_value sum q var z) (form-agrees (less_one bounds.0) p q var le0 a b same))
    ∙ sym (at-ends q b))

-- ones behind a point change no variable
ones : (n w : ℕ) → pos 1 ≡ get_or (replicate n (pos 1)) w (pos 1)
ones zero w = refl
ones (suc n) zero = refl
ones (suc n) (suc w) = ones n w

pub at-longer : (p : List ℤ) (n w : ℕ) → get_or p w (pos 1) ≡ get_or (p ++ replicate n (pos 1)) w (pos 1)
at-longer [] n w = ones n w
at-longer (x ∷ p) n zero = refl
at-longer (x ∷ p) n (suc w) = at-longer p n w

-- a polynomial that reads so at long points does at all
reads-all : (var : ℕ) (t : Expansion) → ((p q : List ℤ) → var ≤ length p → var ≤ length q → AgreeBelow var p q → value t (at p) ≡ value t (at q)) → ReadsBelow var t
reads-all var t h p q same =
    let left = p ++ replicate var (pos 1) in
    let right = q ++ replicate var (pos 1) in
    ap (value t) (λ i w. at-longer p var w i)
    ∙ h left right (omega (arith, length-append p (replicate var (pos 1)), length-replicate var (pos 1))) (omega (arith, length-append q (replicate var (pos 1)), length-replicate var (pos 1)))
    (λ w below. sym (at-longer p var w) ∙ same w below ∙ at-longer q var w)
    ∙ ap (value t) (λ i w. sym (at-longer q var w) i)

-- what the sums give reads the variables before the first of them alone
sums-read : (var : ℕ) (nest : List (AffineForm × AffineForm)) (sums : List Quotient) (total : Quotient) → var + length nest ≤ 24 → BoundsFit var nest → IsSumFrom var nest sums total
    → (p q : List ℤ) → var ≤ length p → var ≤ length q → AgreeBelow var p q → numerator_at total p ≡ numerator_at total q
sums-read var [] sums total few fit h p q a b same =
    ap (λ (r : Quotient). numerator_at r p) h ∙ sym (ap (λ (r : Quotient). numerator_at r q) h)
sums-read var (bounds ∷ nest) [] total few fit h p q a b same = absurd h
sums-read var (bounds ∷ nest) (sum ∷ sums) total few fit h p q a b same =
    summed-agrees (2 ^ 16) var bounds h.0 sum total p q (omega (arith, few)) h.1.1.legal.canonical (positive-from (suc var) nest sums h.0 h.1.0)
    (omega (arith, fit.0.0.over)) (omega (arith, fit.0.1.over)) h.1.1
    (sums-read (suc var) nest sums h.0 (omega (arith, few)) fit.1 h.1.0) a b same

-- so it uses only these variables
pub sums-use : (var : ℕ) (nest : List (AffineForm × AffineForm)) (sums : List Quotient) (total : Quotient) → IsLegal total → var + length nest ≤ 24 → BoundsFit var nest
    → IsSumFrom var nest sums total → IsCanonical var total.tree
sums-use var nest sums total legal few fit h = uses-below var total.tree legal.canonical (reads-all var total.tree (sums-read var nest sums total few fit h))
