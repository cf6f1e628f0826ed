-- Canonical polynomials with the same values are the same.
use Rattle.std.proofs.Common.{◌≡◌, ℕ, zero, suc, ◌*◌, ◌<◌, arith, subst, sym, refl, ◌∙◌, ap, inl, inr, ◌⊎◌}
use Rattle.std.proofs.Math.IntN.{ℤ, pos, negsuc, ◌+ℤ◌, ◌-ℤ◌, ◌*ℤ◌}
use Rattle.std.specs.Prelude.{unsigned_abs}
use Rattle.std.proofs.lemmas.Int.{ints, unsigned_abs-mul}
use Rattle.std.proofs.lemmas.Bool.Decides.{nat_tests}
use Rattle.base_laws.proofs.Ring.{mul-cancel, mul-sub, mul-zero}
use Rattle.poly_tree.specs.Expansion.{put, Expansion, Parts, number, over, none, part, zero_expansion, value, parts_value, IsCanonical, AreCanonical, HasTop, LastNonzero}

-- at the variable itself, and below
pub put-same : (point : ℕ → ℤ) (v : ℕ) (x : ℤ) → put point v x v ≡ x
unfolding put
put-same point v x = grind (arith, nat_tests)

pub put-below : (point : ℕ → ℤ) (v : ℕ) (x : ℤ) (w : ℕ) → w < v → put point v x w ≡ point w
unfolding put
put-below point v x w p = grind (arith, nat_tests)

-- a canonical polynomial reads the variables below its bound alone
mutual
  pub agree : (bound : ℕ) (t : Expansion) (p q : ℕ → ℤ) → IsCanonical bound t → ((w : ℕ) → w < bound → p w ≡ q w) → value t p ≡ value t q
  agree bound (number n) p q c h = refl
  agree bound (over v ps) p q c h =
      ap (λ (x : ℤ). parts_value ps x p) (h v c.0) ∙ parts-agree v ps (q v) p q c.1 (λ w r. h w (omega (arith, c.0)))

  parts-agree : (bound : ℕ) (ps : Parts) (x : ℤ) (p q : ℕ → ℤ) → AreCanonical bound ps → ((w : ℕ) → w < bound → p w ≡ q w) → parts_value ps x p ≡ parts_value ps x q
  parts-agree bound none x p q c h = refl
  parts-agree bound (part t ps) x p q c h =
      ap (λ (y : ℤ). y +ℤ (x *ℤ parts_value ps x p)) (agree bound t p q c.0 h) ∙ ap (λ (y : ℤ). value t q +ℤ (x *ℤ y)) (parts-agree bound ps x p q c.1 h)

-- a number that is a multiple of a greater one is 0
root : (a f : ℤ) → (a +ℤ (pos (suc (unsigned_abs a)) *ℤ f)) ≡ pos 0 → a ≡ pos 0
root a f e = from (unsigned_abs a) (unsigned_abs f) (sizes a (pos (suc (unsigned_abs a)) *ℤ f) e ∙ unsigned_abs-mul (pos (suc (unsigned_abs a))) f) (nothing a) where
  sizes : (x y : ℤ) → (x +ℤ y) ≡ pos 0 → unsigned_abs x ≡ unsigned_abs y
  sizes x y p = omega (arith, ints)

  nothing : (x : ℤ) → unsigned_abs x ≡ 0 → x ≡ pos 0
  nothing (pos n) p = ap pos p
  nothing (negsuc n) p = absurd (omega arith)

  from : (m n : ℕ) → m ≡ suc m * n → (m ≡ 0 → a ≡ pos 0) → a ≡ pos 0
  from m zero p q = q (omega arith)
  from m (suc n) p q = absurd (omega arith)

-- two sums that agree with a large factor have the same first part
pub roots : (a b f g : ℤ) → (a +ℤ (pos (suc (unsigned_abs (a -ℤ b))) *ℤ f)) ≡ (b +ℤ (pos (suc (unsigned_abs (a -ℤ b))) *ℤ g)) → a ≡ b
roots a b f g e = same (root (a -ℤ b) (f -ℤ g) (apart (pos (suc (unsigned_abs (a -ℤ b))) *ℤ f) (pos (suc (unsigned_abs (a -ℤ b))) *ℤ g) (pos (suc (unsigned_abs (a -ℤ b))) *ℤ (f -ℤ g)) (mul-sub (pos (suc (unsigned_abs (a -ℤ b)))) f g) e)) where
  same : (a -ℤ b) ≡ pos 0 → a ≡ b
  same p = omega (arith, ints)

  apart : (x y z : ℤ) → z ≡ x -ℤ y → (a +ℤ x) ≡ (b +ℤ y) → ((a -ℤ b) +ℤ z) ≡ pos 0
  apart x y z p q = omega (arith, ints)

-- and then the same second part
pub tails : (n : ℕ) (a b f g : ℤ) → a ≡ b → (a +ℤ (pos (suc n) *ℤ f)) ≡ (b +ℤ (pos (suc n) *ℤ g)) → f ≡ g
tails n a b f g p e = mul-cancel n f g (left (pos (suc n) *ℤ f) (pos (suc n) *ℤ g) e) where
  left : (x y : ℤ) → (a +ℤ x) ≡ (b +ℤ y) → x ≡ y
  left x y q = omega (arith, ints)

zero_sum : (n : ℕ) → pos 0 ≡ (pos 0 +ℤ (pos (suc n) *ℤ pos 0))
zero_sum n = sym (ap (λ (y : ℤ). pos 0 +ℤ y) (mul-zero (pos (suc n))))

-- all parts are zero
AllZero : Parts → Type 0
AllZero none = Unit {0}
AllZero (part t ps) = (t ≡ zero_expansion) × AllZero ps

zero-last : (t : Expansion) (ps : Parts) → t ≡ zero_expansion → AllZero ps → LastNonzero t ps → ⊥
unfolding AllZero
zero-last t none e z h = h e
zero-last t (part u ps) e z h = zero-last u ps z.0 z.1 h

zero-top : (ps : Parts) → AllZero ps → HasTop ps → ⊥
unfolding AllZero
zero-top none z h = h
zero-top (part t none) z h = h
zero-top (part t (part u ps)) z h = zero-last u ps z.1.0 z.1.1 h

-- the parts' value at a point that may have any value of the variable
pub at-put : (v : ℕ) (ps : Parts) (point : ℕ → ℤ) (x : ℤ) → AreCanonical v ps → value (over v ps) (put point v x) ≡ parts_value ps x point
at-put v ps point x c =
    ap (λ (y : ℤ). parts_value ps y (put point v x)) (put-same point v x) ∙ parts-agree v ps x (put point v x) point c (put-below point v x)

-- a canonical polynomial that is 0 everywhere is zero
mutual
  unfolding AllZero

  zero-tree : (bound : ℕ) (t : Expansion) → IsCanonical bound t → ((point : ℕ → ℤ) → value t point ≡ pos 0) → t ≡ zero_expansion
  zero-tree bound (number n) c h = ap number (h (λ (w : ℕ). pos 0))
  zero-tree bound (over v ps) c h =
      absurd (zero-top ps (zero-parts v ps c.1 (λ x point. sym (at-put v ps point (pos (suc x)) c.1) ∙ h (put point v (pos (suc x))))) c.2)

  zero-parts : (v : ℕ) (ps : Parts) → AreCanonical v ps → ((x : ℕ) (point : ℕ → ℤ) → parts_value ps (pos (suc x)) point ≡ pos 0) → AllZero ps
  zero-parts v none c h = tt
  zero-parts v (part t ps) c h =
      let first : (point : ℕ → ℤ) → value t point ≡ pos 0
      = λ point. root (value t point) (parts_value ps (pos (suc (unsigned_abs (value t point)))) point) (h (unsigned_abs (value t point)) point) in (
        zero-tree v t c.0 first,
        zero-parts v ps c.1 (λ x point. tails x (value t point) (pos 0) (parts_value ps (pos (suc x)) point) (pos 0) (first point) (h x point ∙ zero_sum x)),
      )

-- no canonical polynomial in lower variables has the values of one in a variable
low : (w : ℕ) (t : Expansion) (qs : Parts) → AreCanonical w qs → HasTop qs → ((x : ℕ) (point : ℕ → ℤ) → value t point ≡ parts_value qs (pos (suc x)) point) → ⊥
unfolding AllZero
low w t none c top h = top
low w t (part u none) c top h = top
low w t (part u (part s qs)) c top h =
    let rest = part s qs in
    let same : (point : ℕ → ℤ) → value t point ≡ value u point
    = λ point. roots (value t point) (value u point) (pos 0) (parts_value (part s qs) (pos (suc (unsigned_abs (value t point -ℤ value u point)))) point)
    (plus (value t point) (unsigned_abs (value t point -ℤ value u point)) ∙ h (unsigned_abs (value t point -ℤ value u point)) point) in
    let zeros = zero-parts w (part s qs) c.1 (λ x point. sym (tails x (value t point) (value u point) (pos 0) (parts_value (part s qs) (pos (suc x)) point) (same point)
    (plus (value t point) x ∙ h x point))) in
    last zeros where
      plus : (a : ℤ) (n : ℕ) → (a +ℤ (pos (suc n) *ℤ pos 0)) ≡ a
      plus a n = ap (λ (y : ℤ). a +ℤ y) (mul-zero (pos (suc n))) ∙ nothing a where
        nothing : (y : ℤ) → y +ℤ pos 0 ≡ y
        nothing y = omega (arith, ints)

      last : AllZero (part s qs) → ⊥
      last z = zero-last s qs z.0 z.1 top

-- there is no part, or the last isn't zero
Ends : Parts → Type 0
Ends none = Unit {0}
Ends (part t ps) = LastNonzero t ps

ends-rest : (t : Expansion) (ps : Parts) → LastNonzero t ps → Ends ps
unfolding Ends
ends-rest t none h = tt
ends-rest t (part u ps) h = h

ends-top : (ps : Parts) → HasTop ps → Ends ps
unfolding Ends
ends-top none h = tt
ends-top (part t none) h = absurd h
ends-top (part t (part u ps)) h = h

compare : (v w : ℕ) → (v ≡ w) ⊎ ((v < w) ⊎ (w < v))
compare v w = grind arith

-- canonical polynomials of the same values are the same
mutual
  unfolding Ends AllZero

  pub unique : (bound : ℕ) (t u : Expansion) → IsCanonical bound t → IsCanonical bound u → ((point : ℕ → ℤ) → value t point ≡ value u point) → t ≡ u
  unique bound (number m) (number n) c d h = ap number (h (λ (w : ℕ). pos 0))
  unique bound (number m) (over w qs) c d h =
      absurd (low w (number m) qs d.1 d.2 (λ x point. h (put point w (pos (suc x))) ∙ at-put w qs point (pos (suc x)) d.1))
  unique bound (over v ps) (number n) c d h =
      absurd (low v (number n) ps c.1 c.2 (λ x point. sym (h (put point v (pos (suc x)))) ∙ at-put v ps point (pos (suc x)) c.1))
  unique bound (over v ps) (over w qs) c d h =
      by (λ (e : v ≡ w). unique-parts w ps qs (subst (λ (y : ℕ). AreCanonical y ps) e c.1) d.1 (ends-top ps c.2) (ends-top qs d.2)
      (λ x point. sym (at-put w ps point (pos (suc x)) (subst (λ (y : ℕ). AreCanonical y ps) e c.1)) ∙ ap (λ (y : ℕ). value (over y ps) (put point w (pos (suc x)))) (sym e) ∙ h (put point w (pos (suc x))) ∙ at-put w qs point (pos (suc x)) d.1))
      (compare v w) where
        by : ((v ≡ w) → ps ≡ qs) → (v ≡ w) ⊎ ((v < w) ⊎ (w < v)) → over v ps ≡ over w qs
        by f (inl e) = ap (λ (y : ℕ). over y ps) e ∙ ap (over w) (f e)
        by f (inr (inl less)) =
            absurd (low w (over v ps) qs d.1 d.2 (λ x point. sym (agree w (over v ps) (put point w (pos (suc x))) point (less, c.1, c.2) (put-below point w (pos (suc x)))) ∙ h (put point w (pos (suc x))) ∙ at-put w qs point (pos (suc x)) d.1))
        by f (inr (inr more)) =
            absurd (low v (over w qs) ps c.1 c.2 (λ x point. sym (agree v (over w qs) (put point v (pos (suc x))) point (more, d.1, d.2) (put-below point v (pos (suc x)))) ∙ sym (h (put point v (pos (suc x)))) ∙ at-put v ps point (pos (suc x)) c.1))

  unique-parts : (v : ℕ) (ps qs : Parts) → AreCanonical v ps → AreCanonical v qs → Ends ps → Ends qs → ((x : ℕ) (point : ℕ → ℤ) → parts_value ps (pos (suc x)) point ≡ parts_value qs (pos (suc x)) point) → ps ≡ qs
  unique-parts v none none c d e f h = refl
  unique-parts v none (part u qs) c d e f h = let z = zero-parts v (part u qs) d (λ x point. sym (h x point)) in absurd (zero-last u qs z.0 z.1 f)
  unique-parts v (part t ps) none c d e f h = let z = zero-parts v (part t ps) c h in absurd (zero-last t ps z.0 z.1 e)
  unique-parts v (part t ps) (part u qs) c d e f h =
      let same : (point : ℕ → ℤ) → value t point ≡ value u point
      = λ point. roots (value t point) (value u point) (parts_value ps (pos (suc (unsigned_abs (value t point -ℤ value u point)))) point) (parts_value qs (pos (suc (unsigned_abs (value t point -ℤ value u point)))) point) (h (unsigned_abs (value t point -ℤ value u point)) point) in
      ap (λ (s : Expansion). part s ps) (unique v t u c.0 d.0 same)
      ∙ ap (part u) (unique-parts v ps qs c.1 d.1 (ends-rest t ps e) (ends-rest u qs f)
      (λ x point. tails x (value t point) (value u point) (parts_value ps (pos (suc x)) point) (parts_value qs (pos (suc x)) point) (same point) (h x point)))
