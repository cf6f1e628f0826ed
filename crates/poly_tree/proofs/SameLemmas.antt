-- Polynomials with the same values have the same trees and denominators.
use Rattle.std.proofs.Common.{◌≡◌, ◌≢◌, ℕ, zero, suc, ◌+◌, ◌-◌, ◌*◌, ◌/◌, ◌<◌, ◌≤◌, ◌^◌, List, [], ◌∷◌, ◌++◌, length, arith, subst, sym, refl, ◌∙◌, ap, inl, inr, ◌⊎◌}
use Rattle.std.proofs.Math.IntN.{ℤ, pos, ◌*ℤ◌}
use Rattle.std.specs.Prelude.{unsigned_abs}
use Rattle.std.specs.Int.{◌∣◌}
use Rattle.std.proofs.lemmas.Int.{ints, unsigned_abs-mul}
use Rattle.std.proofs.lemmas.List.{get_or_append_left, get_or_push, length-append}
use Rattle.std.proofs.lemmas.Nat.Gcd.{dvd_refl, dvd-zero, mod-eq-zero_of_dvd}
use Rattle.std.proofs.Math.Nat.{dvd_of_mul-dvd-mul_left, dvd-mul_right, dvd-mul_left, dvd-add, dvd-sub}
use Rattle.base_laws.proofs.Ring.{mul_comm, mul-cancel}
use lib.Signed.{◌≤ℤ◌}
use Rattle.poly_tree.specs.Expansion.{DegreesAtMost, Expansion, Parts, number, over, none, part, at, value, scaled, parts_scaled, IsCanonical, DividesAll, DividesParts}
use Rattle.poly_tree.specs.Poly.{Quotient, numerator_at, IsLegal, SameValues}
use Rattle.poly_tree.proofs.Products.{value-scaled, canonical-scaled}
use Rattle.poly_tree.proofs.Unique.{agree, unique}

-- the first values of a point as a list
unfoldable pub listed : (ℕ → ℤ) → ℕ → List ℤ
listed point zero = []
listed point (suc n) = listed point n ++ point n ∷ []

pub length-listed : (point : ℕ → ℤ) (n : ℕ) → length (listed point n) ≡ n
unfolding listed
length-listed point zero = refl
length-listed point (suc n) = omega (arith, length-listed point n, length-append (listed point n) (point n ∷ []))

pub at-listed : (point : ℕ → ℤ) (n w : ℕ) → w < n → at (listed point n) w ≡ point w
unfolding listed
at-listed point zero w p = absurd (omega arith)
at-listed point (suc n) w p = by (λ less. at-listed point n w less) (cases w n p) where
  cases : (x m : ℕ) → x < suc m → (x ≡ m) ⊎ (x < m)
  cases x m q = grind arith

  by : (w < n → at (listed point n) w ≡ point w) → (w ≡ n) ⊎ (w < n) → at (listed point n ++ point n ∷ []) w ≡ point w
  by f (inl e) = ap (λ (k : ℕ). at (listed point n ++ point n ∷ []) k) e ∙ get_or_push (listed point n) (point n) (pos 1) n (length-listed point n) ∙ ap point (sym e)
  by f (inr less) = get_or_append_left (listed point n) (point n ∷ []) (pos 1) w (omega (arith, length-listed point n)) ∙ f less

-- what agrees at all lists agrees at all points
pub everywhere : (bound : ℕ) (t u : Expansion) → IsCanonical bound t → IsCanonical bound u → ((point : List ℤ) → value t (at point) ≡ value u (at point)) → (point : ℕ → ℤ) → value t point ≡ value u point
everywhere bound t u c d h point =
    sym (agree bound t (at (listed point bound)) point c (at-listed point bound)) ∙ h (listed point bound) ∙ agree bound u (at (listed point bound)) point d (at-listed point bound)

-- a common divisor of x and y, such that what divides multiples of both divides that multiple of it
pub record Common (x y : ℕ) : Type 0 where
  pub factor : ℕ
  pub first : factor ∣ x
  pub second : factor ∣ y
  pub some : (1 ≤ x) → 1 ≤ factor
  pub of_multiples : (z k : ℕ) → k ∣ x * z → k ∣ y * z → k ∣ factor * z

common : (fuel x y : ℕ) → x + y ≤ fuel → Common x y
common fuel zero y p = record { factor = y; first = dvd-zero y; second = dvd_refl y; some = λ q. absurd (omega arith); of_multiples = λ z k a b. b }
common fuel (suc x) zero p = record { factor = suc x; first = dvd_refl (suc x); second = dvd-zero (suc x); some = λ q. omega arith; of_multiples = λ z k a b. a }
common zero (suc x) (suc y) p = absurd (omega arith)
common (suc fuel) (suc x) (suc y) p =
    by (λ le. common fuel (suc x) (y - x) (omega arith)) (λ more. common fuel (x - y) (suc y) (omega arith)) (order x y) where
      order : (m n : ℕ) → (m ≤ n) ⊎ (n < m)
      order m n = grind arith

      sum : (a b n : ℕ) → n ≡ a + b → a + b ≡ n
      sum a b n e = sym e

      less : (a b n z : ℕ) → n ≡ a + b → n * z - a * z ≡ b * z
      less a b n z e = rw e (spread a b z) where
        spread : (i j m : ℕ) → (i + j) * m - i * m ≡ j * m
        spread i j m = omega (arith, distribute i j m) where
          distribute : (r s n : ℕ) → (r + s) * n ≡ r * n + s * n
          distribute r s n = omega arith

      by : (x ≤ y → Common (suc x) (y - x)) → (y < x → Common (x - y) (suc y)) → (x ≤ y) ⊎ (y < x) → Common (suc x) (suc y)
      by f g (inl le) =
          let c = f le in
          record {
            factor = c.factor;
            first = c.first;
            second = subst (λ (n : ℕ). c.factor ∣ n) (sum (suc x) (y - x) (suc y) (omega arith)) (dvd-add c.factor c.first c.second);
            some = c.some;
            of_multiples = λ z k a b. c.of_multiples z k a (subst (λ (n : ℕ). k ∣ n) (less (suc x) (y - x) (suc y) z (omega arith)) (dvd-sub k b a));
          }
      by f g (inr more) =
          let c = g more in
          record {
            factor = c.factor;
            first = subst (λ (n : ℕ). c.factor ∣ n) (sum (suc y) (x - y) (suc x) (omega arith)) (dvd-add c.factor c.second c.first);
            second = c.second;
            some = λ q. c.some (omega arith);
            of_multiples = λ z k a b. c.of_multiples z k (subst (λ (n : ℕ). k ∣ n) (less (suc y) (x - y) (suc x) z (omega arith)) (dvd-sub k a b)) b;
          }

-- what divides all multiples divides all coefficients
mutual
  gauss : (x y : ℕ) (c : Common x y) (k : ℕ) (t : Expansion) → 1 ≤ c.factor → c.factor * k ≡ y → DividesAll y (scaled (pos x) t) → DividesAll k t
  gauss x y c k (number n) some e h =
      let of_x : y ∣ x * unsigned_abs n = subst (λ (m : ℕ). y ∣ m) (unsigned_abs-mul (pos x) n) h in
      let of_factor : y ∣ c.factor * unsigned_abs n = c.of_multiples (unsigned_abs n) y of_x (dvd-mul_right y (unsigned_abs n)) in
      dvd_of_mul-dvd-mul_left k some (subst (λ (m : ℕ). m ∣ c.factor * unsigned_abs n) (sym e) of_factor)
  gauss x y c k (over v ps) some e h = gauss-parts x y c k ps some e h

  gauss-parts : (x y : ℕ) (c : Common x y) (k : ℕ) (ps : Parts) → 1 ≤ c.factor → c.factor * k ≡ y → DividesParts y (parts_scaled (pos x) ps) → DividesParts k ps
  gauss-parts x y c k none some e h = tt
  gauss-parts x y c k (part t ps) some e h = (gauss x y c k t some e h.0, gauss-parts x y c k ps some e h.1)

-- a factor divides a multiple
mutual
  pub divides-multiple : (k : ℕ) (t : Expansion) → DividesAll k (scaled (pos k) t)
  divides-multiple k (number n) = subst (λ (m : ℕ). k ∣ m) (sym (unsigned_abs-mul (pos k) n)) (dvd-mul_right k (unsigned_abs n))
  divides-multiple k (over v ps) = divides-multiple_parts k ps

  divides-multiple_parts : (k : ℕ) (ps : Parts) → DividesParts k (parts_scaled (pos k) ps)
  divides-multiple_parts k none = tt
  divides-multiple_parts k (part t ps) = (divides-multiple k t, divides-multiple_parts k ps)

-- the number of which a number is a multiple
quotient : (g n : ℕ) → 1 ≤ g → g ∣ n → g * (n / g) ≡ n
quotient g n some h = let r = mod-eq-zero_of_dvd g h in omega arith

-- a denominator is the common divisor
denominator-is : (a b : Quotient) → IsLegal a → (c : Common b.denominator a.denominator) → 1 ≤ c.factor
    → DividesAll a.denominator (scaled (pos b.denominator) a.tree) → a.denominator ≡ c.factor
denominator-is a b legal c some h =
    let k = a.denominator / c.factor in
    let whole : c.factor * k ≡ a.denominator = quotient c.factor a.denominator some c.second in
    let divides : k ∣ a.denominator = subst (λ (m : ℕ). k ∣ m) whole (dvd-mul_left k c.factor) in
    let one : k ≡ 1 = legal.primitive k divides (gauss b.denominator a.denominator c k a.tree some whole h) in
    sym whole ∙ ap (λ (m : ℕ). c.factor * m) one ∙ single c.factor where
      single : (n : ℕ) → n * 1 ≡ n
      single n = omega arith

turn : (x y : ℕ) → Common x y → Common y x
turn x y c = record { factor = c.factor; first = c.second; second = c.first; some = λ p. some p c.factor c.second; of_multiples = λ z k a b. c.of_multiples z k b a } where
  some : 1 ≤ y → (g : ℕ) → g ∣ y → 1 ≤ g
  some p zero d = absurd (omega (arith, mod-eq-zero_of_dvd 0 d))
  some p (suc g) d = omega arith

pub nonzero : (n : ℕ) → 1 ≤ n → pos n ≢ pos 0
nonzero zero p = absurd (omega arith)
nonzero (suc n) p = λ e. absurd cc

-- the multiples by the other's denominator are the same
pub same-multiples : (a b : Quotient) → IsLegal a → IsLegal b → SameValues a b → scaled (pos b.denominator) a.tree ≡ scaled (pos a.denominator) b.tree
same-multiples a b la lb h =
    unique (2 ^ 16) (scaled (pos b.denominator) a.tree) (scaled (pos a.denominator) b.tree) left right
    (everywhere (2 ^ 16) (scaled (pos b.denominator) a.tree) (scaled (pos a.denominator) b.tree) left right
    (λ point. value-scaled (pos b.denominator) a.tree (at point) ∙ mul_comm (pos b.denominator) (numerator_at a point) ∙ h point
    ∙ mul_comm (numerator_at b point) (pos a.denominator) ∙ sym (value-scaled (pos a.denominator) b.tree (at point)))) where
      left : IsCanonical (2 ^ 16) (scaled (pos b.denominator) a.tree)
      left = canonical-scaled (2 ^ 16) (pos b.denominator) a.tree (nonzero b.denominator lb.positive) la.canonical

      right : IsCanonical (2 ^ 16) (scaled (pos a.denominator) b.tree)
      right = canonical-scaled (2 ^ 16) (pos a.denominator) b.tree (nonzero a.denominator la.positive) lb.canonical

pub same-denominators : (a b : Quotient) → IsLegal a → IsLegal b → SameValues a b → a.denominator ≡ b.denominator
unfolding turn
same-denominators a b la lb h =
    let c = common (b.denominator + a.denominator) b.denominator a.denominator (omega arith) in
    let e = same-multiples a b la lb h in
    let some : 1 ≤ c.factor = c.some lb.positive in
    denominator-is a b la c some (subst (DividesAll a.denominator) (sym e) (divides-multiple a.denominator b.tree))
    ∙ sym (denominator-is b a lb (turn b.denominator a.denominator c) some (subst (DividesAll b.denominator) e (divides-multiple b.denominator a.tree)))

-- and then so are the trees
pub same-trees : (a b : Quotient) → IsLegal a → IsLegal b → SameValues a b → a.tree ≡ b.tree
same-trees a b la lb h =
    unique (2 ^ 16) a.tree b.tree la.canonical lb.canonical
    (everywhere (2 ^ 16) a.tree b.tree la.canonical lb.canonical
    (λ point. cancel b.denominator (numerator_at a point) (numerator_at b point) lb.positive (h point ∙ ap (λ (n : ℕ). numerator_at b point *ℤ pos n) (same-denominators a b la lb h)))) where
      cancel : (n : ℕ) (x y : ℤ) → 1 ≤ n → (x *ℤ pos n) ≡ (y *ℤ pos n) → x ≡ y
      cancel zero x y p e = absurd (omega arith)
      cancel (suc n) x y p e = mul-cancel n x y (mul_comm (pos (suc n)) x ∙ e ∙ mul_comm y (pos (suc n)))

-- polynomials are equal that have the same tree and the same denominator
pub same-parts_polynomial : (a b : Quotient) → a.tree ≡ b.tree → a.denominator ≡ b.denominator → a ≡ b
same-parts_polynomial a b e f =
    ap (λ (t : Expansion). make t a.denominator) e ∙ ap (make b.tree) f where
      make : Expansion → ℕ → Quotient
      make t n = record { tree = t; denominator = n }

-- legal polynomials with the same values are equal
pub same-polynomial : (a b : Quotient) → IsLegal a → IsLegal b → SameValues a b → a ≡ b
same-polynomial a b la lb h = same-parts_polynomial a b (same-trees a b la lb h) (same-denominators a b la lb h)

-- a legal polynomial's copy is legal
pub legal-copy : (a : Quotient) (t : Expansion) (d : ℤ) → IsLegal a → t ≡ a.tree → d ≡ pos a.denominator → IsLegal (record { tree = t; denominator = unsigned_abs d }) × (pos 1 ≤ℤ d)
legal-copy a t d legal e f =
    let size : a.denominator ≡ unsigned_abs d = sym (ap unsigned_abs f) in (
      record {
        canonical = subst (IsCanonical (2 ^ 16)) (sym e) legal.canonical;
        degrees = subst (DegreesAtMost 8) (sym e) legal.degrees;
        positive = subst (λ (n : ℕ). 1 ≤ n) size legal.positive;
        primitive = λ k p q. legal.primitive k (subst (λ (n : ℕ). k ∣ n) (sym size) p) (subst (DividesAll k) e q);
      },
      subst (λ (z : ℤ). pos 1 ≤ℤ z) (sym f) (above a.denominator legal.positive),
    ) where
      above : (n : ℕ) → 1 ≤ n → pos 1 ≤ℤ pos n
      above n p = omega (arith, ints)
