-- Terms put into the order in which they are printed.
use Rattle.std.proofs.Common.{◌≡◌, ℕ, Bool, true, false, if◌then◌else◌, List, [], ◌∷◌, arith, refl}
use Rattle.std.specs.Prelude.{◌==◌, nat_lt, ◌||◌, ◌&&◌, sum}
use Rattle.std.specs.List.{AllByRecursion}
use Rattle.std.proofs.lemmas.Bool.Decides.{nat_tests}
use Rattle.iolb_model.specs.Polynomial.{Term}
use Rattle.poly_tree.specs.Printed.{is_greater, is_printed_before, insert_term, in_print_order, expansion_terms, AreInOrder, TermsAreInOrder}

greater-trans : (es fs gs : List ℕ) → is_greater es fs ≡ true → is_greater fs gs ≡ true → is_greater es gs ≡ true
greater-trans [] fs gs h k = absurd cc
greater-trans (e ∷ es) [] gs h k = absurd cc
greater-trans (e ∷ es) (f ∷ fs) [] h k = step e f (is_greater es fs) (is_greater fs []) (is_greater es []) (greater-trans es fs []) h k where
  step : (e f : ℕ) (a b c : Bool) → (a ≡ true → b ≡ true → c ≡ true) → nat_lt f e || ((e == f) && a) ≡ true → nat_lt 0 f || b ≡ true → nat_lt 0 e || c ≡ true
  step e f a b c ih h k = grind (arith, nat_tests)
greater-trans (e ∷ es) (f ∷ fs) (g ∷ gs) h k = step e f g (is_greater es fs) (is_greater fs gs) (is_greater es gs) (greater-trans es fs gs) h k where
  step : (e f g : ℕ) (a b c : Bool) → (a ≡ true → b ≡ true → c ≡ true) → nat_lt f e || ((e == f) && a) ≡ true → nat_lt g f || ((f == g) && b) ≡ true → nat_lt g e || ((e == g) && c) ≡ true
  step e f g a b c ih h k = grind (arith, nat_tests)

greater-once : (es fs : List ℕ) → is_greater es fs ≡ true → is_greater fs es ≡ false
greater-once [] fs h = absurd cc
greater-once (e ∷ es) [] h = refl
greater-once (e ∷ es) (f ∷ fs) h = step e f (is_greater es fs) (is_greater fs es) (greater-once es fs) h where
  step : (e f : ℕ) (a b : Bool) → (a ≡ true → b ≡ false) → nat_lt f e || ((e == f) && a) ≡ true → nat_lt e f || ((f == e) && b) ≡ false
  step e f a b ih h = grind (arith, nat_tests)

before-trans : (u t s : Term) → is_printed_before u t ≡ true → is_printed_before t s ≡ true → is_printed_before u s ≡ true
before-trans u t s h k =
    step (sum u.exponents) (sum t.exponents) (sum s.exponents) (is_greater u.exponents t.exponents) (is_greater t.exponents s.exponents) (is_greater u.exponents s.exponents)
    (greater-trans u.exponents t.exponents s.exponents) h k where
      step : (x y z : ℕ) (a b c : Bool) → (a ≡ true → b ≡ true → c ≡ true) → nat_lt y x || ((x == y) && a) ≡ true → nat_lt z y || ((y == z) && b) ≡ true → nat_lt z x || ((x == z) && c) ≡ true
      step x y z a b c ih h k = grind (arith, nat_tests)

before-once : (t s : Term) → is_printed_before t s ≡ true → is_printed_before s t ≡ false
before-once t s h = step (sum t.exponents) (sum s.exponents) (is_greater t.exponents s.exponents) (is_greater s.exponents t.exponents) (greater-once t.exponents s.exponents) h where
  step : (x y : ℕ) (a b : Bool) → (a ≡ true → b ≡ false) → nat_lt y x || ((x == y) && a) ≡ true → nat_lt x y || ((y == x) && b) ≡ false
  step x y a b ih h = grind (arith, nat_tests)

-- a term that isn't printed before one isn't printed before what is printed before that
past : (t s u : Term) → is_printed_before t s ≡ true → is_printed_before u s ≡ false → is_printed_before u t ≡ false
past t s u h k = step (is_printed_before u t) (is_printed_before u s) (λ e. before-trans u t s e h) k where
  step : (a b : Bool) → (a ≡ true → b ≡ true) → b ≡ false → a ≡ false
  step a b f e = grind arith

all-past : (t s : Term) (ts : List Term) → is_printed_before t s ≡ true → AllByRecursion (λ later. is_printed_before later s ≡ false) ts → AllByRecursion (λ later. is_printed_before later t ≡ false) ts
all-past t s [] h k = tt
all-past t s (u ∷ ts) h k = (past t s u h k.0, all-past t s ts h k.1)

pub all-insert : (P : Term → Type 0) (t : Term) (ts : List Term) → P t → AllByRecursion P ts → AllByRecursion P (insert_term t ts)
all-insert P t [] h k = (h, tt)
all-insert P t (s ∷ ts) h k = by (is_printed_before t s) (all-insert P t ts h k.1) where
  by : (b : Bool) → AllByRecursion P (insert_term t ts) → AllByRecursion P (if b then t ∷ (s ∷ ts) else s ∷ insert_term t ts)
  by true m = (h, k)
  by false m = (k.0, m)

insert-order : (t : Term) (ts : List Term) → AreInOrder ts → AreInOrder (insert_term t ts)
insert-order t [] h = (tt, tt)
insert-order t (s ∷ ts) h = by (is_printed_before t s) refl (insert-order t ts h.1) where
  by : (b : Bool) → is_printed_before t s ≡ b → AreInOrder (insert_term t ts) → AreInOrder (if b then t ∷ (s ∷ ts) else s ∷ insert_term t ts)
  by true e m = ((before-once t s e, all-past t s ts e h.0), h)
  by false e m = (all-insert (λ later. is_printed_before later s ≡ false) t ts e h.0, m)

in-order : (ts : List Term) → AreInOrder (in_print_order ts)
in-order [] = tt
in-order (t ∷ ts) = insert-order t (in_print_order ts) (in-order ts)

-- the law
pub terms_are_in_order : TermsAreInOrder
terms_are_in_order q = in-order (expansion_terms q.tree)
