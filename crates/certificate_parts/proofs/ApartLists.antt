-- Exponent lists that stand apart, looked up in a set.
use Rattle.std.proofs.Common.{◌≡◌, ℕ, Bool, true, false, cond, bytes_eq, List, [], ◌∷◌, ◌++◌, length, Some, None, ℤ, Vec, Global, refl, sym, ◌∙◌, ap, arith}
use Rattle.std.specs.Prelude.{◌&&◌, ◌||◌, ◌==◌, not, slice_get}
use Rattle.std.specs.BTreeSet.{BTreeSet, contains, Updates}
use Rattle.std.specs.Cmp.Lexicographic.{slice_cmp}
use Rattle.std.specs.List.{AllByRecursion}
use Rattle.std.specs.Ordering.{nat_cmp}
use Rattle.std.proofs.lemmas.Map.Text.{is_eq-slice_cmp}
use Rattle.iolb_model.specs.Polynomial.{Term}
use Rattle.poly_tree.specs.Terms.{AreApart, term_of, terms_of}
use Rattle.certificate_parts.specs.Polynomials.{exponent_lists, is_among, HasLists, stands_apart}

abbrev AreAsMany : List Term → List ℕ → Type 0
AreAsMany terms exponents = AllByRecursion (λ (term : Term). length term.exponents ≡ length exponents) terms

-- all lists of terms that stand apart are as long as the first
as-many : (terms : List Term) (exponents : List ℕ) → AreApart terms → ((term : Term) → Some term ≡ slice_get terms 0 → length term.exponents ≡ length exponents) → AreAsMany terms exponents
as-many [] exponents apart first = tt
as-many (term ∷ terms) exponents apart first = (first term refl, all terms apart.0) where
  all : (ts : List Term) → AllByRecursion (λ (later : Term). (length later.exponents ≡ length term.exponents) × (later.exponents ≡ term.exponents → ⊥)) ts → AreAsMany ts exponents
  all [] h = tt
  all (t ∷ ts) h = (h.0.0 ∙ first term refl, all ts h.1)

among-or-apart : (terms : List Term) (exponents : List ℕ) → AreAsMany terms exponents → stands_apart terms exponents ≡ not (is_among (exponent_lists terms) exponents)
among-or-apart [] exponents many = refl
among-or-apart (term ∷ terms) exponents many =
    both (length term.exponents == length exponents) (bytes_eq term.exponents exponents) (stands_apart terms exponents) (is_among (exponent_lists terms) exponents)
    (same (length term.exponents) (length exponents) many.0) (among-or-apart terms exponents many.1) where
      same : (m n : ℕ) → m ≡ n → (m == n) ≡ true
      same m n e = grind arith

      both : (a b c d : Bool) → a ≡ true → c ≡ not d → (a && not b && c) ≡ not (b || d)
      both true true c d e f = refl
      both true false c d e f = f
      both false b c d e f = absurd cc

-- what the set doesn't have stands apart
pub stands-apart : (terms : List Term) (set : BTreeSet (Vec ℕ Global)) (list : Vec ℕ Global) (exponents : List ℕ) (added : Bool)
    → AreApart terms → ((term : Term) → Some term ≡ slice_get terms 0 → length term.exponents ≡ length exponents) → HasLists set (exponent_lists terms) → list.items ≡ exponents
    → added ≡ not (contains (λ x y. slice_cmp nat_cmp x.items y.items) set list) → added ≡ stands_apart terms exponents
stands-apart terms set list exponents added apart first has is new =
    new ∙ ap not (has list ∙ ap (is_among (exponent_lists terms)) is) ∙ sym (among-or-apart terms exponents (as-many terms exponents apart first))

among-push : (lists : List (List ℕ)) (exponents other : List ℕ) → is_among (lists ++ exponents ∷ []) other ≡ cond (bytes_eq exponents other) true (is_among lists other)
among-push [] exponents other = none (bytes_eq exponents other) where
  none : (b : Bool) → (b || false) ≡ cond b true false
  none true = refl
  none false = refl
among-push (list ∷ lists) exponents other =
    ap (λ (b : Bool). bytes_eq list other || b) (among-push lists exponents other) ∙ turn (bytes_eq list other) (bytes_eq exponents other) (is_among lists other) where
      turn : (a b c : Bool) → (a || cond b true c) ≡ cond b true (a || c)
      turn true true c = refl
      turn true false c = refl
      turn false true c = refl
      turn false false c = refl

-- the set with one list more
pub has-more : (set new : BTreeSet (Vec ℕ Global)) (list : Vec ℕ Global) (lists : List (List ℕ)) (exponents : List ℕ) → HasLists set lists → list.items ≡ exponents
    → Updates (λ x y. slice_cmp nat_cmp x.items y.items) set new list true → HasLists new (lists ++ exponents ∷ [])
has-more set new list lists exponents has is updates = λ other.
    updates.0 other ∙ ap (λ (b : Bool). cond b true (contains (λ x y. slice_cmp nat_cmp x.items y.items) set other)) (is_eq-slice_cmp list.items other.items ∙ ap (λ (es : List ℕ). bytes_eq es other.items) is)
    ∙ ap (λ (b : Bool). cond (bytes_eq exponents other.items) true b) (has other) ∙ sym (among-push lists exponents other.items)

-- the first term, where there is one
pub first-is : (pairs : List (ℤ × Vec ℕ Global)) (x : ℤ × Vec ℕ Global) (term : Term) (n : ℕ) → Some x ≡ slice_get pairs 0 → Some term ≡ slice_get (terms_of pairs) 0 → length x.1.items ≡ n → length term.exponents ≡ n
first-is [] x term n first is many = absurd cc
first-is (y ∷ pairs) x term n first is many =
    let here : y ≡ x = cc in
    let there : term ≡ term_of y = cc in
    ap (λ (t : Term). length t.exponents) there ∙ ap (λ (p : ℤ × Vec ℕ Global). length p.1.items) here ∙ many

pub first-none : (pairs : List (ℤ × Vec ℕ Global)) (term : Term) → None ≡ slice_get pairs 0 → Some term ≡ slice_get (terms_of pairs) 0 → ⊥
first-none [] term none is = absurd cc
first-none (y ∷ pairs) term none is = absurd cc
