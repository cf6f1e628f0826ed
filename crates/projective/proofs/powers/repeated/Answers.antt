use Rattle.std.proofs.Common.{◌≡◌, refl, sym, ◌∙◌, ap, subst, ℕ, ◌+◌, ◌<◌, ◌≤◌, List, [], ◌∷◌, ◌++◌, length, arith}
use Rattle.std.specs.List.{AllByRecursion}
use Rattle.std.proofs.Math.IntN.{ℤ, pos, ◌+ℤ◌, ◌*ℤ◌}
use Rattle.std.proofs.lemmas.Int.{ints}
use Rattle.base_laws.proofs.Ring.{mul-one, one-mul, mul-add}
use Rattle.iolb_model.specs.Polynomial.{Term, int_power, monomial, terms_value}
use Rattle.poly_tree.specs.Expansion.{at, powers_from}
use Rattle.poly_tree.specs.Poly.{IsLegal, Quotient, numerator_at}
use Rattle.poly_tree.specs.Terms.{IsNoGreater, IsTermsOver, terms_of}
use Rattle.poly_tree.proofs.TermLemmas.{powers-monomial, powers-push}
use Rattle.projective.specs.Products.{IsRepeated, product_of}
use Rattle.projective.proofs.Summed.{sum-uses}
use Rattle.projective.proofs.powers.repeated.Goals as goal
use Rattle.iolb_model.specs.declared.limits.TheConstants.{VARIABLES}

-- a term with these exponents and one more
abbrev term_with : List ℕ → ℕ → Term
term_with es e = record { coefficient = pos 1; exponents = es ++ e ∷ [] }

module _ (v : ℕ) (vs es fs : List ℕ) (long : length es ≡ v) (long_too : length fs ≡ v) (is : (f : ℕ → ℤ) → powers_from es 0 f ≡ product_of vs f) (is_too : (f : ℕ → ℤ) → powers_from fs 0 f ≡ product_of vs f)
    (point : List ℤ) where
  value-with : (gs : List ℕ) (e : ℕ) → length gs ≡ v → ((f : ℕ → ℤ) → powers_from gs 0 f ≡ product_of vs f) → monomial (gs ++ e ∷ []) point ≡ product_of vs (at point) *ℤ int_power (at point v) e
  value-with gs e many p =
      sym (powers-monomial (gs ++ e ∷ []) [] point 0 refl) ∙ powers-push gs e 0 (at point) ∙ ap (λ (z : ℤ). z *ℤ int_power (at point (0 + length gs)) e) (p (at point))
      ∙ ap (λ (n : ℕ). product_of vs (at point) *ℤ int_power (at point n) e) (place (length gs) many) where
        place : (n : ℕ) → n ≡ v → 0 + n ≡ v
        place n q = omega arith

  total : terms_value (term_with es 1 ∷ term_with fs 0 ∷ []) point ≡ product_of vs (at point) *ℤ (at point v +ℤ pos 1)
  total =
      parts (monomial (es ++ 1 ∷ []) point) (monomial (fs ++ 0 ∷ []) point) (one-mul (monomial (es ++ 1 ∷ []) point)) (one-mul (monomial (fs ++ 0 ∷ []) point)) (value-with es 1 long is ∙ ap (λ (z : ℤ). product_of vs (at point) *ℤ z) (mul-one (at point v)))
      (value-with fs 0 long_too is_too) ∙ sym (mul-add (product_of vs (at point)) (at point v) (pos 1)) where
        parts : (a b : ℤ) → pos 1 *ℤ a ≡ a → pos 1 *ℤ b ≡ b → a ≡ product_of vs (at point) *ℤ at point v → b ≡ product_of vs (at point) *ℤ pos 1
            → (pos 1 *ℤ a) +ℤ ((pos 1 *ℤ b) +ℤ pos 0) ≡ (product_of vs (at point) *ℤ at point v) +ℤ (product_of vs (at point) *ℤ pos 1)
        parts a b p q r s = omega (arith, ints)

-- the polynomial of these two terms
made : (v : ℕ) (vs es fs : List ℕ) (terms : List Term) (r : Quotient) → v < VARIABLES → AllByRecursion (λ (w : ℕ). w < v) vs → length vs ≤ 6 → length es ≡ v → length fs ≡ v
    → ((f : ℕ → ℤ) → powers_from es 0 f ≡ product_of vs f) → ((f : ℕ → ℤ) → powers_from fs 0 f ≡ product_of vs f) → terms ≡ term_with es 1 ∷ term_with fs 0 ∷ []
    → IsTermsOver terms 1 r → IsLegal r → IsNoGreater terms 1 r → IsRepeated v vs r
made v vs es fs terms r room below few long long_too is is_too same over legal within =
    let two : List Term = term_with es 1 ∷ term_with fs 0 ∷ [] in
    let values : IsTermsOver two 1 r = subst (λ (ts : List Term). IsTermsOver ts 1 r) same over in
    let small : IsNoGreater two 1 r = subst (λ (ts : List Term). IsNoGreater ts 1 r) same within in
    let one : r.denominator ≡ 1 = omega (arith, small.over, legal.positive) in
    let value_of : (point : List ℤ) → numerator_at r point ≡ product_of vs (at point) *ℤ (at point v +ℤ pos 1) = λ point.
    sym (mul-one (numerator_at r point)) ∙ values point ∙ ap (λ (d : ℕ). terms_value two point *ℤ pos d) one ∙ mul-one (terms_value two point) ∙ total v vs es fs long long_too is is_too point in
    record {
      legal = legal;
      whole = one;
      value = value_of;
      uses = sum-uses v vs r (omega (arith, room)) below (omega arith) legal one value_of;
      numbers = small.numbers 2 (omega arith) (omega arith, (omega arith, tt));
      light = small.light;
    }

pub returns-in-Ok : goal.returns-in-Ok
returns-in-Ok c =
    let times = c.in_ok-times.times.items in
    let once = c.in_ok-once.once.items in
    let same : terms_of c.as_slice.result.now ≡ term_with times 1 ∷ term_with once 0 ∷ [] = ap terms_of (c.as_slice.ensures.value ∙ c.in_ok-terms.ensures.items)
    ∙ ap (λ (gs : List ℕ). record { coefficient = pos 1; exponents = gs } ∷ record { coefficient = pos 1; exponents = c.push-2.new.self.items } ∷ []) c.in_ok-push.ensures.items
    ∙ ap (λ (gs : List ℕ). term_with times 1 ∷ record { coefficient = pos 1; exponents = gs } ∷ []) c.in_ok-push-2.ensures.items in
    made c.args.variable c.args.factors.now times once (terms_of c.as_slice.result.now) c.in-Ok.poly c.requires.room c.requires.below c.requires.few c.in_ok-times.ensures.each c.in_ok-once.ensures.each
    c.in_ok-times.ensures.product c.in_ok-once.ensures.product same c.in-Ok.ensures.value c.in-Ok.ensures.legal c.in-Ok.ensures.within
