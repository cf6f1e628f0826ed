use Rattle.std.proofs.Common.{rules, ◌≡◌, FitsSigned, pos, ◌∙◌, ◌++◌, ◌∷◌, [], ap, sym, arith, ℕ, suc, ◌+◌, ◌<◌, ℤ, List, length, take, get_or, replicate}
use Rattle.std.specs.Prelude.{Vec}
use Rattle.std.specs.Global.{Global}
use mir.Syntax.{w64}
use Rattle.std.proofs.lemmas.Int.{to_z-of_z}
use Rattle.std.proofs.lemmas.List.{map-append, take_more, length-take-le}
use Rattle.iolb_model.specs.Polynomial.{Term}
use Rattle.poly_tree.specs.Terms.{term_of, terms_of}
use Rattle.domain_count.specs.Coefficients.{power_terms}
use Rattle.domain_count.proofs.coefficients.power_terms.Goals as goal

none : (n : ℕ) → n ≡ n + 0
none n = omega arith

next : (m n : ℕ) → suc m + n ≡ m + suc n
next m n = omega arith

taken : (k : ℕ) (cs : List ℤ) → k < length cs → k ≡ 0 + length (take k cs)
taken k cs below = omega (arith, length-take-le k cs (omega (arith, below)))

-- the term of one number more
power-append : (v e : ℕ) (xs : List ℤ) (y : ℤ) → power_terms v e (xs ++ y ∷ []) ≡ power_terms v e xs ++ record { coefficient = y; exponents = replicate v 0 ++ (e + length xs) ∷ [] } ∷ []
power-append v e [] y =
    let term : ℕ → Term = λ n. record { coefficient = y; exponents = replicate v 0 ++ n ∷ [] } in
    ap (λ (n : ℕ). term n ∷ []) (none e)
power-append v e (x ∷ xs) y =
    let term : ℕ → Term = λ n. record { coefficient = y; exponents = replicate v 0 ++ n ∷ [] } in
    let first : Term = record { coefficient = x; exponents = replicate v 0 ++ e ∷ [] } in
    ap (λ (ts : List Term). first ∷ ts) (power-append v (suc e) xs y ∙ ap (λ (n : ℕ). power_terms v (suc e) xs ++ term n ∷ []) (next e (length xs)))

power-more : (v k : ℕ) (d : ℤ) (cs : List ℤ) (before after : List (ℤ × Vec ℕ Global)) (last : ℤ × Vec ℕ Global) → k < length cs
    → term_of last ≡ record { coefficient = get_or cs k d; exponents = replicate v 0 ++ k ∷ [] } → terms_of before ≡ power_terms v 0 (take k cs)
    → after ≡ before ++ last ∷ [] → terms_of after ≡ power_terms v 0 (take (k + 1) cs)
power-more v k d cs before after last below is e more =
    let term : ℕ → Term = λ n. record { coefficient = get_or cs k d; exponents = replicate v 0 ++ n ∷ [] } in
    ap terms_of more ∙ map-append term_of before (last ∷ []) ∙ ap (λ (ts : List Term). ts ++ term_of last ∷ []) e
    ∙ ap (λ (t : Term). power_terms v 0 (take k cs) ++ t ∷ []) is
    ∙ ap (λ (n : ℕ). power_terms v 0 (take k cs) ++ term n ∷ []) (taken k cs below)
    ∙ sym (power-append v 0 (take k cs) (get_or cs k d))
    ∙ ap (power_terms v 0) (sym (take_more cs k d below))

pub loop-power-preserved : goal.loop-power-preserved
loop-power-preserved c =
    let x : ℤ = get_or c.args.numbers.now c.loop-power.power (pos 0) in
    let fits : FitsSigned w64 x = search rules in
    let term : ℤ → Term = λ z. record { coefficient = z; exponents = replicate c.args.var 0 ++ c.loop-power.power ∷ [] } in
    power-more c.args.var c.loop-power.power (pos 0) c.args.numbers.now c.loop-power.terms.items c.push.new.self.items c.in_ok-power_term.field-0 c.loop-power-test.true
    (c.in_ok-power_term.ensures ∙ ap term (to_z-of_z w64 x fits)) c.loop-power.invariant c.in_ok-push.ensures.items
