use Rattle.std.proofs.Common.{◌≡◌, sym, ◌∙◌, ap, refl, ◌++◌, ℕ, zero, suc, length, ◌≤◌, ◌+◌, ◌-◌, List, [], ◌∷◌, replicate, append_assoc, arith}
use Rattle.std.proofs.lemmas.List.{append-nil}
use Rattle.poly_tree.specs.Printed.{with_exponent}
use Rattle.poly_tree.proofs.flatten.exponents_with.Goals as goal

-- one zero of those left
one : (n m : ℕ) (all : List ℕ) → n ≡ suc m → (all ++ 0 ∷ []) ++ replicate m 0 ≡ all ++ replicate n 0
one n m all e = append_assoc all (0 ∷ []) (replicate m 0) ∙ ap (λ (k : ℕ). all ++ replicate k 0) (sym e)

pub loop-preserved : goal.loop-preserved
loop-preserved c = ap (λ (l : List ℕ). l ++ replicate (c.args.var - (c.loop.counter + 1)) 0) c.in_ok-push.ensures.items
    ∙ one (c.args.var - c.loop.counter) (c.args.var - (c.loop.counter + 1)) c.loop.all.items (omega (arith, c.loop-test.true)) ∙ c.loop.invariant

-- no zeros are left, and its own exponent follows
own : (es all us : List ℕ) (v e k : ℕ) → (e ≡ 0 → ⊥) → v ≤ k → us ≡ all ++ e ∷ [] → all ++ replicate (v - k) 0 ≡ es ++ replicate (v - length es) 0 → us ≡ with_exponent v e es
own es all us v zero k some past is h = absurd (some refl)
own es all us v (suc e) k some past is h =
    let none : v - k ≡ 0 = omega (arith, past) in
    let whole : all ≡ es ++ replicate (v - length es) 0 = sym (append-nil all) ∙ ap (λ (n : ℕ). all ++ replicate n 0) (sym none) ∙ h in
    is ∙ ap (λ (l : List ℕ). l ++ suc e ∷ []) whole ∙ append_assoc es (replicate (v - length es) 0) (suc e ∷ [])

pub returns : goal.returns
returns c = own c.args.exponents.items c.loop.all.items c.push-2.new.self.items c.args.var c.args.power c.loop.counter c.if-power-eq0.false c.loop-test.false c.in_ok-push-2.ensures.items c.loop.invariant
