use Rattle.std.proofs.Common.{◌≡◌, refl, sym, ◌∙◌, ap, subst, ℕ, ◌+◌, ◌<◌, ◌≤◌, List, [], ◌∷◌, ◌++◌, length, get_or, drop, append_assoc}
use Rattle.std.specs.List.{AllByRecursion}
use Rattle.std.proofs.lemmas.List.{drop_more}
use Rattle.poly_tree.proofs.written.narrowed.Goals as goal

-- one of those left
one : (us ts xs : List ℕ) (i x : ℕ) → i < length xs → us ≡ ts ++ x ∷ [] → x ≡ get_or xs i 0 → ts ++ drop i xs ≡ xs → us ++ drop (i + 1) xs ≡ xs
one us ts xs i x below e is h =
    ap (λ (l : List ℕ). l ++ drop (i + 1) xs) (e ∙ ap (λ (y : ℕ). ts ++ y ∷ []) is)
    ∙ append_assoc ts (get_or xs i 0 ∷ []) (drop (i + 1) xs)
    ∙ ap (λ (l : List ℕ). ts ++ l) (sym (drop_more xs i 0 below))
    ∙ h

pub loop-exponent-preserved : goal.loop-exponent-preserved
loop-exponent-preserved c =
    let xs = c.args.exponents.now in
    let i = c.loop-exponent.exponent-index in (
      one c.push.new.self.items c.loop-exponent.all.items xs i (get_or xs i 0) c.loop-exponent-test.true c.in_ok-push.ensures.items refl c.loop-exponent.invariant.0,
      (subst (AllByRecursion (λ (e : ℕ). e ≤ 8)) (drop_more xs i 0 c.loop-exponent-test.true) c.loop-exponent.invariant.1).1,
    )
