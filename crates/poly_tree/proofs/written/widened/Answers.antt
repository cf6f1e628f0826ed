use Rattle.std.proofs.Common.{◌≡◌, sym, ◌∙◌, ap, ◌++◌, ℕ, suc, ◌+◌, ◌-◌, List, [], ◌∷◌, replicate, append_assoc, arith}
use Rattle.poly_tree.proofs.written.widened.Goals as goal

-- one zero of those left
one : (n m : ℕ) (all : List ℕ) → n ≡ suc m → (all ++ 0 ∷ []) ++ replicate m 0 ≡ all ++ replicate n 0
one n m all e = append_assoc all (0 ∷ []) (replicate m 0) ∙ ap (λ (k : ℕ). all ++ replicate k 0) (sym e)

pub loop-preserved : goal.loop-preserved
loop-preserved c = ap (λ (l : List ℕ). l ++ replicate (c.args.width - (c.loop.counter + 1)) 0) c.in_ok-push.ensures.items
    ∙ one (c.args.width - c.loop.counter) (c.args.width - (c.loop.counter + 1)) c.loop.all.items (omega (arith, c.loop-test.true)) ∙ c.loop.invariant
