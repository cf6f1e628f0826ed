use Rattle.std.proofs.Common.{◌≡◌, ◌∙◌, ap, ◌++◌, ◌∷◌, [], ◌+◌, ◌-◌, ◌<◌, ℕ, suc, List, FitsSigned, to_z, rules, arith}
use mir.Syntax.{w128}
use Rattle.std.proofs.lemmas.Int.{to_z-of_z}
use Rattle.std.specs.Prelude.{ℤ, pos, ◌+ℤ◌}
use Rattle.std.proofs.lemmas.List.{append_assoc}
use Rattle.iolb_model.specs.Execution.{rising}
use Rattle.plain_graph.proofs.runs.values_up.Goals as goal

one_more : (values new : List ℤ) (value : ℤ) (count k : ℕ) → k < count → new ≡ values ++ value ∷ [] → new ++ rising (value +ℤ pos 1) (count - (k + 1)) ≡ values ++ rising value (count - k)
one_more values new value count k below e =
    let left : suc (count - (k + 1)) ≡ count - k = omega (arith, below) in
    ap (λ (v : List ℤ). v ++ rising (value +ℤ pos 1) (count - (k + 1))) e
    ∙ append_assoc values (value ∷ []) (rising (value +ℤ pos 1) (count - (k + 1)))
    ∙ ap (λ (n : ℕ). values ++ rising value n) left

pub loop-k-preserved : goal.loop-k-preserved
loop-k-preserved c =
    let value : ℤ = to_z w128 c.loop-k.value-bits in
    let fits : FitsSigned w128 (value +ℤ pos 1) = search rules in
    rw (to_z-of_z w128 (value +ℤ pos 1) fits)
    (one_more c.loop-k.values.items c.push.new.self.items value c.args.count c.loop-k._k c.loop-k-test.true c.in_ok-push.ensures.items ∙ c.loop-k.invariant)
