use Rattle.std.proofs.Common.{◌≡◌, refl, sym, ◌∙◌, ap, ℕ, zero, suc, ◌≤◌, min, List, [], ◌∷◌, ◌++◌, length, map, drop, append-nil, arith}
use Rattle.std.specs.Prelude.{Option}
use Rattle.reuse_paths.specs.declared.leaf.Leaf.{Leaf}
use Rattle.footprint_pieces.specs.declared.piece.Target.{Target}
use Rattle.reuse_paths.specs.LeafClaims.{claim_of}
use Rattle.iolb_check.specs.PairFit.{stop_targets}
use Rattle.iolb_check.proofs.fit_pairs.targets_at.Goals as goal

none-right : (targets : List (Option Target)) → stop_targets targets [] ≡ []
none-right [] = refl
none-right (t ∷ targets) = refl

-- where either list has ended, there are no more
ended : (i : ℕ) (targets : List (Option Target)) (entries : List Leaf) → min (length targets) (length entries) ≤ i → stop_targets (drop i targets) (map claim_of (drop i entries)) ≡ []
ended zero [] entries h = refl
ended zero (t ∷ targets) [] h = refl
ended zero (t ∷ targets) (e ∷ entries) h = absurd (omega arith)
ended (suc i) [] entries h = refl
ended (suc i) (t ∷ targets) [] h = none-right (drop i targets)
ended (suc i) (t ∷ targets) (e ∷ entries) h = ended i targets entries (omega arith)

pub returns : goal.returns
returns c =
    let none : stop_targets (drop c.loop-i.i c.args.leaves.now) (map claim_of (drop c.loop-i.i c.args.entries.now)) ≡ [] =
    ended c.loop-i.i c.args.leaves.now c.args.entries.now (omega (arith, c.min-i-end.ensures, c.loop-i-test.false)) in
    sym (append-nil c.loop-i.targets.items) ∙ ap (λ (rest : List Target). c.loop-i.targets.items ++ rest) (sym none) ∙ c.loop-i.invariant
