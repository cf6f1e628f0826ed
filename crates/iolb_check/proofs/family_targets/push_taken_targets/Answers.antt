use Rattle.std.proofs.Common.{◌≡◌, refl, sym, ◌∙◌, ap, subst, ℕ, zero, suc, ◌<◌, ◌≤◌, min, List, [], ◌∷◌, ◌++◌, length, map, drop, get_or, append-nil, append_assoc, arith, Vec, Global}
use Rattle.std.specs.Prelude.{Option, None}
use Rattle.std.specs.List.{cons_option}
use Rattle.std.proofs.Math.Numerals.{suc-eq-add-one}
use Rattle.reuse_paths.specs.declared.leaf.Leaf.{Leaf}
use Rattle.footprint_pieces.specs.declared.piece.Target.{Target}
use Rattle.reuse_paths.specs.LeafClaims.{claim_of}
use Rattle.iolb_check.specs.FamilyTargets.{taken_target, taken_targets}
use Rattle.iolb_check.proofs.family_targets.push_taken_targets.Goals as goal
use Rattle.iolb_check.proofs.family_targets.push_taken_targets.Goals.{in-Some+in_ok-push, in_default}

none-right : (targets : List (Option Target)) → taken_targets targets [] ≡ []
none-right [] = refl
none-right (t ∷ targets) = refl

-- where either list has ended, there are no more
ended : (i : ℕ) (targets : List (Option Target)) (entries : List Leaf) → min (length targets) (length entries) ≤ i → taken_targets (drop i targets) (map claim_of (drop i entries)) ≡ []
ended zero [] entries h = refl
ended zero (t ∷ targets) [] h = refl
ended zero (t ∷ targets) (e ∷ entries) h = absurd (omega arith)
ended (suc i) [] entries h = refl
ended (suc i) (t ∷ targets) [] h = none-right (drop i targets)
ended (suc i) (t ∷ targets) (e ∷ entries) h = ended i targets entries (omega arith)

-- else there is a leaf and its entry, and those behind them
behind : ℕ → List (Option Target) → List Leaf → List Target
behind i targets entries = taken_targets (drop (suc i) targets) (map claim_of (drop (suc i) entries))

here : (i : ℕ) (targets : List (Option Target)) (entries : List Leaf) (entry : Leaf) → i < length targets → i < length entries → entry ≡ get_or entries i entry
    → taken_targets (drop i targets) (map claim_of (drop i entries)) ≡ cons_option (taken_target (get_or targets i None) (claim_of entry)) (behind i targets entries)
unfolding behind
here i [] entries entry p q is = absurd (omega (arith, p))
here i (t ∷ targets) [] entry p q is = absurd (omega (arith, q))
here zero (t ∷ targets) (e ∷ entries) entry p q is = ap (λ (x : Leaf). cons_option (taken_target t (claim_of x)) (taken_targets targets (map claim_of entries))) (sym is)
here (suc i) (t ∷ targets) (e ∷ entries) entry p q is = here i targets entries entry (omega (arith, p)) (omega (arith, q)) is

pub loop-i-preserved : goal.loop-i-preserved
unfolding behind
loop-i-preserved c =
    let i : ℕ = c.loop-i.i in
    let leaves : List (Option Target) = c.args.leaves.now in
    let entries : List Leaf = c.args.entries.now in
    let entry : Leaf = c.index-entries-i.result in
    let rest : List Target = behind i leaves entries in
    let split = here i leaves entries entry (omega (arith, c.loop-i-test.true, c.min-i-end.ensures)) (omega (arith, c.loop-i-test.true, c.min-i-end.ensures)) c.index-entries-i.is in
    let taken : c.loop-i.targets.items ++ cons_option c.taken.result rest ≡ c.args.targets.now.items ++ taken_targets leaves (map claim_of entries) =
    ap (λ (t : Option Target). c.loop-i.targets.items ++ cons_option t rest) c.taken.ensures ∙ ap (λ (ts : List Target). c.loop-i.targets.items ++ ts) (sym split) ∙ c.loop-i.invariant in
    let more : c.match-taken.targets.items ++ rest ≡ c.args.targets.now.items ++ taken_targets leaves (map claim_of entries) =
    elim c.match-taken.branch [
      | in-Some+in_ok-push w ↦ ap (λ (v : Vec Target Global). v.items ++ rest) w.targets-is ∙ ap (λ (ts : List Target). ts ++ rest) w.in_ok-push.ensures.items
          ∙ append_assoc c.loop-i.targets.items (w.in-Some.target ∷ []) rest
          ∙ ap (λ (t : Option Target). c.loop-i.targets.items ++ cons_option t rest) (sym w.in-Some.is) ∙ taken
      | in_default w ↦ ap (λ (v : Vec Target Global). v.items ++ rest) w.targets-is
          ∙ ap (λ (t : Option Target). c.loop-i.targets.items ++ cons_option t rest) (sym w.in_default.is) ∙ taken
    ] in
    subst (λ (n : ℕ). c.match-taken.targets.items ++ taken_targets (drop n leaves) (map claim_of (drop n entries)) ≡ c.args.targets.now.items ++ taken_targets leaves (map claim_of entries)) (suc-eq-add-one i) more

pub returns : goal.returns
returns c =
    let none : taken_targets (drop c.loop-i.i c.args.leaves.now) (map claim_of (drop c.loop-i.i c.args.entries.now)) ≡ [] =
    ended c.loop-i.i c.args.leaves.now c.args.entries.now (omega (arith, c.min-i-end.ensures, c.loop-i-test.false)) in
    sym (append-nil c.loop-i.targets.items) ∙ ap (λ (rest : List Target). c.loop-i.targets.items ++ rest) (sym none) ∙ c.loop-i.invariant
