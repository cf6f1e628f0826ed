use Rattle.std.proofs.Common.{◌≡◌, sym, ◌∙◌, ap, ℕ, ◌+◌, ◌-◌, cond, List, ◌∷◌, length, arith, add-one}
use Rattle.cover_lp.specs.Cover.{holds}
use Rattle.cover_lp.specs.Search.{lowered}
use Rattle.cover_lp.proofs.weights.+lowered_needs.Goals as goal
use Rattle.cover_lp.proofs.weights.+lowered_needs.Goals.{then-holds, else-holds}

-- the first of some needs, lowered, and the others
lowered-first : (set : List ℕ) (weight first need part lower : ℕ) (needs others rest new : List ℕ) → needs ≡ need ∷ others → part ≡ cond (holds set first) weight 0 → lower ≡ need - part
    → rest ≡ lowered set weight (first + 1) others → new ≡ lower ∷ rest → new ≡ lowered set weight first needs
lowered-first set weight first need part lower needs others rest new some is by left e =
    e
    ∙ ap (λ (n : ℕ). n ∷ rest) (by ∙ ap (λ (k : ℕ). need - k) is)
    ∙ ap (λ (l : List ℕ). (need - cond (holds set first) weight 0) ∷ l) (left ∙ ap (λ (k : ℕ). lowered set weight k others) (add-one first))
    ∙ ap (lowered set weight first) (sym some)

pub returns-clause-lower : goal.returns-clause-lower
returns-clause-lower t c =
    let set = c.args.set.now in
    let part : c.if-holds.part ≡ cond (holds set c.args.first) c.args.weight 0 = elim c.if-holds.branch [
      | then-holds w ↦ w.part-is ∙ ap (λ b. cond b c.args.weight 0) (sym w.if-holds.true ∙ c.holds.ensures)
      | else-holds w ↦ w.part-is ∙ ap (λ b. cond b c.args.weight 0) (sym w.if-holds.false ∙ c.holds.ensures)
    ] in
    lowered-first set c.args.weight c.args.first c.in-Some.need.now c.if-holds.part c.saturating_sub.result c.args.needs.now c.in-Some.others.now c.in_ok-lower.lower.items c.insert.new.self.items
    c.in-Some.ensures.cases.0 part c.saturating_sub.ensures c.in_ok-lower.ensures.lower c.in_ok-insert.ensures.items

pub returns-clause-len : goal.returns-clause-len
returns-clause-len t c = omega (arith, ap length c.in_ok-insert.ensures.items, ap length c.in-Some.ensures.cases.0, c.in_ok-lower.ensures.len)
