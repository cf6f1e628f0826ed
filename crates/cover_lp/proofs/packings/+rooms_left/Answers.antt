use Rattle.std.proofs.Common.{◌≡◌, sym, ◌∙◌, ap, subst, ℕ, ◌-◌, ◌≤◌, cond, List, ◌∷◌, length, arith}
use Rattle.cover_lp.specs.Cover.{holds}
use Rattle.cover_lp.specs.Search.{HaveRoom, left_of}
use Rattle.cover_lp.proofs.packings.+rooms_left.Goals as goal
use Rattle.cover_lp.proofs.packings.+rooms_left.Goals.{then-holds, else-holds}

-- the room in the first of some sets, and in the others
room-first : (set : List ℕ) (others sets : List (List ℕ)) (room coordinate amount part : ℕ) (more rooms left new : List ℕ) → sets ≡ set ∷ others → rooms ≡ room ∷ more
    → part ≡ cond (holds set coordinate) amount 0 → part ≤ room → HaveRoom others more coordinate amount × (left ≡ left_of others more coordinate amount) → new ≡ (room - part) ∷ left
    → HaveRoom sets rooms coordinate amount × (new ≡ left_of sets rooms coordinate amount)
room-first set others sets room coordinate amount part more rooms left new e f is fits h n =
    subst (λ (s : List (List ℕ)). HaveRoom s rooms coordinate amount × (new ≡ left_of s rooms coordinate amount)) (sym e)
    (subst (λ (r : List ℕ). HaveRoom (set ∷ others) r coordinate amount × (new ≡ left_of (set ∷ others) r coordinate amount)) (sym f) (
      (subst (λ (k : ℕ). k ≤ room) is fits, h.0),
      n ∙ ap (λ (l : List ℕ). (room - part) ∷ l) h.1 ∙ ap (λ (k : ℕ). (room - k) ∷ left_of others more coordinate amount) is,
    ))

pub returns-clause-some : goal.returns-clause-some
returns-clause-some t c =
    let part : c.if-holds.part ≡ cond (holds c.in-Some-Some.set.now c.args.coordinate) c.args.amount 0 = elim c.if-holds.branch [
      | then-holds w ↦ w.part-is ∙ ap (λ b. cond b c.args.amount 0) (sym w.if-holds.true ∙ c.holds.ensures)
      | else-holds w ↦ w.part-is ∙ ap (λ b. cond b c.args.amount 0) (sym w.if-holds.false ∙ c.holds.ensures)
    ] in
    let rest = rw c.in-Some.is at c.in_ok-left.ensures.some in
    room-first c.in-Some-Some.set.now c.in-Some-Some.others.now c.args.sets.now c.in-Some-Some.room.now c.args.coordinate c.args.amount c.if-holds.part c.in-Some-Some.more.now c.args.rooms.now c.in-Some.left.items c.insert.new.self.items
    c.in-Some-Some.ensures.cases.0 c.in-Some-Some.ensures'.cases.0 part c.if-part-room.false rest c.in_ok-insert.ensures.items

-- a room more for a set more
longer : (set : List ℕ) (others sets : List (List ℕ)) (room : ℕ) (left new : List ℕ) → sets ≡ set ∷ others → new ≡ room ∷ left → length left ≡ length others → length new ≡ length sets
longer set others sets room left new e n h = omega (arith, ap length e, ap length n, h)

pub returns-clause-len : goal.returns-clause-len
returns-clause-len t c =
    let rest = rw c.in-Some.is at c.in_ok-left.ensures.len in
    longer c.in-Some-Some.set.now c.in-Some-Some.others.now c.args.sets.now (c.in-Some-Some.room.now - c.if-holds.part) c.in-Some.left.items c.insert.new.self.items c.in-Some-Some.ensures.cases.0
    c.in_ok-insert.ensures.items rest

pub returns-clause-none : goal.returns-clause-none
returns-clause-none t c = tt
