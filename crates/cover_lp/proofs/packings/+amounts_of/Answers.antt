use Rattle.std.proofs.Common.{◌≡◌, ◌+◌, sym, subst, ℕ, ◌-◌, List, arith}
use Rattle.cover_lp.specs.Search.{Fills, HaveRoom, left_of}
use Rattle.cover_lp.proofs.Search.{step-fills, no-fills, past-room, all-full, fits-none, found-none, found-some, room-none, room-some}
use Rattle.cover_lp.proofs.packings.+amounts_of.Goals as goal

pub returns-then-total-eq0 : goal.returns-then-total-eq0
returns-then-total-eq0 t c = rw c.new.ensures.items (record {
  one_each = sym c.if-count-eq0.true;
  fitting = fits-none c.args.sets.now c.args.rooms.now c.args.first c.requires.one_each;
  adds_up = sym c.if-total-eq0.true;
})

pub returns-in_default : goal.returns-in_default
returns-in_default t c =
    past-room c.args.sets.now c.args.rooms.now c.args.first c.args.count c.args.total c.loop-amount.amount (omega (arith, c.if-count-eq0.false)) c.loop-amount.invariant
    (room-none (HaveRoom c.args.sets.now c.args.rooms.now c.args.first c.loop-amount.amount) c.in_ok-rooms.field-0 c.in_default.is c.in_ok-rooms.ensures.none)

pub returns-in-Some-2 : goal.returns-in-Some-2
returns-in-Some-2 t c =
    let had = room-some (HaveRoom c.args.sets.now c.args.rooms.now c.args.first c.loop-amount.amount) (left_of c.args.sets.now c.args.rooms.now c.args.first c.loop-amount.amount)
    c.in_ok-rooms.field-0 c.in-Some.rooms c.in-Some.is c.in_ok-rooms.ensures.some in
    let found = found-some (Fills c.args.sets.now c.as_slice.result.now (c.args.first + 1) (c.args.count - 1) (c.args.total - c.loop-amount.amount)) c.in_ok-amounts.field-0 c.in-Some-2.amounts c.in-Some-2.is c.in_ok-amounts.ensures in
    let rooms : c.as_slice.result.now ≡ left_of c.args.sets.now c.args.rooms.now c.args.first c.loop-amount.amount = rw c.as_slice.ensures.value had.1 in
    rw c.in_ok-insert.ensures.items
    (step-fills c.args.sets.now c.args.rooms.now c.args.first c.args.count c.args.total c.loop-amount.amount c.in-Some-2.amounts.items (omega (arith, c.loop-amount-test.true)) (omega (arith, c.if-count-eq0.false)) had.0
    (subst (λ (list : List ℕ). Fills c.args.sets.now list (c.args.first + 1) (c.args.count - 1) (c.args.total - c.loop-amount.amount) c.in-Some-2.amounts.items) rooms found))

pub loop-amount-preserved : goal.loop-amount-preserved
loop-amount-preserved t c =
    let had = room-some (HaveRoom c.args.sets.now c.args.rooms.now c.args.first c.loop-amount.amount) (left_of c.args.sets.now c.args.rooms.now c.args.first c.loop-amount.amount)
    c.in_ok-rooms.field-0 c.in-Some.rooms c.in-Some.is c.in_ok-rooms.ensures.some in
    let rooms : c.as_slice.result.now ≡ left_of c.args.sets.now c.args.rooms.now c.args.first c.loop-amount.amount = rw c.as_slice.ensures.value had.1 in
    let none = found-none (Fills c.args.sets.now c.as_slice.result.now (c.args.first + 1) (c.args.count - 1) (c.args.total - c.loop-amount.amount)) c.in_ok-amounts.field-0 c.in_default-2.is c.in_ok-amounts.ensures in
    no-fills c.args.sets.now c.args.rooms.now c.args.first c.args.count c.args.total c.loop-amount.amount c.loop-amount.invariant
    (subst (λ (list : List ℕ). (found : List ℕ) → Fills c.args.sets.now list (c.args.first + 1) (c.args.count - 1) (c.args.total - c.loop-amount.amount) found → ⊥) rooms none)

pub returns : goal.returns
returns t c = all-full c.args.sets.now c.args.rooms.now c.args.first c.args.count c.args.total c.loop-amount.amount (omega (arith, c.if-count-eq0.false)) (omega (arith, c.loop-amount-test.false)) c.loop-amount.invariant
