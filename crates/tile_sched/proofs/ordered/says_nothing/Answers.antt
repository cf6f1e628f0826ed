use Rattle.std.proofs.Common.{◌≡◌, refl, sym, ◌∙◌, ap, subst, List, length, nat_eq, true, false}
use Rattle.std.proofs.lemmas.List.{take_all}
use Rattle.tile_sched.specs.Ranks.{SaysNothing}
use Rattle.tile_sched.specs.Schedules.{rows_of}
use Rattle.tile_sched.specs.declared.schedule.Key.{Key}
use Rattle.tile_sched.proofs.AsWritten.{no_keys, nothing_more, something}
use Rattle.tile_sched.proofs.ordered.says_nothing.Goals as goal

pub returns-then-not-is_empty : goal.returns-then-not-is_empty
returns-then-not-is_empty c = (
  λ no. absurd cc,
  λ nothing. absurd (something c.keys-keys-items.result.now c.loop-keys.keys-index c.keys-item.result c.loop-keys-test.true c.keys-item.is
      (λ none. let empty : nat_eq (length c.as_slice.result.now) 0 ≡ true = ap (λ (keys : List Key). nat_eq (length keys) 0) (c.as_slice.ensures.value ∙ none) in
      let some : nat_eq (length c.as_slice.result.now) 0 ≡ false = sym c.is_empty.ensures ∙ c.if-not-is_empty.true in cc)
      (subst SaysNothing (sym c.keys-keys-items.ensures) nothing)),
)

pub loop-keys-preserved : goal.loop-keys-preserved
loop-keys-preserved c =
    nothing_more c.keys-keys-items.result.now c.loop-keys.keys-index c.keys-item.result c.loop-keys-test.true c.keys-item.is c.loop-keys.invariant
    (sym c.as_slice.ensures.value ∙ no_keys c.as_slice.result.now (sym c.is_empty.ensures ∙ c.if-not-is_empty.false))

pub returns : goal.returns
returns c = (
  λ yes. subst SaysNothing (ap rows_of (take_all c.loop-keys.keys-index c.keys-keys-items.result.now c.loop-keys-test.false) ∙ c.keys-keys-items.ensures) c.loop-keys.invariant,
  λ nothing. refl,
)
