use Rattle.std.proofs.Common.{◌≡◌, ◌+◌, Bool, true, map, arith, rules, subst}
use Rattle.std.specs.Prelude.{IsTrue}
use Rattle.iolb_model.specs.Program.{Access}
use Rattle.affine_program.specs.Parts.{access_of}
use Rattle.projective.specs.Projective.{HoldsOfOne, stands_in}
use Rattle.projective.proofs.Below.{one-more}
use Rattle.projective.proofs.standing.all_stand.Goals as goal

pub loop-place-preserved : goal.loop-place-preserved
loop-place-preserved c = one-more (λ place. HoldsOfOne (λ (access : Access). stands_in (c.args.params + place) access ≡ true) (map access_of c.args.others.now)) c.loop-place.place c.loop-place.invariant (c.is_in_some.ensures.0 c.if-not-is_in_some.false)

pub returns-then-not-is_in_some : goal.returns-then-not-is_in_some
returns-then-not-is_in_some c = (
  λ none. search rules,
  λ all. subst (λ (b : Bool). IsTrue b) c.if-not-is_in_some.true (c.is_in_some.ensures.1 (all c.loop-place.place c.loop-place-test.true)),
)

pub returns : goal.returns
returns c = (λ t place below. c.loop-place.invariant place (omega (arith, below, c.loop-place-test.false)), λ all. search rules)
