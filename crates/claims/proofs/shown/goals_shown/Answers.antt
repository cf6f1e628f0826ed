use Rattle.std.proofs.Common.{true, ◌≡◌, sym, subst, drop, List}
use Rattle.std.specs.Prelude.{Ok, Err}
use Rattle.std.proofs.lemmas.List.{drop_all}
use Rattle.iolb_model.specs.Form.{AffineForm}
use Rattle.claims.specs.declared.place.Step.{Step}
use Rattle.claims.specs.Shown.{follow_claims}
use Rattle.claims.specs.Claims.{AllHold, IsRefusalAt}
use Rattle.claims.proofs.Followed.{goals-fail, goals-next}
use Rattle.claims.proofs.shown.goals_shown.Goals as goal

pub returns : goal.returns
returns c =
    c.loop-i.invariant (Ok tt)
    (let ended = drop_all c.loop-i.i c.args.goals.now c.loop-i-test.false in
    subst (λ (goals : List AffineForm). AllHold (follow_claims c.args.condition c.args.place.now c.args.system.now c.loop-i.i goals (drop c.loop-i.i c.args.shown.now))) (sym ended) tt)

pub returns-then-not-is_followed : goal.returns-then-not-is_followed
returns-then-not-is_followed c =
    c.loop-i.invariant (Err c.refusal.result)
    (goals-fail c.args.condition c.args.place.now c.args.system.now c.args.goals.now c.args.shown.now c.loop-i.i c.index-goals-i.result c.index-shown-i.result
    c.loop-i-test.true c.requires c.index-goals-i.is c.index-shown-i.is c.refusal.result
    (λ holds. let yes : c.is_followed.result ≡ true = c.is_followed.ensures.1 holds in cc)
    (subst (λ (p : List Step). IsRefusalAt c.args.condition p c.refusal.result) c.in_ok-place.ensures c.refusal.ensures))

pub loop-i-preserved : goal.loop-i-preserved
loop-i-preserved c = λ answer h. c.loop-i.invariant answer
    (goals-next c.args.condition c.args.place.now c.args.system.now c.args.goals.now c.args.shown.now c.loop-i.i c.index-goals-i.result c.index-shown-i.result
    c.loop-i-test.true c.requires c.index-goals-i.is c.index-shown-i.is answer (c.is_followed.ensures.0 c.if-not-is_followed.false) h)
