use Rattle.std.proofs.Common.{true, ◌≡◌, subst, List, [], ◌∷◌, ◌++◌, ◌+◌}
use Rattle.std.specs.Prelude.{Err}
use Rattle.claims.specs.Claims.{IsRefusalAt}
use Rattle.claims.specs.declared.place.Step.{Step}
use Rattle.claims.specs.declared.place.Step.TheVariants.{Key, Index}
use Rattle.claims.proofs.Found.{refused-here}
use Rattle.claims.proofs.Members.{numbered-next, numbered-stop}
use Rattle.certificate_fit.specs.FitClaims.{uses}
use Rattle.certificate_fit.specs.PartFit.{sum_at}
use Rattle.certificate_fit.proofs.lists.all_sums_fit.Goals as goal

pub returns-then-not-uses_below : goal.returns-then-not-uses_below
returns-then-not-uses_below c =
    let list = c.args.place.now ++ Key c.args.key ∷ [] in
    let i = c.loop-index.index in
    let sum = c.index-sums-index.result in
    let r = c.refusal.result in
    c.loop-index.invariant (Err r)
    (numbered-stop (sum_at c.args.variables list) c.args.sums.now i sum c.loop-index-test.true c.index-sums-index.is r
    (refused-here (uses (list ++ Index i ∷ []) sum (c.args.variables + i)) [] r (λ fits. let yes : c.uses_below.result ≡ true = c.uses_below.ensures.1 fits in cc)
    (subst (λ (p : List Step). IsRefusalAt 1 p r) c.in_ok-member.ensures c.refusal.ensures)))

pub loop-index-preserved : goal.loop-index-preserved
loop-index-preserved c = λ answer h.
    let list = c.args.place.now ++ Key c.args.key ∷ [] in
    c.loop-index.invariant answer
    (numbered-next (sum_at c.args.variables list) c.args.sums.now c.loop-index.index c.index-sums-index.result c.loop-index-test.true c.index-sums-index.is answer (c.uses_below.ensures.0 c.if-not-uses_below.false, tt) h)
