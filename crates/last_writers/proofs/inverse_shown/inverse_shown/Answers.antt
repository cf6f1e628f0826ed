use Rattle.std.proofs.Common.{subst, List}
use Rattle.claims.specs.declared.place.Step.{Step}
use Rattle.claims.specs.Claims.{IsRefusalAt}
use Rattle.wavefront.proofs.InverseClaims.{difference-refused, undone-hold}
use Rattle.last_writers.proofs.inverse_shown.inverse_shown.Goals as goal

pub returns-in_ok-entry-in-Some : goal.returns-in_ok-entry-in-Some
returns-in_ok-entry-in-Some c =
    let inverse = c.args.inverse.now in
    difference-refused inverse.matrix inverse.scale c.args.params c.args.size c.args.forms.now c.args.place.now c.in-Some.row c.in-Some.col c.refusal.result c.in-Some.ensures.some
    (subst (λ (p : List Step). IsRefusalAt 12 p c.refusal.result) c.in_ok-entry-in-Some.ensures c.refusal.ensures)

pub returns-in-None : goal.returns-in-None
returns-in-None c =
    undone-hold c.args.inverse.now.matrix c.args.inverse.now.scale c.args.params c.args.size c.args.forms.now c.args.place.now c.in-None.ensures.none
