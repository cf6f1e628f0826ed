use Rattle.std.proofs.Common.{◌∙◌, subst, sym, ap, List, ℕ, ◌+◌, ◌++◌, take}
use Rattle.std.proofs.lemmas.List.{take_more}
use Rattle.claims.specs.declared.place.Step.{Step}
use Rattle.json_places.specs.Values.{StandsAt, StandsBehind, opener}
use Rattle.json_places.proofs.Steps.{stands-more}
use Rattle.json_places.proofs.find.value_place.Goals as goal

pub loop-step-preserved : goal.loop-step-preserved
loop-step-preserved c = record {
  text = c.in_ok-at.ensures.text ∙ c.loop-step.invariant.text;
  stands = stands-more c.args.text.now c.steps-step-items.result.now c.loop-step.step-index c.step-item.result c.in_ok-at.at.place c.loop-step-test.true c.step-item.is
      (subst (λ (text : List ℕ). StandsBehind text (opener c.step-item.result) c.in_ok-at.at.place) c.loop-step.invariant.text c.in_ok-at.ensures.behind);
}
