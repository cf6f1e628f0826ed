use Rattle.std.proofs.Common.{◌≡◌, refl, sym, ◌∙◌, ap, subst, ℕ}
use Rattle.std.specs.Prelude.{Err}
use Rattle.affine_program.specs.Parts.{meaning}
use Rattle.iolb_check.specs.Claims.{claim_of_certificate}
use Rattle.store_bound.specs.Faults.{AnswersTraffic, MakesTraffic}
use Rattle.store_bound.specs.declared.fault.TrafficFault.{TrafficFault}
use Rattle.store_terms.specs.Claims.{claim_of_stores}
use Rattle.iolb_commands.specs.declared.stop.Refusal.TheVariants.{Assumption, Condition, StoresCondition}
use Rattle.iolb_commands.specs.declared.stop.Stop.TheVariants.{Refused}
use Rattle.iolb_commands.specs.Phases.{onward, saying, stopping, stops}
use Rattle.iolb_commands.specs.Traffic.{traffic_loads, traffic_stores}
use Rattle.iolb_commands.specs.Values.{traffic_text}
use Rattle.iolb_commands.proofs.Headline.{sizes_many}
use Rattle.iolb_commands.proofs.traffic.traffic_answer.Goals as goal

pub traffic-requires-clause-each : goal.traffic-requires-clause-each
traffic-requires-clause-each c = sizes_many c.args.program.now.params c.requires.given.0 c.args.sizes.now c.requires.given.1

pub returns-in-Err-Refused-clause-comes : goal.returns-in-Err-Refused-clause-comes
returns-in-Err-Refused-clause-comes c =
    let it = c.in-Err-Refused in
    stopping it.failed (subst (λ (fault : TrafficFault). AnswersTraffic c.args.program.now c.args.certificate.now c.args.stores.now c.args.sizes.now c.args.s (Err fault)) it.field-0-is it.ensures.answer)
    (ap (λ failed. stops (Refused (Condition failed))) it.failed-is)

pub returns-in-Err-StoresRefused-clause-comes : goal.returns-in-Err-StoresRefused-clause-comes
returns-in-Err-StoresRefused-clause-comes c =
    let it = c.in-Err-StoresRefused in
    let said = subst (λ (fault : TrafficFault). AnswersTraffic c.args.program.now c.args.certificate.now c.args.stores.now c.args.sizes.now c.args.s (Err fault)) it.field-0-is it.ensures.answer in
    onward said.0 said.1.0 (stopping it.failed said.1.1 (ap (λ failed. stops (Refused (StoresCondition failed))) it.failed-is))

pub returns-in-Err-OutsideAssumption-clause-comes : goal.returns-in-Err-OutsideAssumption-clause-comes
returns-in-Err-OutsideAssumption-clause-comes c =
    let it = c.in-Err-OutsideAssumption in
    let said = subst (λ (fault : TrafficFault). AnswersTraffic c.args.program.now c.args.certificate.now c.args.stores.now c.args.sizes.now c.args.s (Err fault)) it.field-0-is it.ensures.answer in
    onward said.0 said.2.0 (onward said.1 said.2.1 (stopping it.number said.2.2 (ap (λ number. stops (Refused (Assumption number))) it.number-is)))

pub returns-in-Err-Wide-clause-comes : goal.returns-in-Err-Wide-clause-comes
returns-in-Err-Wide-clause-comes c =
    let it = c.in-Err-Wide in
    let said = subst (λ (fault : TrafficFault). AnswersTraffic c.args.program.now c.args.certificate.now c.args.stores.now c.args.sizes.now c.args.s (Err fault)) it.field-0-is it.ensures.answer in
    onward said.0 said.2.0 (onward said.1 said.2.1 (onward tt said.2.2 (stopping tt said.2.3 refl)))

pub returns-in-Ok-traffic_lines-clause-comes : goal.returns-in-Ok-traffic_lines-clause-comes
returns-in-Ok-traffic_lines-clause-comes c =
    let said = c.in-Ok.ensures.answer in
    let found = c.in-Ok.found in
    let program = meaning c.args.program.now in
    let sizes = c.args.sizes.now in
    let s = c.args.s in
    let loaded : ℕ = traffic_loads program said.0 sizes s in
    let stored : ℕ = traffic_stores (claim_of_certificate c.args.certificate.now) (claim_of_stores c.args.stores.now) said.0 said.1 sizes s in
    onward said.0 said.2.0 (onward said.1 said.2.1 (onward tt said.2.2 (onward tt said.2.3 (saying _ _ (
      subst (λ (loads : ℕ). MakesTraffic program sizes s loads stored) said.2.4
          (subst (λ (stores : ℕ). MakesTraffic program sizes s found.loads stores) said.2.5 c.in-Ok.ensures.transferred),
      c.in-Ok-traffic_lines.ensures ∙ ap (λ (loads : ℕ). traffic_text loads found.stores) said.2.4 ∙ ap (traffic_text loaded) said.2.5,
      refl,
    ) refl))))
