use Rattle.std.specs.Prelude.{codes}
use Rattle.std.proofs.Common.{subst, sym, ◌∙◌, ap, length, ℕ, List, inr}
use Rattle.iolb_model.specs.Form.{AffineForm}
use Rattle.affine_program.specs.Parts.{meaning}
use Rattle.claims.specs.Claims.{FirstFails, IsRefusal, numbered}
use Rattle.domain_count.specs.Claims.{FitsCount, SumClaims}
use Rattle.domain_count.specs.Count.{AreShownBelow}
use Rattle.domain_count.specs.CountClaims.{count_claims, range_claim, sums_claims}
use Rattle.domain_count.proofs.Claimed.{ranges-hold}
use Rattle.domain_count.specs.Summing.{AreSummed}
use Rattle.domain_count.proofs.Exact.{first-is-wide}
use Rattle.domain_count.proofs.RangeLemmas.{all-shown, sums-many, fails-behind}
use Rattle.domain_count.proofs.making.make_count.Goals as goal

pub returns-in-Err-Wide-clause-shown : goal.returns-in-Err-Wide-clause-shown
returns-in-Err-Wide-clause-shown c = λ e.
    all-shown (meaning c.args.program.now) c.args.nest.now c.in_ok-shown.shown.items
    (subst (λ (nest : List (AffineForm × AffineForm)). AreShownBelow (meaning c.args.program.now) nest c.in_ok-shown.shown.items (length nest)) c.bounds.ensures c.in_ok-shown.ensures.shown)

pub check_count-requires : goal.check_count-requires
check_count-requires c =
    subst (FitsCount c.args.program.now c.args.nest.now) (sym c.new-sums.ensures) (record {
      few = c.requires.few;
      bounds = c.requires.fit;
      shown = c.in_ok-shown.ensures.each ∙ ap length c.bounds.ensures;
      sums = sums-many _ c.bounds-2.result.now c.in-Ok.summed.sums.items c.in-Ok.summed.total c.in-Ok.ensures.made ∙ ap length c.bounds-2.ensures;
    })

pub returns-in-Ok-check_count-clause-fits : goal.returns-in-Ok-check_count-clause-fits
returns-in-Ok-check_count-clause-fits c =
    subst (FitsCount c.args.program.now c.args.nest.now) (sym c.new-sums.ensures) (record {
      few = c.requires.few;
      bounds = c.requires.fit;
      shown = c.in_ok-shown.ensures.each ∙ ap length c.bounds.ensures;
      sums = sums-many _ c.bounds-2.result.now c.in-Ok.summed.sums.items c.in-Ok.summed.total c.in-Ok.ensures.made ∙ ap length c.bounds-2.ensures;
    })

pub returns-in-Err-Failed-clause-shown : goal.returns-in-Err-Failed-clause-shown
returns-in-Err-Failed-clause-shown c = λ e.
    all-shown (meaning c.args.program.now) c.args.nest.now c.in_ok-shown.shown.items
    (subst (λ (nest : List (AffineForm × AffineForm)). AreShownBelow (meaning c.args.program.now) nest c.in_ok-shown.shown.items (length nest)) c.bounds.ensures c.in_ok-shown.ensures.shown)

pub returns-in-Err-Failed-clause-wide : goal.returns-in-Err-Failed-clause-wide
returns-in-Err-Failed-clause-wide c = λ e.
    let claims : SumClaims = record { shown = c.in_ok-shown.shown.items; sums = c.in-Ok.summed.sums.items } in
    let refusal : IsRefusal (count_claims (meaning c.args.program.now) c.args.nest.now c.new-sums.result c.new-2.result) c.in-Err-Failed.field-0 = c.in-Err-Failed.ensures.refused in
    let first : FirstFails (count_claims (meaning c.args.program.now) c.args.nest.now c.new-sums.result c.new-2.result) c.in-Err-Failed.field-0-0
    = subst (IsRefusal (count_claims (meaning c.args.program.now) c.args.nest.now c.new-sums.result c.new-2.result)) c.in-Err-Failed.field-0-is refusal in
    let fails : FirstFails (count_claims (meaning c.args.program.now) c.args.nest.now claims c.new-2.result) c.in-Err-Failed.field-0-0
    = subst (λ (given : SumClaims). FirstFails (count_claims (meaning c.args.program.now) c.args.nest.now given c.new-2.result) c.in-Err-Failed.field-0-0) c.new-sums.ensures first in
    let made : AreSummed (length c.args.program.now.params) c.args.nest.now c.in-Ok.summed.sums.items c.in-Ok.summed.total
    = subst (λ (nest : List (AffineForm × AffineForm)). AreSummed (length c.args.program.now.params) nest c.in-Ok.summed.sums.items c.in-Ok.summed.total) c.bounds-2.ensures
    (subst (λ (n : ℕ). AreSummed n c.bounds-2.result.now c.in-Ok.summed.sums.items c.in-Ok.summed.total) (ap length c.params-params.ensures.params) c.in-Ok.ensures.made) in
    let behind : FirstFails (sums_claims (meaning c.args.program.now) c.args.nest.now c.in-Ok.summed.sums.items c.new-2.result (codes "sums")) c.in-Err-Failed.field-0-0
    = fails-behind (numbered (range_claim (meaning c.args.program.now) c.args.nest.now c.in_ok-shown.shown.items c.new-2.result) 0 c.args.nest.now)
    (sums_claims (meaning c.args.program.now) c.args.nest.now c.in-Ok.summed.sums.items c.new-2.result (codes "sums")) c.in-Err-Failed.field-0-0
    (ranges-hold (meaning c.args.program.now) c.args.nest.now c.in_ok-shown.shown.items c.new-2.result
    (subst (λ (nest : List (AffineForm × AffineForm)). AreShownBelow (meaning c.args.program.now) nest c.in_ok-shown.shown.items (length nest)) c.bounds.ensures c.in_ok-shown.ensures.shown))
    fails in
    inr (
      c.in-Ok.summed.sums.items,
      c.new-2.result,
      c.in-Err-Failed.field-0-0,
      (
        (c.in-Ok.summed.total, made),
        behind,
        first-is-wide (length c.args.program.now.params) c.args.nest.now c.in-Ok.summed.sums.items c.new-2.result (codes "sums") c.in-Err-Failed.field-0-0 c.in-Ok.summed.total made behind,
      ),
    )
