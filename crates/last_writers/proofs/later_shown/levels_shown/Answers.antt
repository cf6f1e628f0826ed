use Rattle.std.proofs.Common.{◌≡◌, ◌∙◌, ◌+◌, ◌-◌, ℕ, List, ap, map, arith, get_or}
use Rattle.std.specs.Prelude.{Ok}
use Rattle.std.specs.List.{range_with_len}
use Rattle.affine_form.specs.Multipliers.{FarkasMultipliers}
use Rattle.affine_form.specs.System.{AffineSystem}
use Rattle.affine_program.specs.Parts.{meaning}
use Rattle.claims.proofs.Found.{handed-on}
use Rattle.claims.proofs.Pointless.{claims_from}
use Rattle.dep_quast.proofs.Chunks.{levels-stop, levels-go, levels-end}
use Rattle.store_terms.specs.Claims.{claim_of_output}
use Rattle.last_writers.specs.OutputClaims.{later_write}
use Rattle.last_writers.proofs.later_shown.levels_shown.Goals as goal

pub returns-in_err-system_shown : goal.returns-in_err-system_shown
returns-in_err-system_shown c =
    let f : ℕ → AffineSystem = later_write (meaning c.args.program.now) (claim_of_output c.args.output.now) c.args.writer in
    let shown : List FarkasMultipliers = c.args.output.now.later.items in
    let is : c.index-shown-at.result ≡ get_or shown (c.args.first + c.loop-level.level) c.index-shown-at.result =
    c.index-shown-at.is ∙ ap (λ (ms : List FarkasMultipliers). get_or ms (c.args.first + c.loop-level.level) c.index-shown-at.result) c.as_slice-shown.ensures.value in
    c.loop-level.invariant c.from_residual-in_err-system_shown.result
    (handed-on (claims_from 24 c.args.place.now (c.args.first + c.loop-level.level) (map f (range_with_len c.loop-level.level (c.level_count-level-end.result - c.loop-level.level))) shown) c.in_err-system_shown.field-0.0 c.from_residual-in_err-system_shown.result c.from_residual-in_err-system_shown.ensures
    (levels-stop f 24 c.args.place.now c.in_ok-member.member c.args.first c.loop-level.level c.level_count-level-end.result shown c.index-shown-at.result c.variables_beside-vars.result c.as_slice.result.now
    c.loop-level-test.true (omega (arith, c.requires.enough, c.level_count-level-end.ensures.count)) is c.in_ok-member.ensures c.variables_beside-vars.ensures.variables
    (c.as_slice.ensures.value ∙ c.in_ok-system.ensures.rows) c.in_err-system_shown.field-0.0 c.in_err-system_shown.ensures))

pub loop-level-preserved : goal.loop-level-preserved
loop-level-preserved c =
    let f : ℕ → AffineSystem = later_write (meaning c.args.program.now) (claim_of_output c.args.output.now) c.args.writer in
    let shown : List FarkasMultipliers = c.args.output.now.later.items in
    let is : c.index-shown-at.result ≡ get_or shown (c.args.first + c.loop-level.level) c.index-shown-at.result =
    c.index-shown-at.is ∙ ap (λ (ms : List FarkasMultipliers). get_or ms (c.args.first + c.loop-level.level) c.index-shown-at.result) c.as_slice-shown.ensures.value in
    λ later h. c.loop-level.invariant later
    (levels-go f 24 c.args.place.now c.in_ok-member.member c.args.first c.loop-level.level c.level_count-level-end.result shown c.index-shown-at.result c.variables_beside-vars.result c.as_slice.result.now
    c.loop-level-test.true (omega (arith, c.requires.enough, c.level_count-level-end.ensures.count)) is c.in_ok-member.ensures c.variables_beside-vars.ensures.variables
    (c.as_slice.ensures.value ∙ c.in_ok-system.ensures.rows) later c.in_ok-system_shown.ensures h)

pub returns : goal.returns
returns c =
    let f : ℕ → AffineSystem = later_write (meaning c.args.program.now) (claim_of_output c.args.output.now) c.args.writer in
    c.loop-level.invariant (Ok tt) (levels-end f 24 c.args.place.now (c.args.first + c.loop-level.level) c.loop-level.level c.level_count-level-end.result c.args.output.now.later.items c.loop-level-test.false)
