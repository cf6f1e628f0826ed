use Rattle.std.proofs.Common.{◌∙◌, ◌+◌, ◌-◌, ℕ, map, arith}
use Rattle.std.specs.Prelude.{Ok}
use Rattle.std.specs.List.{range_with_len}
use Rattle.affine_form.specs.System.{AffineSystem}
use Rattle.affine_program.specs.Parts.{meaning}
use Rattle.dep_quast.specs.Context.{before_reader}
use Rattle.dep_quast.specs.Views.{read_of}
use Rattle.claims.proofs.Found.{handed-on}
use Rattle.claims.proofs.Pointless.{claims_from}
use Rattle.dep_quast.proofs.Chunks.{levels-stop, levels-go, levels-end}
use Rattle.dep_quast.proofs.writes_shown.levels_shown.Goals as goal

pub returns-in_err-system_shown : goal.returns-in_err-system_shown
returns-in_err-system_shown c =
    let f : ℕ → AffineSystem = before_reader (meaning c.args.program.now) (read_of c.args.reader) c.args.writer c.args.rows.now in
    c.loop-level.invariant c.from_residual-in_err-system_shown.result
    (handed-on (claims_from 6 c.args.place.now (c.args.first + c.loop-level.level) (map f (range_with_len c.loop-level.level (c.level_count-level-end.result - c.loop-level.level))) c.args.shown.now) c.in_err-system_shown.field-0.0 c.from_residual-in_err-system_shown.result c.from_residual-in_err-system_shown.ensures
    (levels-stop f 6 c.args.place.now c.in_ok-member.member c.args.first c.loop-level.level c.level_count-level-end.result c.args.shown.now c.index-shown-at.result c.variables_beside-vars.result c.as_slice.result.now
    c.loop-level-test.true (omega (arith, c.requires.enough, c.level_count-level-end.ensures.count)) c.index-shown-at.is c.in_ok-member.ensures c.variables_beside-vars.ensures.variables
    (c.as_slice.ensures.value ∙ c.in_ok-system.ensures.rows) c.in_err-system_shown.field-0.0 c.in_err-system_shown.ensures))

pub loop-level-preserved : goal.loop-level-preserved
loop-level-preserved c =
    let f : ℕ → AffineSystem = before_reader (meaning c.args.program.now) (read_of c.args.reader) c.args.writer c.args.rows.now in
    λ later h. c.loop-level.invariant later
    (levels-go f 6 c.args.place.now c.in_ok-member.member c.args.first c.loop-level.level c.level_count-level-end.result c.args.shown.now c.index-shown-at.result c.variables_beside-vars.result c.as_slice.result.now
    c.loop-level-test.true (omega (arith, c.requires.enough, c.level_count-level-end.ensures.count)) c.index-shown-at.is c.in_ok-member.ensures c.variables_beside-vars.ensures.variables
    (c.as_slice.ensures.value ∙ c.in_ok-system.ensures.rows) later c.in_ok-system_shown.ensures h)

pub returns : goal.returns
returns c =
    let f : ℕ → AffineSystem = before_reader (meaning c.args.program.now) (read_of c.args.reader) c.args.writer c.args.rows.now in
    c.loop-level.invariant (Ok tt) (levels-end f 6 c.args.place.now (c.args.first + c.loop-level.level) c.loop-level.level c.level_count-level-end.result c.args.shown.now c.loop-level-test.false)
