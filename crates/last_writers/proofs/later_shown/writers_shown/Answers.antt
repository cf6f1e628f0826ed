use Rattle.std.proofs.Common.{flat_map, drop, ◌≡◌, ◌∙◌, List, sym, ℕ, map, length, get_or, arith}
use Rattle.std.specs.Prelude.{Ok}
use Rattle.affine_form.specs.System.{AffineSystem}
use Rattle.affine_program.specs.Parts.{meaning}
use Rattle.claims.specs.Claims.{AllHold, IsRefusal}
use Rattle.claims.proofs.Found.{handed-on}
use Rattle.claims.proofs.Pointless.{claims_from}
use Rattle.dep_quast.specs.Levels.{levels, level_count}
use Rattle.dep_quast.proofs.Chunks.{length-levels, writers-stop, writers-go, writers-end, writers-room, writers-first}
use Rattle.store_terms.specs.Claims.{OutputClaim, claim_of_output}
use Rattle.last_writers.specs.OutputClaims.{later_write}
use Rattle.last_writers.proofs.later_shown.writers_shown.Goals as goal

pub levels_shown-requires-clause-enough : goal.levels_shown-requires-clause-enough
levels_shown-requires-clause-enough c =
    let program = meaning c.args.program.now in
    let output : OutputClaim = claim_of_output c.args.output.now in
    let xs = c.as_slice-writer-items.result.now in
    let x : ℕ = get_or xs c.loop-writer.writer-index 0 in
    let g : ℕ → List AffineSystem = λ writer. map (later_write program output writer) (levels program output.statement writer) in
    let each : level_count program output.statement x ≡ length (g x) = sym (length-levels (later_write program output x) (level_count program output.statement x)) in
    omega (arith, each, writers-first g xs 24 c.args.place.now c.loop-writer.writer-index c.loop-writer.at (level_count program output.statement x) output.later c.loop-writer-test.true each c.loop-writer.invariant.room)

pub returns-in_err-levels_shown : goal.returns-in_err-levels_shown
returns-in_err-levels_shown c =
    let program = meaning c.args.program.now in
    let output : OutputClaim = claim_of_output c.args.output.now in
    let xs = c.as_slice-writer-items.result.now in
    let x : ℕ = get_or xs c.loop-writer.writer-index 0 in
    let g : ℕ → List AffineSystem = λ writer. map (later_write program output writer) (levels program output.statement writer) in
    let each : level_count program output.statement x ≡ length (g x) = sym (length-levels (later_write program output x) (level_count program output.statement x)) in
    let h : IsRefusal (claims_from 24 c.args.place.now c.loop-writer.at (g x) output.later) c.in_err-levels_shown.field-0.0 = c.in_err-levels_shown.ensures in
    c.loop-writer.invariant.decided c.from_residual-in_err-levels_shown.result
    (handed-on (claims_from 24 c.args.place.now c.loop-writer.at (flat_map g (drop c.loop-writer.writer-index xs)) output.later) c.in_err-levels_shown.field-0.0 c.from_residual-in_err-levels_shown.result c.from_residual-in_err-levels_shown.ensures
    (writers-stop g xs 24 c.args.place.now c.loop-writer.writer-index c.loop-writer.at (level_count program output.statement x) output.later c.loop-writer-test.true each c.loop-writer.invariant.room
    c.in_err-levels_shown.field-0.0 h))

pub loop-writer-preserved : goal.loop-writer-preserved
loop-writer-preserved c =
    let program = meaning c.args.program.now in
    let output : OutputClaim = claim_of_output c.args.output.now in
    let xs = c.as_slice-writer-items.result.now in
    let x : ℕ = get_or xs c.loop-writer.writer-index 0 in
    let g : ℕ → List AffineSystem = λ writer. map (later_write program output writer) (levels program output.statement writer) in
    let each : c.level_count-at.result ≡ length (g x) = c.level_count-at.ensures.count ∙ sym (length-levels (later_write program output x) (level_count program output.statement x)) in
    let h : AllHold (claims_from 24 c.args.place.now c.loop-writer.at (g x) output.later) = c.in_ok-levels_shown.ensures in
    record {
      room = writers-room g xs 24 c.args.place.now c.loop-writer.writer-index c.loop-writer.at c.level_count-at.result output.later c.loop-writer-test.true each c.loop-writer.invariant.room;
      decided = λ later more. c.loop-writer.invariant.decided later
          (writers-go g xs 24 c.args.place.now c.loop-writer.writer-index c.loop-writer.at c.level_count-at.result output.later c.loop-writer-test.true each c.loop-writer.invariant.room later h more);
    }

pub returns : goal.returns
returns c =
    let program = meaning c.args.program.now in
    let output : OutputClaim = claim_of_output c.args.output.now in
    let g : ℕ → List AffineSystem = λ writer. map (later_write program output writer) (levels program output.statement writer) in
    c.loop-writer.invariant.decided (Ok tt) (writers-end g c.as_slice-writer-items.result.now 24 c.args.place.now c.loop-writer.writer-index c.loop-writer.at output.later c.loop-writer-test.false)
