use Rattle.std.proofs.Common.{flat_map, drop, ◌≡◌, ◌∙◌, ◌*◌, List, sym, subst, ℕ, map, length, get_or, arith}
use Rattle.std.specs.Prelude.{Ok}
use Rattle.iolb_model.specs.Form.{AffineForm}
use Rattle.affine_form.specs.System.{AffineSystem}
use Rattle.affine_program.specs.Parts.{meaning}
use Rattle.dep_quast.specs.Context.{before_reader, after_source, write_between}
use Rattle.claims.specs.Claims.{AllHold, IsRefusal}
use Rattle.dep_quast.specs.Levels.{levels, level_count}
use Rattle.dep_quast.specs.Views.{read_of, claim_of}
use Rattle.claims.proofs.Found.{handed-on}
use Rattle.claims.proofs.Pointless.{claims_from}
use Rattle.dep_quast.proofs.Chunks.{flat-many, length-levels, writers-stop, writers-go, writers-end, writers-room, writers-first}
use Rattle.dep_quast.proofs.writes_shown.between_shown.Goals as goal

pub levels_between_shown-requires-clause-enough : goal.levels_between_shown-requires-clause-enough
levels_between_shown-requires-clause-enough c =
    let program = meaning c.args.program.now in
    let reader = read_of c.args.reader in
    let xs = c.as_slice-writer-items.result.now in
    let x : ℕ = get_or xs c.loop-writer.writer-index 0 in
    let claim = claim_of c.args.claimed.now in
    let g : ℕ → List AffineSystem =
    λ writer. flat_map (λ after. map (write_between program reader c.args.rows.now claim writer after) (levels program writer reader.statement)) (levels program claim.statement writer) in
    let many : ℕ = level_count program claim.statement x * level_count program x reader.statement in
    let each : many ≡ length (g x) =
    sym (flat-many (λ after. map (write_between program reader c.args.rows.now claim x after) (levels program x reader.statement)) (level_count program x reader.statement)
    (λ k. length-levels (write_between program reader c.args.rows.now claim x k) (level_count program x reader.statement)) 0 (level_count program claim.statement x)) in
    omega (arith, each, writers-first g xs 6 c.args.place.now c.loop-writer.writer-index c.loop-writer.at many c.args.claimed.now.between.now c.loop-writer-test.true each c.loop-writer.invariant.room)

pub returns-in_err-levels_between_shown : goal.returns-in_err-levels_between_shown
returns-in_err-levels_between_shown c =
    let program = meaning c.args.program.now in
    let reader = read_of c.args.reader in
    let xs = c.as_slice-writer-items.result.now in
    let x : ℕ = get_or xs c.loop-writer.writer-index 0 in
    let claim = claim_of c.args.claimed.now in
    let g : ℕ → List AffineSystem =
    λ writer. flat_map (λ after. map (write_between program reader c.args.rows.now claim writer after) (levels program writer reader.statement)) (levels program claim.statement writer) in
    let many : ℕ = level_count program claim.statement x * level_count program x reader.statement in
    let each : many ≡ length (g x) =
    sym (flat-many (λ after. map (write_between program reader c.args.rows.now claim x after) (levels program x reader.statement)) (level_count program x reader.statement)
    (λ k. length-levels (write_between program reader c.args.rows.now claim x k) (level_count program x reader.statement)) 0 (level_count program claim.statement x)) in
    let h : IsRefusal (claims_from 6 c.args.place.now c.loop-writer.at (g x) c.args.claimed.now.between.now) c.in_err-levels_between_shown.field-0.0 =
    subst (λ (rows : List AffineForm). IsRefusal (claims_from 6 c.args.place.now c.loop-writer.at (flat_map (λ after. map (before_reader program reader x (after_source program reader x rows claim after))
    (levels program x reader.statement)) (levels program claim.statement x)) c.args.claimed.now.between.now) c.in_err-levels_between_shown.field-0.0)
    (c.as_slice.ensures.value ∙ c.in_ok-written.ensures.rows) c.in_err-levels_between_shown.ensures in
    c.loop-writer.invariant.decided c.from_residual-in_err-levels_between_shown.result
    (handed-on (claims_from 6 c.args.place.now c.loop-writer.at (flat_map g (drop c.loop-writer.writer-index xs)) c.args.claimed.now.between.now) c.in_err-levels_between_shown.field-0.0 c.from_residual-in_err-levels_between_shown.result c.from_residual-in_err-levels_between_shown.ensures
    (writers-stop g xs 6 c.args.place.now c.loop-writer.writer-index c.loop-writer.at many c.args.claimed.now.between.now c.loop-writer-test.true each c.loop-writer.invariant.room
    c.in_err-levels_between_shown.field-0.0 h))

pub loop-writer-preserved : goal.loop-writer-preserved
loop-writer-preserved c =
    let program = meaning c.args.program.now in
    let reader = read_of c.args.reader in
    let xs = c.as_slice-writer-items.result.now in
    let x : ℕ = get_or xs c.loop-writer.writer-index 0 in
    let claim = claim_of c.args.claimed.now in
    let g : ℕ → List AffineSystem =
    λ writer. flat_map (λ after. map (write_between program reader c.args.rows.now claim writer after) (levels program writer reader.statement)) (levels program claim.statement writer) in
    let many : ℕ = level_count program claim.statement x * level_count program x reader.statement in
    let each : many ≡ length (g x) =
    sym (flat-many (λ after. map (write_between program reader c.args.rows.now claim x after) (levels program x reader.statement)) (level_count program x reader.statement)
    (λ k. length-levels (write_between program reader c.args.rows.now claim x k) (level_count program x reader.statement)) 0 (level_count program claim.statement x)) in
    let counted : c.levels_between-at.result ≡ length (g x) = c.levels_between-at.ensures.many ∙ each in
    let h : AllHold (claims_from 6 c.args.place.now c.loop-writer.at (g x) c.args.claimed.now.between.now) =
    subst (λ (rows : List AffineForm). AllHold (claims_from 6 c.args.place.now c.loop-writer.at (flat_map (λ after. map (before_reader program reader x (after_source program reader x rows claim after))
    (levels program x reader.statement)) (levels program claim.statement x)) c.args.claimed.now.between.now))
    (c.as_slice.ensures.value ∙ c.in_ok-written.ensures.rows) c.in_ok-levels_between_shown.ensures in
    record {
      room = writers-room g xs 6 c.args.place.now c.loop-writer.writer-index c.loop-writer.at c.levels_between-at.result c.args.claimed.now.between.now c.loop-writer-test.true counted c.loop-writer.invariant.room;
      decided = λ later more. c.loop-writer.invariant.decided later
          (writers-go g xs 6 c.args.place.now c.loop-writer.writer-index c.loop-writer.at c.levels_between-at.result c.args.claimed.now.between.now c.loop-writer-test.true counted c.loop-writer.invariant.room later h more);
    }

pub returns : goal.returns
returns c =
    let program = meaning c.args.program.now in
    let reader = read_of c.args.reader in
    let claim = claim_of c.args.claimed.now in
    let g : ℕ → List AffineSystem =
    λ writer. flat_map (λ after. map (write_between program reader c.args.rows.now claim writer after) (levels program writer reader.statement)) (levels program claim.statement writer) in
    c.loop-writer.invariant.decided (Ok tt) (writers-end g c.as_slice-writer-items.result.now 6 c.args.place.now c.loop-writer.writer-index c.loop-writer.at c.args.claimed.now.between.now c.loop-writer-test.false)
