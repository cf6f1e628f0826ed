use Rattle.std.proofs.Common.{flat_map, ◌-◌, ◌≡◌, ◌∙◌, List, sym, subst, ℕ, map, length}
use Rattle.std.specs.List.{range_with_len}
use Rattle.std.specs.Prelude.{Ok}
use Rattle.iolb_model.specs.Form.{AffineForm}
use Rattle.affine_form.specs.System.{AffineSystem}
use Rattle.affine_program.specs.Parts.{meaning}
use Rattle.dep_quast.specs.Context.{before_reader, after_source}
use Rattle.claims.specs.Claims.{AllHold, IsRefusal}
use Rattle.dep_quast.specs.Levels.{levels, level_count}
use Rattle.dep_quast.specs.Views.{read_of, claim_of}
use Rattle.claims.proofs.Found.{handed-on}
use Rattle.claims.proofs.Pointless.{claims_from}
use Rattle.dep_quast.proofs.Chunks.{afters-stop, afters-go, afters-end, levels-room, length-levels}
use Rattle.dep_quast.proofs.writes_shown.levels_between_shown.Goals as goal

pub returns-in_err-levels_shown : goal.returns-in_err-levels_shown
returns-in_err-levels_shown c =
    let program = meaning c.args.program.now in
    let reader = read_of c.args.reader in
    let on : List AffineForm → List AffineSystem = λ rows. map (before_reader program reader c.args.writer rows) (levels program c.args.writer reader.statement) in
    let g : ℕ → List AffineSystem = λ after. on (after_source program reader c.args.writer c.args.rows.now (claim_of c.args.claimed.now) after) in
    c.loop-after.invariant.decided c.from_residual-in_err-levels_shown.result
    (handed-on (claims_from 6 c.args.place.now c.loop-after.at (flat_map g (range_with_len c.loop-after.after (c.level_count-after-end.result - c.loop-after.after))) c.args.claimed.now.between.now) c.in_err-levels_shown.field-0.0 c.from_residual-in_err-levels_shown.result c.from_residual-in_err-levels_shown.ensures
    (afters-stop g c.level_count-many.result (λ k. length-levels (before_reader program reader c.args.writer (after_source program reader c.args.writer c.args.rows.now (claim_of c.args.claimed.now) k)) (level_count program c.args.writer reader.statement) ∙ sym c.level_count-many.ensures.count)
    6 c.args.place.now c.loop-after.after c.level_count-after-end.result c.loop-after.at c.args.claimed.now.between.now c.loop-after-test.true c.loop-after.invariant.room
    c.in_err-levels_shown.field-0.0
    (subst (λ (rows : List AffineForm). IsRefusal (claims_from 6 c.args.place.now c.loop-after.at (on rows) c.args.claimed.now.between.now) c.in_err-levels_shown.field-0.0) (c.as_slice.ensures.value ∙ c.in_ok-rows.ensures.rows) c.in_err-levels_shown.ensures)))

pub loop-after-preserved : goal.loop-after-preserved
loop-after-preserved c =
    let program = meaning c.args.program.now in
    let reader = read_of c.args.reader in
    let on : List AffineForm → List AffineSystem = λ rows. map (before_reader program reader c.args.writer rows) (levels program c.args.writer reader.statement) in
    let g : ℕ → List AffineSystem = λ after. on (after_source program reader c.args.writer c.args.rows.now (claim_of c.args.claimed.now) after) in
    let each : (k : ℕ) → length (g k) ≡ c.level_count-many.result =
    λ k. length-levels (before_reader program reader c.args.writer (after_source program reader c.args.writer c.args.rows.now (claim_of c.args.claimed.now) k)) (level_count program c.args.writer reader.statement) ∙ sym c.level_count-many.ensures.count in
    record {
      room = levels-room g c.level_count-many.result each c.loop-after.after c.level_count-after-end.result c.loop-after.at (length c.args.claimed.now.between.now) c.loop-after-test.true c.loop-after.invariant.room;
      decided = λ later h. c.loop-after.invariant.decided later
          (afters-go g c.level_count-many.result each 6 c.args.place.now c.loop-after.after c.level_count-after-end.result c.loop-after.at c.args.claimed.now.between.now c.loop-after-test.true c.loop-after.invariant.room
          later (subst (λ (rows : List AffineForm). AllHold (claims_from 6 c.args.place.now c.loop-after.at (on rows) c.args.claimed.now.between.now)) (c.as_slice.ensures.value ∙ c.in_ok-rows.ensures.rows) c.in_ok-levels_shown.ensures) h);
    }

pub returns : goal.returns
returns c =
    let program = meaning c.args.program.now in
    let reader = read_of c.args.reader in
    let g : ℕ → List AffineSystem =
    λ after. map (before_reader program reader c.args.writer (after_source program reader c.args.writer c.args.rows.now (claim_of c.args.claimed.now) after)) (levels program c.args.writer reader.statement) in
    c.loop-after.invariant.decided (Ok tt) (afters-end g 6 c.args.place.now c.loop-after.at c.loop-after.after c.level_count-after-end.result c.args.claimed.now.between.now c.loop-after-test.false)
