use Rattle.std.proofs.Common.{flat_map, drop, ◌≡◌, ◌∙◌, ◌<◌, List, ap, sym, subst, ℕ, map, length, get_or, arith}
use Rattle.std.specs.Prelude.{Ok}
use Rattle.std.proofs.lemmas.List.{length-map}
use Rattle.iolb_model.specs.Form.{AffineForm}
use Rattle.affine_form.specs.System.{AffineSystem}
use Rattle.base_laws.proofs.Lists.{All-at}
use Rattle.affine_program.specs.Parts.{meaning, statement_of}
use Rattle.dep_quast.specs.Context.{before_reader, earlier_write}
use Rattle.claims.specs.Claims.{AllHold, IsRefusal}
use Rattle.dep_quast.specs.Levels.{levels, level_count, IsWriter}
use Rattle.dep_quast.specs.Views.{read_of}
use Rattle.claims.proofs.Found.{handed-on}
use Rattle.claims.proofs.Pointless.{claims_from}
use Rattle.dep_quast.proofs.Chunks.{length-levels, writers-stop, writers-go, writers-end, writers-room, writers-first}
use Rattle.dep_quast.proofs.writes_shown.earlier_shown.Goals as goal

pub levels_shown-requires-clause-enough : goal.levels_shown-requires-clause-enough
levels_shown-requires-clause-enough c =
    let program = meaning c.args.program.now in
    let reader = read_of c.args.reader in
    let xs = c.as_slice-writer-items.result.now in
    let x : ℕ = get_or xs c.loop-writer.writer-index 0 in
    let g : ℕ → List AffineSystem = λ writer. map (earlier_write program reader c.args.rows.now writer) (levels program writer reader.statement) in
    let each : level_count program x reader.statement ≡ length (g x) = sym (length-levels (earlier_write program reader c.args.rows.now x) (level_count program x reader.statement)) in
    omega (arith, each, writers-first g xs 6 c.args.place.now c.loop-writer.writer-index c.loop-writer.at (level_count program x reader.statement) c.args.shown.now c.loop-writer-test.true each c.loop-writer.invariant.room)

pub returns-in_err-levels_shown : goal.returns-in_err-levels_shown
returns-in_err-levels_shown c =
    let program = meaning c.args.program.now in
    let reader = read_of c.args.reader in
    let xs = c.as_slice-writer-items.result.now in
    let x : ℕ = get_or xs c.loop-writer.writer-index 0 in
    let g : ℕ → List AffineSystem = λ writer. map (earlier_write program reader c.args.rows.now writer) (levels program writer reader.statement) in
    let each : level_count program x reader.statement ≡ length (g x) = sym (length-levels (earlier_write program reader c.args.rows.now x) (level_count program x reader.statement)) in
    let h : IsRefusal (claims_from 6 c.args.place.now c.loop-writer.at (g x) c.args.shown.now) c.in_err-levels_shown.field-0.0 =
    subst (λ (rows : List AffineForm). IsRefusal (claims_from 6 c.args.place.now c.loop-writer.at (map (before_reader program reader x rows) (levels program x reader.statement)) c.args.shown.now) c.in_err-levels_shown.field-0.0)
    (c.as_slice.ensures.value ∙ c.in_ok-written.ensures.rows) c.in_err-levels_shown.ensures in
    c.loop-writer.invariant.decided c.from_residual-in_err-levels_shown.result
    (handed-on (claims_from 6 c.args.place.now c.loop-writer.at (flat_map g (drop c.loop-writer.writer-index xs)) c.args.shown.now) c.in_err-levels_shown.field-0.0 c.from_residual-in_err-levels_shown.result c.from_residual-in_err-levels_shown.ensures
    (writers-stop g xs 6 c.args.place.now c.loop-writer.writer-index c.loop-writer.at (level_count program x reader.statement) c.args.shown.now c.loop-writer-test.true each c.loop-writer.invariant.room
    c.in_err-levels_shown.field-0.0 h))

pub level_count-at-requires-clause-t_there : goal.level_count-at-requires-clause-t_there
level_count-at-requires-clause-t_there c =
    let program = meaning c.args.program.now in
    let writes = All-at (IsWriter program c.reference.result.now.array) c.in_ok-all.all.items c.loop-writer.writer-index 0 c.in_ok-all.ensures.each (omega (arith, ap length c.as_slice-writer-items.ensures.value, c.loop-writer-test.true)) in
    let below : get_or c.in_ok-all.all.items c.loop-writer.writer-index 0 < length c.args.program.now.statements = omega (arith, writes.0, length-map c.args.program.now.statements statement_of) in
    subst (λ (ws : List ℕ). get_or ws c.loop-writer.writer-index 0 < length c.args.program.now.statements) (sym c.as_slice-writer-items.ensures.value) below

pub level_count-at-requires-clause-s_there : goal.level_count-at-requires-clause-s_there
level_count-at-requires-clause-s_there c = omega (arith, c.requires.read.statement, length-map c.args.program.now.statements statement_of)

pub loop-writer-preserved : goal.loop-writer-preserved
loop-writer-preserved c =
    let program = meaning c.args.program.now in
    let reader = read_of c.args.reader in
    let xs = c.as_slice-writer-items.result.now in
    let x : ℕ = get_or xs c.loop-writer.writer-index 0 in
    let g : ℕ → List AffineSystem = λ writer. map (earlier_write program reader c.args.rows.now writer) (levels program writer reader.statement) in
    let each : c.level_count-at.result ≡ length (g x) = c.level_count-at.ensures.count ∙ sym (length-levels (earlier_write program reader c.args.rows.now x) (level_count program x reader.statement)) in
    let h : AllHold (claims_from 6 c.args.place.now c.loop-writer.at (g x) c.args.shown.now) =
    subst (λ (rows : List AffineForm). AllHold (claims_from 6 c.args.place.now c.loop-writer.at (map (before_reader program reader x rows) (levels program x reader.statement)) c.args.shown.now))
    (c.as_slice.ensures.value ∙ c.in_ok-written.ensures.rows) c.in_ok-levels_shown.ensures in
    record {
      room = writers-room g xs 6 c.args.place.now c.loop-writer.writer-index c.loop-writer.at c.level_count-at.result c.args.shown.now c.loop-writer-test.true each c.loop-writer.invariant.room;
      decided = λ later more. c.loop-writer.invariant.decided later
          (writers-go g xs 6 c.args.place.now c.loop-writer.writer-index c.loop-writer.at c.level_count-at.result c.args.shown.now c.loop-writer-test.true each c.loop-writer.invariant.room later h more);
    }

pub returns : goal.returns
returns c =
    let program = meaning c.args.program.now in
    let reader = read_of c.args.reader in
    let g : ℕ → List AffineSystem = λ writer. map (earlier_write program reader c.args.rows.now writer) (levels program writer reader.statement) in
    c.loop-writer.invariant.decided (Ok tt) (writers-end g c.as_slice-writer-items.result.now 6 c.args.place.now c.loop-writer.writer-index c.loop-writer.at c.args.shown.now c.loop-writer-test.false)
