use Rattle.std.proofs.Common.{◌≡◌, ℕ, Ok, subst}
use Rattle.json_values.specs.View.{json_data}
use Rattle.affine_program.specs.Parts.{meaning}
use Rattle.json_parts.specs.Outcome.{Fails}
use Rattle.tile_sched.specs.Schedules.{rows_of, key_variables}
use Rattle.tile_sched.specs.Reading.{reads_keys, reads_all}
use Rattle.tile_sched.proofs.RowLoop.{goes_on, ends, is_done, pushed}
use Rattle.tile_sched.proofs.reading.rows.Goals as goal

pub loop-i-preserved : goal.loop-i-preserved
loop-i-preserved c =
    let read : reads_keys c.first_count-count.result (key_variables (meaning c.args.program.now) c.loop-i.i) (json_data c.index-values-i.result) ≡ Ok c.in-Ok.found.items =
    subst (λ (n : ℕ). reads_keys c.first_count-count.result n (json_data c.index-values-i.result) ≡ Ok c.in-Ok.found.items) c.variables_of.ensures.value c.in-Ok.ensures in
    rw (pushed c.loop-i.rows.items c.push.new.self.items c.in-Ok.found c.in_ok-push-in-Ok.ensures.items)
    (goes_on (meaning c.args.program.now) c.first_count-count.result (rows_of c.loop-i.rows.items) c.in_ok-values.values.now c.loop-i.i c.index-values-i.result c.in-Ok.found.items (reads_all (meaning c.args.program.now) (json_data c.args.value.now))
    c.loop-i-test.true c.index-values-i.is read c.loop-i.invariant)

pub returns-in-Err : goal.returns-in-Err
returns-in-Err c =
    let read : Fails c.in-Err.error (reads_keys c.first_count-count.result (key_variables (meaning c.args.program.now) c.loop-i.i) (json_data c.index-values-i.result)) =
    subst (λ (n : ℕ). Fails c.in-Err.error (reads_keys c.first_count-count.result n (json_data c.index-values-i.result))) c.variables_of.ensures.value c.in-Err.ensures in
    ends (meaning c.args.program.now) c.first_count-count.result (rows_of c.loop-i.rows.items) c.in_ok-values.values.now c.loop-i.i c.index-values-i.result c.in-Err.error c.under.result (reads_all (meaning c.args.program.now) (json_data c.args.value.now))
    c.loop-i-test.true c.index-values-i.is read c.under.ensures c.loop-i.invariant

pub returns : goal.returns
returns c =
    is_done (meaning c.args.program.now) c.first_count-count.result (rows_of c.loop-i.rows.items) c.in_ok-values.values.now c.loop-i.i (reads_all (meaning c.args.program.now) (json_data c.args.value.now)) c.loop-i-test.false c.loop-i.invariant
