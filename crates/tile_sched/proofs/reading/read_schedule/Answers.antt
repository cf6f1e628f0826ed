use Rattle.std.proofs.Common.{subst}
use Rattle.std.specs.Prelude.{IfOk}
use Rattle.json_values.specs.View.{json_data}
use Rattle.affine_program.specs.Parts.{meaning}
use Rattle.tile_sched.specs.Schedules.{IsSchedule}
use Rattle.tile_sched.proofs.Fits.{schedule_fits}
use Rattle.tile_sched.proofs.reading.read_schedule.Goals as goal

pub returns-in-Ok-schedule-clause-fits : goal.returns-in-Ok-schedule-clause-fits
returns-in-Ok-schedule-clause-fits c = subst (λ read. IfOk read (IsSchedule (meaning c.args.program.now))) c.in-Ok-schedule.ensures (schedule_fits (meaning c.args.program.now) (json_data c.in-Ok.value))
