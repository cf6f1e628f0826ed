-- The bound of the certificate holds at each level.
use Rattle.affine_program.specs.Parts.{meaning}
use Rattle.iolb_check.specs.Bounds.{bound_of}
use Rattle.memory_levels.proofs.SightLoads.{bounds_hold_at_levels}
use Rattle.memory_levels.proofs.level_bounds.levels.Goals as goal

pub returns-in-Ok-values_at_levels : goal.returns-in-Ok-values_at_levels
returns-in-Ok-values_at_levels c = (
  c.in-Ok.bound,
  record {
    assumed = c.in-Ok.ensures.assumed;
    meets = c.in-Ok.ensures.meets;
    holds = bounds_hold_at_levels (meaning c.args.program.now) (bound_of c.in-Ok.bound) c.in-Ok.ensures.holds;
  },
  c.in-Ok-values_at_levels.ensures,
)

pub returns-in-Err-OutsideAssumption : goal.returns-in-Err-OutsideAssumption
returns-in-Err-OutsideAssumption c =
    let unmet = rw c.in-Err-OutsideAssumption.field-0-is at c.in-Err-OutsideAssumption.ensures in (
      c.in-Ok.bound,
      record {
        assumed = c.in-Ok.ensures.assumed;
        meets = c.in-Ok.ensures.meets;
        holds = bounds_hold_at_levels (meaning c.args.program.now) (bound_of c.in-Ok.bound) c.in-Ok.ensures.holds;
      },
      unmet,
    )

pub returns-in-Err-Wide : goal.returns-in-Err-Wide
returns-in-Err-Wide c =
    let wide = rw c.in-Err-Wide.field-0-is at c.in-Err-Wide.ensures in (
      c.in-Ok.bound,
      record {
        assumed = c.in-Ok.ensures.assumed;
        meets = c.in-Ok.ensures.meets;
        holds = bounds_hold_at_levels (meaning c.args.program.now) (bound_of c.in-Ok.bound) c.in-Ok.ensures.holds;
      },
      wide.0,
      wide.1,
    )
