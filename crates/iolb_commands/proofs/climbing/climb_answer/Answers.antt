use Rattle.std.proofs.Common.{refl, ap, subst, List}
use Rattle.std.specs.Prelude.{Err}
use Rattle.iolb_model.specs.Graph.{ComputationGraph}
use Rattle.iolb_model.specs.declared.tower.TowerMove.{TowerMove}
use Rattle.affine_program.specs.Parts.{meaning}
use Rattle.loop_graph.specs.Builds.{Builds}
use Rattle.loop_graph.specs.declared.fault.GraphFault.{GraphFault}
use Rattle.memory_levels.specs.MovesText.{ReadsMoves}
use Rattle.memory_levels.specs.declared.moves_error.MovesError.{MovesError}
use Rattle.iolb_commands.specs.declared.stop.OtherFault.TheVariants.{Moves}
use Rattle.iolb_commands.specs.declared.stop.Refusal.TheVariants.{Assumption}
use Rattle.iolb_commands.specs.declared.stop.Stop.TheVariants.{OtherText, Refused}
use Rattle.iolb_commands.specs.Phases.{ClimbComes, onward, stopping, stops}
use Rattle.iolb_commands.specs.Written.{end_of}
use Rattle.iolb_commands.proofs.climbing.climb_answer.Goals as goal

pub returns-in-Err-Line-clause-comes : goal.returns-in-Err-Line-clause-comes
returns-in-Err-Line-clause-comes c =
    stopping c.in-Err-Line.place (subst (λ (error : MovesError). ReadsMoves c.args.bytes.now (Err error)) c.in-Err-Line.field-0-is c.in-Err-Line.ensures)
    (ap (λ place. stops (OtherText (Moves place))) c.in-Err-Line.place-is)

pub returns-in-Err-OutsideAssumption-clause-comes : goal.returns-in-Err-OutsideAssumption-clause-comes
returns-in-Err-OutsideAssumption-clause-comes c =
    onward c.in-Ok.moves.items c.in-Ok.ensures
    (stopping c.in-Err-OutsideAssumption.number
    (subst (λ (fault : GraphFault). Builds (meaning c.args.program.now) c.args.sizes.now (Err fault)) c.in-Err-OutsideAssumption.field-0-is c.in-Err-OutsideAssumption.ensures)
    (ap (λ number. stops (Refused (Assumption number))) c.in-Err-OutsideAssumption.number-is))

pub returns-in-Err-TooMany-clause-comes : goal.returns-in-Err-TooMany-clause-comes
returns-in-Err-TooMany-clause-comes c =
    let far = subst (λ (fault : GraphFault). Builds (meaning c.args.program.now) c.args.sizes.now (Err fault)) c.in-Err-TooMany.field-0-is c.in-Err-TooMany.ensures in
    onward c.in-Ok.moves.items c.in-Ok.ensures (onward tt far.0 (stopping tt far.1 refl))

pub returns-clause-comes : goal.returns-clause-comes
returns-clause-comes c =
    let built = c.in-Ok-build.ensures in
    onward c.in-Ok.moves.items c.in-Ok.ensures (onward tt built.0 (onward tt built.1
    (subst (λ (graph : ComputationGraph). ClimbComes c.args.capacities.now graph c.in-Ok.moves.items (end_of c.play_answer.result)) built.2
    (subst (λ (moves : List TowerMove). ClimbComes c.args.capacities.now c.in-Ok-build.graph moves (end_of c.play_answer.result)) c.as_slice.ensures.value c.play_answer.ensures.comes))))
