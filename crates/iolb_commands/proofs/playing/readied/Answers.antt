use Rattle.std.proofs.Common.{refl, ◌∙◌, ap, subst, ℕ}
use Rattle.std.specs.Prelude.{Err}
use Rattle.iolb_model.specs.Graph.{ComputationGraph, computation_graph}
use Rattle.affine_program.specs.Parts.{meaning}
use Rattle.pebble_replay.specs.Played.{played}
use Rattle.tile_sched.specs.Lines.{play_text}
use Rattle.tile_sched.specs.Plays.{Readies}
use Rattle.tile_sched.specs.Texts.{ReadsText}
use Rattle.tile_sched.specs.declared.error.SchedError.{SchedError}
use Rattle.tile_sched.specs.declared.unplayed.PlayFault.{PlayFault}
use Rattle.iolb_commands.specs.declared.stop.OtherFault.TheVariants.{Schedule}
use Rattle.iolb_commands.specs.declared.stop.Refusal.TheVariants.{Unplayed}
use Rattle.iolb_commands.specs.declared.stop.Stop.TheVariants.{OtherText, Refused}
use Rattle.iolb_commands.specs.Phases.{onward, saying, stopping, stops}
use Rattle.iolb_commands.proofs.playing.readied.Goals as goal

pub returns-in-Err-Fault-clause-comes : goal.returns-in-Err-Fault-clause-comes
returns-in-Err-Fault-clause-comes c =
    stopping c.in-Err-Fault.fault (subst (λ (error : SchedError). ReadsText (meaning c.args.program.now) c.args.bytes.now (Err error)) c.in-Err-Fault.field-0-is c.in-Err-Fault.ensures.read)
    (ap (λ fault. stops (OtherText (Schedule fault))) c.in-Err-Fault.fault-is)

pub returns-in-Ok-new-clause-comes : goal.returns-in-Ok-new-clause-comes
returns-in-Ok-new-clause-comes c =
    let play = c.in-Ok-new.play in
    let is = c.in-Ok-new.ensures.readies in
    onward c.in-Ok.schedule c.in-Ok.ensures.read (onward play.order is.can (saying _ _ (
      tt,
      ap (λ (graph : ComputationGraph). play_text (played graph play.s play.order)) is.graph
          ∙ ap (λ (n : ℕ). play_text (played (computation_graph (meaning c.args.program.now) c.args.sizes.now) n play.order)) is.pebbles,
      refl,
    ) refl))

pub returns-in-Err-Refused-clause-comes : goal.returns-in-Err-Refused-clause-comes
returns-in-Err-Refused-clause-comes c =
    onward c.in-Ok.schedule c.in-Ok.ensures.read
    (stopping c.in-Err-Refused.unplayed
    (subst (λ (fault : PlayFault). Readies (meaning c.args.program.now) c.in-Ok.schedule c.args.sizes.now c.args.s (Err fault)) c.in-Err-Refused.field-0-is c.in-Err-Refused.ensures.readies)
    (ap (λ unplayed. stops (Refused (Unplayed unplayed))) c.in-Err-Refused.unplayed-is))
