use Rattle.affine_program.specs.Parts.{meaning}
use Rattle.store_terms.specs.Claims.{claim_of_output}
use Rattle.last_writers.specs.Outputs.{IsSoundOutput}
use Rattle.last_writers.proofs.checker.check_output.Goals as goal

sound : (c : goal.In_ok-claims_shown) → IsSoundOutput (meaning c.args.program.now) (claim_of_output c.args.output.now)
sound c =
    c.valid_outputs_are_sound.ensures (meaning c.args.program.now) c.args.place.now (claim_of_output c.args.output.now) c.params-params.ensures.kept.well_formed c.requires.fits
    c.in_ok-claims_shown.ensures

pub returns-clause-sound : goal.returns-clause-sound
returns-clause-sound c = sound c

pub returns-clause-covered : goal.returns-clause-covered
returns-clause-covered c = c.output_pieces_cover.ensures (meaning c.args.program.now) (claim_of_output c.args.output.now) c.params-params.ensures.kept.well_formed (sound c)
