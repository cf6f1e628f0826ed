use Rattle.std.proofs.Common.{refl}
use Rattle.iolb_check.specs.Claims.{claim_of_certificate}
use Rattle.affine_program.specs.Parts.{meaning}
use Rattle.iolb_commands.proofs.Made.{bounded_so, kept_short}
use Rattle.iolb_commands.proofs.bounding.texts.Goals as goal

pub returns-clause-good : goal.returns-clause-good
returns-clause-good c =
    let accepted = c.in_ok-accepted.ensures.accepted in
    bounded_so c.args.program.now (claim_of_certificate c.in_ok-accepted.accepted.certificate) c.in_ok-accepted.accepted.bound c.in_ok-accepted.accepted.text.items c.in_ok-bound.bound.items
    accepted.written accepted.gives.assumed accepted.gives.meets accepted.gives.holds c.in_ok-bound.ensures (
      c.in_ok-accepted.accepted.certificate,
      refl,
      accepted.text_is,
      c.in_ok-accepted.ensures.made,
      kept_short (meaning c.args.program.now) c.in_ok-accepted.accepted accepted.text_is c.in_ok-accepted.ensures.short,
    )
