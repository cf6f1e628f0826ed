use Rattle.std.proofs.Common.{refl}
use Rattle.certificate_parts.specs.Credits.{credit_made, credit_shape}
use Rattle.certificate_parts.proofs.credits.OfCreditPart.read.Goals as goal

pub returns : goal.returns
unfolding credit_shape
returns c =
    let said = c.in_ok-nest.ensures in (
      credit_made said.0,
      rw said.1 refl,
      record { nest = rw (said.2.0, said.2.1.1.0) refl; shown = rw (c.new.ensures, said.2.1.0) refl; sums = rw c.new.ensures said.2.1.1.1.0 },
    )
