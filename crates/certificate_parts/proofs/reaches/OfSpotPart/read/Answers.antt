use Rattle.std.proofs.Common.{refl}
use Rattle.certificate_parts.specs.Reaches.{spot_made, spot_shape}
use Rattle.certificate_parts.proofs.reaches.OfSpotPart.read.Goals as goal

pub returns : goal.returns
unfolding spot_shape
returns c = let said = c.in_ok-point.ensures in (spot_made said.0, rw said.1 refl, rw (said.2.0, said.2.1.0) refl)
