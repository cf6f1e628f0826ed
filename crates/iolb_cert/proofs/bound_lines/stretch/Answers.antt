use Rattle.std.proofs.Common.{append_assoc}
use Rattle.iolb_cert.proofs.bound_lines.stretch.Goals as goal

pub returns : goal.returns
returns c = simp append_assoc (c.in_ok-format.ensures.ok)
