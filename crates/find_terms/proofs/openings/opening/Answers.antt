use Rattle.std.proofs.Common.{arith}
use Rattle.affine_program.specs.Parts.{meaning}
use Rattle.find_terms.proofs.ReadLaws.{openings-empty}
use Rattle.find_terms.proofs.openings.opening.Goals as goal

pub returns-then-len-eq0 : goal.returns-then-len-eq0
returns-then-len-eq0 c = openings-empty (meaning c.args.program.now) c.in_ok-colds.colds.items (omega (arith, c.len.ensures, c.if-len-eq0.true)) c.in_ok-colds.ensures
