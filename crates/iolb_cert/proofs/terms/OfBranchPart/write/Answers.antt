use Rattle.std.proofs.Common.{refl}
use Rattle.iolb_check.specs.Claims.{claim_of_term}
use Rattle.iolb_cert.specs.Read.{IsTerm}
use Rattle.iolb_cert.specs.Written.{written_term}
use Rattle.std.proofs.Common.{map}
use Rattle.json_parts.proofs.Related.{all-mapped}
use Rattle.iolb_cert.proofs.terms.OfBranchPart.write.Goals as goal

pub returns-clause-is : goal.returns-clause-is
returns-clause-is c = let terms = c.args.part.now.terms.items in (all-mapped IsTerm claim_of_term (map written_term terms) terms c.in_ok-value.ensures.are.1.0, refl)
