use Rattle.std.proofs.Common.{map, refl}
use Rattle.iolb_check.specs.Claims.{claim_of_branch}
use Rattle.iolb_cert.specs.Read.{IsBranch}
use Rattle.iolb_cert.specs.Written.{written_branch}
use Rattle.json_parts.proofs.Related.{all-mapped}
use Rattle.iolb_cert.proofs.certificates.OfCertificatePart.write.Goals as goal

pub returns-clause-is : goal.returns-clause-is
returns-clause-is c =
    let branches = c.args.part.now.branches in (refl, all-mapped IsBranch claim_of_branch (map written_branch branches) branches (rw (← c.branches-branches.ensures.branches) c.in_ok-value.ensures.are.0))
