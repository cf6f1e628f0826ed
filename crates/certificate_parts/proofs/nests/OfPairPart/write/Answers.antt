use Rattle.certificate_parts.proofs.ReadParts.{pair-read}
use Rattle.certificate_parts.proofs.nests.OfPairPart.write.Goals as goal

pub returns-clause-read : goal.returns-clause-read
returns-clause-read c = pair-read c.args.part.now c.in_ok-write.ensures.read c.in_ok-write-2.ensures.read
