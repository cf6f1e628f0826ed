use Rattle.certificate_parts.proofs.ReadParts.{multipliers-read}
use Rattle.certificate_parts.proofs.multipliers.OfMultipliersPart.write.Goals as goal

pub returns-clause-read : goal.returns-clause-read
returns-clause-read c =
    multipliers-read c.args.part.now c.c-scale.ensures.some c.c-scale.ensures.small c.m0-rest.ensures.small c.m-weights.ensures.small c.m-weights.ensures.rising c.requires
