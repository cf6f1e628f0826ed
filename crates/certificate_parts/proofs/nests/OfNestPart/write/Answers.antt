use Rattle.json_parts.proofs.Back.{few_read}
use Rattle.certificate_parts.specs.Nests.{pair_shape}
use Rattle.certificate_parts.proofs.nests.OfNestPart.write.Goals as goal

pub returns-clause-read : goal.returns-clause-read
returns-clause-read c = few_read 6 pair_shape.reads pair_shape.data_of c.args.part.now c.requires.1 (rw (← c.bounds.ensures) c.in_ok-value.ensures.read)
