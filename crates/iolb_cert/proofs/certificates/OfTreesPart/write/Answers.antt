use Rattle.std.specs.Prelude.{map}
use Rattle.dep_quast.specs.Quasts.{row_trees}
use Rattle.json_parts.proofs.Back.{all_read}
use Rattle.certificate_parts.specs.Trees.{trees_shape}
use Rattle.iolb_cert.proofs.certificates.OfTreesPart.write.Goals as goal

pub returns-clause-read : goal.returns-clause-read
returns-clause-read c = rw (← c.rows.ensures) (all_read trees_shape.reads trees_shape.data_of (map row_trees c.rows.result.now) c.in_ok-value.ensures.read)
