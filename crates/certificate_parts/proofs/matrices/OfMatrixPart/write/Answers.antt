use Rattle.certificate_parts.proofs.ReadParts.{matrix-read}
use Rattle.certificate_parts.proofs.matrices.OfMatrixPart.write.Goals as goal

pub returns-clause-read : goal.returns-clause-read
returns-clause-read c = matrix-read c.args.part.now c.cells-cells.ensures.shape c.cells-cells.ensures.small
