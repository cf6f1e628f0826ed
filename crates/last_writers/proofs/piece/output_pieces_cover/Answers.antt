use Rattle.last_writers.proofs.OutputPieces.{output-covers}
use Rattle.last_writers.proofs.piece.output_pieces_cover.Goals as goal

pub returns : goal.returns
returns c = output-covers
