use Rattle.wavefront.proofs.PiecesCover.{pieces-cover}
use Rattle.wavefront.proofs.pieces.cold_pieces_cover.Goals as goal

pub returns : goal.returns
returns c = pieces-cover
