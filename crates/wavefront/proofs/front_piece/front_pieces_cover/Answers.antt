use Rattle.wavefront.proofs.FrontCover.{front-covers}
use Rattle.wavefront.proofs.front_piece.front_pieces_cover.Goals as goal

pub returns : goal.returns
returns c = front-covers
