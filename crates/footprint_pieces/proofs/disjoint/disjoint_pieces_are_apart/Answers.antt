use Rattle.footprint_pieces.proofs.SharedVertices.{pieces-apart, pairwise-apart}
use Rattle.footprint_pieces.proofs.disjoint.disjoint_pieces_are_apart.Goals as goal

pub returns : goal.returns
returns c = record { two = pieces-apart; several = pairwise-apart }
