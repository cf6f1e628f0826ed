use Rattle.find_terms.proofs.OfProjective.{certain-accepted}
use Rattle.find_terms.proofs.accepted.certain.Goals as goal

pub unreachable-requires : goal.unreachable-requires
unreachable-requires c =
    certain-accepted c.certified_are_accepted.ensures c.args.program.now c.args.certificate c.in_ok-accepted.field-0 c.requires c.in-None.is c.in_ok-accepted.ensures.none
