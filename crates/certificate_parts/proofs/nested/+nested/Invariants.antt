use Rattle.certificate_parts.proofs.nested.+nested.Given as goal

abbrev pub decreases-nested : goal.decreases-nested
decreases-nested g l = l.left
