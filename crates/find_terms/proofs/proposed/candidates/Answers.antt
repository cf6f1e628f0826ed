use Rattle.affine_program.specs.Parts.{meaning}
use Rattle.find_terms.proofs.AcceptLaws.{found-small}
use Rattle.find_terms.proofs.proposed.candidates.Goals as goal

pub returns-clause-small : goal.returns-clause-small
returns-clause-small c = found-small (meaning c.args.program.now) c.in_ok-opening.opening c.in_ok-opening.ensures
