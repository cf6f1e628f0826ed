use Rattle.find_terms.proofs.AcceptLaws.{openings-meet, openings-small}
use Rattle.find_terms.proofs.law.openings_are_accepted.Goals as goal

pub returns-clause-conditions : goal.returns-clause-conditions
returns-clause-conditions c = openings-meet

pub returns-clause-limits : goal.returns-clause-limits
returns-clause-limits c = openings-small
