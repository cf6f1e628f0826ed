use Rattle.store_bound.proofs.Exactness.{refusals-once, stores-give-one, stores-have-counts, stores-stand}
use Rattle.store_bound.proofs.law.stores_are_exact.Goals as goal

pub returns-clause-stand : goal.returns-clause-stand
returns-clause-stand c = stores-stand

pub returns-clause-counts : goal.returns-clause-counts
returns-clause-counts c = stores-have-counts

pub returns-clause-one : goal.returns-clause-one
returns-clause-one c = stores-give-one

pub returns-clause-refused : goal.returns-clause-refused
returns-clause-refused c = refusals-once
