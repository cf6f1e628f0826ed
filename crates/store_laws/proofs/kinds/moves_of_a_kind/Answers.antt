use Rattle.store_laws.proofs.MovesTaken.{different_are_taken, disjoint_add_up, loads_are_a_kind}
use Rattle.store_laws.proofs.kinds.moves_of_a_kind.Goals as goal

pub returns-clause-loads : goal.returns-clause-loads
returns-clause-loads c = loads_are_a_kind

pub returns-clause-many : goal.returns-clause-many
returns-clause-many c = different_are_taken

pub returns-clause-disjoint : goal.returns-clause-disjoint
returns-clause-disjoint c = disjoint_add_up
