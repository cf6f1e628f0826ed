use Rattle.store_laws.proofs.StoredVertices.{last_stored, last_stores, loaded_stored, loaded_stores}
use Rattle.store_laws.proofs.stored.instances_are_stored.Goals as goal

pub returns-clause-loaded : goal.returns-clause-loaded
returns-clause-loaded c = loaded_stored

pub returns-clause-last : goal.returns-clause-last
returns-clause-last c = last_stored

pub returns-clause-loaded_ones : goal.returns-clause-loaded_ones
returns-clause-loaded_ones c = loaded_stores

pub returns-clause-last_ones : goal.returns-clause-last_ones
returns-clause-last_ones c = last_stores
