-- What a boundary sees is the game of one fast memory.
use Rattle.memory_levels.proofs.Sight.{seen_are_allowed, seen_is_complete}
use Rattle.memory_levels.proofs.SightLoads.{seen_loads, seen_stores}
use Rattle.memory_levels.proofs.law.boundaries_see_pebblings.Goals as goal

pub returns-clause-allowed : goal.returns-clause-allowed
returns-clause-allowed c = seen_are_allowed

pub returns-clause-complete : goal.returns-clause-complete
returns-clause-complete c = seen_is_complete

pub returns-clause-loads : goal.returns-clause-loads
returns-clause-loads c = seen_loads

pub returns-clause-stores : goal.returns-clause-stores
returns-clause-stores c = seen_stores
