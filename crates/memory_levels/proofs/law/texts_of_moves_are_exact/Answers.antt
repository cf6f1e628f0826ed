-- A text of moves says one thing.
use Rattle.memory_levels.proofs.Reading.{moves_or_fault, texts_have_one_fault, texts_have_one_list}
use Rattle.memory_levels.proofs.law.texts_of_moves_are_exact.Goals as goal

pub returns-clause-moves : goal.returns-clause-moves
returns-clause-moves c = texts_have_one_list

pub returns-clause-fault : goal.returns-clause-fault
returns-clause-fault c = texts_have_one_fault

pub returns-clause-apart : goal.returns-clause-apart
returns-clause-apart c = moves_or_fault
