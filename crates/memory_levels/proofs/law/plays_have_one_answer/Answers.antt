-- A play has one answer.
use Rattle.memory_levels.proofs.Climbing.{complete_or_unfinished, first_illegal_is_one, first_unfinished_is_one, legal_or_illegal}
use Rattle.memory_levels.proofs.law.plays_have_one_answer.Goals as goal

pub returns-clause-illegal : goal.returns-clause-illegal
returns-clause-illegal c = first_illegal_is_one

pub returns-clause-legal : goal.returns-clause-legal
returns-clause-legal c = legal_or_illegal

pub returns-clause-unfinished : goal.returns-clause-unfinished
returns-clause-unfinished c = first_unfinished_is_one

pub returns-clause-complete : goal.returns-clause-complete
returns-clause-complete c = complete_or_unfinished
