use Rattle.iolb_commands.proofs.Causes.{absent_programs, absent_seconds, absent_stores, causes_answered, failing_refused, failing_stores, illegal_moves, other_moves, unfinished_plays, words_refused}
use Rattle.iolb_commands.proofs.Ends.{AreExact}
use Rattle.iolb_commands.proofs.law.causes_are_answered.Goals as goal

exact : goal.After-stores_are_exact → AreExact
exact c = record {
  one_program = c.texts_mean_one_program.ensures;
  one_certificate = c.texts_have_one_certificate.ensures;
  one_answer = c.texts_have_one_answer.ensures;
  stand = c.answers_are_exact.ensures.stand;
  have_values = c.answers_are_exact.ensures.values;
  one_values = c.answers_are_exact.ensures.one;
  one_refusal = c.answers_are_exact.ensures.refused;
  schedules = c.schedules_are_one.ensures.texts;
  one_order = c.replays_are_one.ensures.orders;
  one_unplayed = c.replays_are_one.ensures.refusals;
  played_or_refused = c.replays_are_one.ensures.apart;
  one_list = c.texts_of_moves_are_exact.ensures.moves;
  one_line = c.texts_of_moves_are_exact.ensures.fault;
  moves_or_line = c.texts_of_moves_are_exact.ensures.apart;
  one_illegal = c.plays_have_one_answer.ensures.illegal;
  legal_or_not = c.plays_have_one_answer.ensures.legal;
  one_unfinished = c.plays_have_one_answer.ensures.unfinished;
  complete_or_not = c.plays_have_one_answer.ensures.complete;
  stores = c.stores_are_one.ensures;
  stores_stand = c.stores_are_exact.ensures.stand;
  one_counts = c.stores_are_exact.ensures.one;
  one_stores_refusal = c.stores_are_exact.ensures.refused;
}

pub returns-clause-words : goal.returns-clause-words
returns-clause-words c = words_refused (exact c)

pub returns-clause-causes : goal.returns-clause-causes
returns-clause-causes c = causes_answered (exact c)

pub returns-clause-programs : goal.returns-clause-programs
returns-clause-programs c = absent_programs (returns-clause-causes c)

pub returns-clause-seconds : goal.returns-clause-seconds
returns-clause-seconds c = absent_seconds (returns-clause-causes c)

pub returns-clause-failing : goal.returns-clause-failing
returns-clause-failing c = failing_refused (returns-clause-causes c)

pub returns-clause-thirds : goal.returns-clause-thirds
returns-clause-thirds c = absent_stores (returns-clause-causes c)

pub returns-clause-failing_stores : goal.returns-clause-failing_stores
returns-clause-failing_stores c = failing_stores (returns-clause-causes c)

pub returns-clause-lines : goal.returns-clause-lines
returns-clause-lines c = other_moves (returns-clause-causes c)

pub returns-clause-illegal : goal.returns-clause-illegal
returns-clause-illegal c = illegal_moves (returns-clause-causes c)

pub returns-clause-unfinished : goal.returns-clause-unfinished
returns-clause-unfinished c = unfinished_plays (returns-clause-causes c)
