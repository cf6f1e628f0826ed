use Rattle.iolb_commands.proofs.Beside.{bounds_below}
use Rattle.iolb_commands.proofs.One.{outcomes_one, valid_pass, others_never, playable_pass, climbs_pass, readable_pass, samples_pass, stores_pass}
use Rattle.iolb_commands.proofs.Ends.{AreExact}
use Rattle.iolb_commands.proofs.law.outcomes_are_one.Goals as goal

exact : goal.After-stores_are_exact → AreExact
exact c = record {
  one_program = c.texts_mean_one_program.ensures;
  one_certificate = c.texts_have_one_certificate.ensures;
  one_answer = c.texts_have_one_answer.ensures;
  stand = c.answers_are_exact.ensures.stand;
  have_values = c.answers_are_exact.ensures.values;
  one_values = c.answers_are_exact.ensures.one;
  one_refusal = c.answers_are_exact.ensures.refused;
  schedules = c.schedules_are_one.ensures.texts;
  one_order = c.replays_are_one.ensures.orders;
  one_unplayed = c.replays_are_one.ensures.refusals;
  played_or_refused = c.replays_are_one.ensures.apart;
  one_list = c.texts_of_moves_are_exact.ensures.moves;
  one_line = c.texts_of_moves_are_exact.ensures.fault;
  moves_or_line = c.texts_of_moves_are_exact.ensures.apart;
  one_illegal = c.plays_have_one_answer.ensures.illegal;
  legal_or_not = c.plays_have_one_answer.ensures.legal;
  one_unfinished = c.plays_have_one_answer.ensures.unfinished;
  complete_or_not = c.plays_have_one_answer.ensures.complete;
  stores = c.stores_are_one.ensures;
  stores_stand = c.stores_are_exact.ensures.stand;
  one_counts = c.stores_are_exact.ensures.one;
  one_stores_refusal = c.stores_are_exact.ensures.refused;
}

pub returns-clause-one : goal.returns-clause-one
returns-clause-one c = outcomes_one (exact c)

pub returns-clause-valid : goal.returns-clause-valid
returns-clause-valid c = valid_pass (exact c)

pub returns-clause-others : goal.returns-clause-others
returns-clause-others c = others_never (exact c)

pub returns-clause-playable : goal.returns-clause-playable
returns-clause-playable c = playable_pass (exact c)

pub returns-clause-bounded : goal.returns-clause-bounded
returns-clause-bounded c = readable_pass (exact c)

pub returns-clause-sampled : goal.returns-clause-sampled
returns-clause-sampled c = samples_pass

pub returns-clause-below : goal.returns-clause-below
returns-clause-below c = bounds_below c.replays_are_one.ensures.complete (exact c)

pub returns-clause-climbed : goal.returns-clause-climbed
returns-clause-climbed c = climbs_pass (exact c)

pub returns-clause-stored : goal.returns-clause-stored
returns-clause-stored c = stores_pass (exact c)
