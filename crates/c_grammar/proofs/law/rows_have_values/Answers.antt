use Rattle.c_grammar.proofs.Values.{rows_have_values as have_values}
use Rattle.c_grammar.proofs.law.rows_have_values.Goals as goal

pub returns : goal.returns
returns c = have_values
