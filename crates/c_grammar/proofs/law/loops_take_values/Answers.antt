use Rattle.c_grammar.proofs.Values.{loops_take_values as holds_so}
use Rattle.c_grammar.proofs.law.loops_take_values.Goals as goal

pub returns : goal.returns
returns c = holds_so
