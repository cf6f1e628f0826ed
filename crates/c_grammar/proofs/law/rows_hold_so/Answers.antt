use Rattle.c_grammar.proofs.Values.{rows_hold_so as holds_so}
use Rattle.c_grammar.proofs.law.rows_hold_so.Goals as goal

pub returns : goal.returns
returns c = holds_so
