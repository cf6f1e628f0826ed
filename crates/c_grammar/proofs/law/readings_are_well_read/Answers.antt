use Rattle.c_grammar.proofs.KeptText.{readings_are_well_read as well_read}
use Rattle.c_grammar.proofs.law.readings_are_well_read.Goals as goal

pub returns : goal.returns
returns c = well_read
