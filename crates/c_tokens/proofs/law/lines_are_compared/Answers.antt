use Rattle.c_tokens.proofs.Compare.{compares}
use Rattle.c_tokens.proofs.law.lines_are_compared.Goals as goal

pub returns : goal.returns
returns c = compares
