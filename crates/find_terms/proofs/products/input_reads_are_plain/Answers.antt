use Rattle.find_terms.proofs.products.InputReads.{inputs-plain}
use Rattle.find_terms.proofs.products.input_reads_are_plain.Goals as goal

pub returns : goal.returns
returns c = inputs-plain c.args._alloc
