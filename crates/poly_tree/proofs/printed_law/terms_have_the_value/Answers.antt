use Rattle.poly_tree.proofs.PrintedLemmas.{terms_have_the_value}
use Rattle.poly_tree.proofs.printed_law.terms_have_the_value.Goals as goal

pub returns : goal.returns
returns c = terms_have_the_value
