use Rattle.poly_tree.proofs.PrintOrder.{terms_are_in_order}
use Rattle.poly_tree.proofs.printed_law.terms_are_in_order.Goals as goal

pub returns : goal.returns
returns c = terms_are_in_order
