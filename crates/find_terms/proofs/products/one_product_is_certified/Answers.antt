use Rattle.find_terms.proofs.products.One.{one-certified}
use Rattle.find_terms.proofs.products.one_product_is_certified.Goals as goal

pub returns : goal.returns
returns c = one-certified
