use Rattle.find_terms.proofs.products.Strong.{products-open}
use Rattle.find_terms.proofs.products.products_have_openings.Goals as goal

pub returns : goal.returns
returns c = products-open c.args._alloc
