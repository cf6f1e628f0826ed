use Rattle.find_terms.proofs.products.InputReads.{openings-count}
use Rattle.find_terms.proofs.products.opening_terms_count_products.Goals as goal

pub returns : goal.returns
returns c = openings-count
