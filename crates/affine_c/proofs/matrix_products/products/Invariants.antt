use Rattle.std.proofs.Common.{◌≡◌, map}
use Rattle.std.specs.List.{AllByRecursion, range_with_len}
use Rattle.affine_program.specs.Parts.{statement_of}
use Rattle.affine_program.specs.Tree.{item_of}
use Rattle.affine_c.specs.Products.{IsInProductNest, matrices, product_nest, product_statement}
use Rattle.affine_c.proofs.matrix_products.products.Given as goal

abbrev pub invariant-loop-product : goal.invariant-loop-product
invariant-loop-product l = record {
  arrays : l.arrays.items ≡ matrices l.product;
  statements : map statement_of l.statements.items ≡ map product_statement (range_with_len 0 l.product);
  nests : AllByRecursion IsInProductNest l.statements.items;
  tree : map item_of l.tree.items ≡ map product_nest (range_with_len 0 l.product);
}
