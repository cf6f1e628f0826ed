use Rattle.std.proofs.Common.{◌≡◌, ℕ, ◌∙◌, ◌++◌, sym, ap, arith, map, subst, List}
use Rattle.std.specs.List.{AllByRecursion}
use Rattle.base_laws.proofs.Lists.{All-push}
use Rattle.affine_program.specs.declared.statement.Statement.{Statement}
use Rattle.affine_program.specs.Parts.{meaning, statement_of}
use Rattle.affine_program.specs.Tree.{item_of}
use Rattle.affine_c.specs.Products.{IsInProductNest, matrix_names, product_nest, product_program, product_statement}
use Rattle.affine_c.proofs.ProductPrograms.{matrices-more, one-more, products-are-programs, products-mean}
use Rattle.affine_c.proofs.matrix_products.products.Goals as goal

pub loop-product-preserved : goal.loop-product-preserved
loop-product-preserved c = record {
  arrays = c.in_ok-push_matrices.ensures ∙ ap (λ arrays. arrays ++ map (λ (name : List ℕ). (name, 2)) (matrix_names c.loop-product.product)) c.loop-product.invariant.arrays ∙ sym (matrices-more c.loop-product.product);
  statements = ap (map statement_of) c.in_ok-push.ensures.items
      ∙ one-more statement_of product_statement c.loop-product.product c.loop-product.statements.items c.in_ok-product_statement.field-0 c.loop-product.invariant.statements c.in_ok-product_statement.ensures.statement;
  nests = subst (λ (list : List Statement). AllByRecursion IsInProductNest list) (sym c.in_ok-push.ensures.items)
      (All-push IsInProductNest c.loop-product.statements.items c.in_ok-product_statement.field-0 c.loop-product.invariant.nests c.in_ok-product_statement.ensures.nest);
  tree = ap (map item_of) c.in_ok-push-2.ensures.items
      ∙ one-more item_of product_nest c.loop-product.product c.loop-product.tree.items c.in_ok-product_nest.field-0 c.loop-product.invariant.tree c.in_ok-product_nest.ensures;
}

pub from_parts-requires : goal.from_parts-requires
from_parts-requires c = products-are-programs c.loop-product.product _ (omega (arith, c.requires.few)) (record {
  params = c.in_ok-params.ensures;
  assumed = c.in_ok-assumed.ensures;
  arrays = c.loop-product.invariant.arrays;
  statements = c.loop-product.invariant.statements;
  nests = c.loop-product.invariant.nests;
  tree = c.loop-product.invariant.tree;
})

pub returns : goal.returns
returns c =
    let all : c.loop-product.product ≡ c.args.n = omega (arith, c.loop-product-test.false) in
    ap meaning c.from_parts.ensures
    ∙ products-mean c.loop-product.product _ (record {
      params = c.in_ok-params.ensures;
      assumed = c.in_ok-assumed.ensures;
      arrays = c.loop-product.invariant.arrays;
      statements = c.loop-product.invariant.statements;
      nests = c.loop-product.invariant.nests;
      tree = c.loop-product.invariant.tree;
    })
    ∙ ap product_program all
