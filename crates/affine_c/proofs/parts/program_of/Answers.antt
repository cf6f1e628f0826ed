use Rattle.std.proofs.Common.{◌≡◌, arith, sym, ◌∙◌, ap, subst, ℕ, ℤ, List, map, length}
use Rattle.iolb_model.specs.Program.{Row}
use Rattle.affine_program.specs.Parts.{meaning}
use Rattle.affine_program.specs.Tree.{row_from, row_of}
use Rattle.affine_program.specs.declared.item.Item.{Item}
use Rattle.c_grammar.specs.Well.{parameters_of, statement_count}
use Rattle.c_grammar.specs.Program.{narrowed, items_meant, program_of}
use Rattle.affine_c.specs.Built.{HasShortWays, ArePlaced}
use Rattle.affine_form.specs.System.{AffineSystem}
use Rattle.affine_program.specs.declared.statement.Statement.{Statement}
use Rattle.affine_c.proofs.TreeFits.{items_inside}
use Rattle.affine_c.proofs.Made.{program_has_ways, made_from, made_says, made_program}
use Rattle.affine_c.proofs.parts.program_of.Goals as goal

assumed_are : {n : ℕ} {xs ys : List (List ℤ)} → xs ≡ ys → ◌≡◌ {A = AffineSystem} (record { vars = n; rows = map (narrowed n 0) xs }) (record { vars = n; rows = map (narrowed n 0) ys })
assumed_are {n} e = ap (λ (rows : List (List ℤ)). record { vars = n; rows = map (narrowed n 0) rows }) e

placed_there : {n : ℕ} {xs ys : List Item} {statements : List Statement} → xs ≡ ys → ArePlaced n (row_of xs) statements → ArePlaced n (row_of ys) statements
placed_there {n} {statements = statements} e h = subst (λ (items : List Item). ArePlaced n (row_of items) statements) e h

pub tree_of-requires-clause-fits : goal.tree_of-requires-clause-fits
tree_of-requires-clause-fits c = items_inside c.args.reading.now 0 0 c.args.reading.now.items c.requires.items

pub statements_of-requires-clause-fits : goal.statements_of-requires-clause-fits
statements_of-requires-clause-fits c = items_inside c.args.reading.now 0 0 c.args.reading.now.items c.requires.items

pub statements_of-requires-clause-tree : goal.statements_of-requires-clause-tree
statements_of-requires-clause-tree c =
    let r = c.args.reading.now in
    let many : length c.as_slice-parameters.result.now ≡ length (parameters_of r) = ap (λ (ns : List (List ℕ)). length ns) (c.as_slice-parameters.ensures.value ∙ c.in_ok-names.ensures) in
    let tree : row_of c.in_ok-tree.tree.items ≡ (program_of r).tree = ap row_from c.in_ok-tree.ensures ∙ ap (λ (n : ℕ). row_from (items_meant r.names n 0 0 r.items)) many in
    record {
      few = omega (arith, many, c.requires.parameters);
      parameters_are = many;
      statements = c.requires.statements;
      short = subst (λ (n : ℕ). HasShortWays n (row_of c.as_slice-2.result.now) (statement_count r.items)) (sym many)
          (subst (λ (row : Row). HasShortWays (length (parameters_of r)) row (statement_count r.items)) (sym (ap row_of c.as_slice-2.ensures.value ∙ tree)) (program_has_ways r c.requires));
    }

pub from_parts-requires : goal.from_parts-requires
from_parts-requires c =
    let many = ap (λ (ns : List (List ℕ)). length ns) (c.as_slice-parameters.ensures.value ∙ c.in_ok-names.ensures) in
    made_program c.args.reading.now _ c.requires (made_from c.args.reading.now _ _ many c.in_ok-names.ensures (c.in_ok-assumed.ensures ∙ assumed_are c.assumptions.ensures)
    (c.in_ok-arrays-2.ensures.arrays ∙ c.as_slice.ensures.value ∙ c.in_ok-arrays.ensures) c.in_ok-statements.ensures.statements c.in_ok-tree.ensures (placed_there c.as_slice-2.ensures.value c.in_ok-statements.ensures.placed))

pub returns : goal.returns
returns c =
    let many = ap (λ (ns : List (List ℕ)). length ns) (c.as_slice-parameters.ensures.value ∙ c.in_ok-names.ensures) in
    ap meaning c.from_parts.ensures ∙ made_says c.args.reading.now _ (made_from c.args.reading.now _ _ many c.in_ok-names.ensures (c.in_ok-assumed.ensures ∙ assumed_are c.assumptions.ensures)
    (c.in_ok-arrays-2.ensures.arrays ∙ c.as_slice.ensures.value ∙ c.in_ok-arrays.ensures) c.in_ok-statements.ensures.statements c.in_ok-tree.ensures (placed_there c.as_slice-2.ensures.value c.in_ok-statements.ensures.placed))
