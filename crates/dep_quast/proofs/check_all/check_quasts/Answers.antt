use Rattle.std.proofs.Common.{rules, ◌≡◌, sym, ◌∙◌, ap, subst, ℕ, suc, ◌<◌, List, map, length, get_or, drop, Vec, Global}
use Rattle.std.proofs.Math.Numerals.{suc-eq-add-one}
use Rattle.affine_program.specs.Parts.{meaning}
use Rattle.dep_quast.specs.declared.quast.Quast.{Quast}
use Rattle.claims.specs.Claims.{Claim, AllHold, IsRefusal}
use Rattle.dep_quast.specs.Tree.{tree_of}
use Rattle.dep_quast.specs.Quasts.{row_trees, trees_of}
use Rattle.dep_quast.specs.Trees.{RowsFit, RowIsTrue, RowsAreTrue, row_claims, rows_claims}
use Rattle.claims.proofs.Found.{refused-first, refused-later}
use Rattle.claims.proofs.Laws.{AllHold-append}
use Rattle.dep_quast.proofs.TreeLemmas.{rows-split}
use Rattle.base_laws.proofs.Lists.{rest_after}
use Rattle.dep_quast.proofs.check_all.check_quasts.Goals as goal

pub loop-statement-preserved : goal.loop-statement-preserved
loop-statement-preserved c =
    let program = meaning c.args.program.now in
    let i : ℕ = c.loop-statement.statement in
    let rows : List (Vec Quast Global) = c.args.quasts.now.rows.items in
    let row : Vec Quast Global = c.row-item.result in
    let below : i < length rows = subst (λ (l : List (Vec Quast Global)). i < length l) c.rows-row-items.ensures c.loop-statement-test.true in
    let is : row ≡ get_or rows i row = c.row-item.is ∙ ap (λ (l : List (Vec Quast Global)). get_or l i row) c.rows-row-items.ensures in
    let split = rest_after rows i row below is in
    let fits = rows-split program i rows row c.loop-statement.invariant.fits below is in
    let here : List Claim = row_claims program i 0 (row_trees row) in
    let rest : List Claim = rows_claims program (suc i) (map row_trees (drop (suc i) rows)) in
    let hold : AllHold here = subst (λ (l : List Quast). AllHold (row_claims program i 0 (map tree_of l))) c.as_slice.ensures.value c.in_ok-check_row.ensures.hold in
    let are_true : RowIsTrue program i 0 (row_trees row) = subst (λ (l : List Quast). RowIsTrue program i 0 (map tree_of l)) c.as_slice.ensures.value c.in_ok-check_row.ensures.are_true in
    record {
      fits = subst (λ (n : ℕ). RowsFit program n (map row_trees (drop n rows))) (suc-eq-add-one i) fits.1;
      hold = λ h. c.loop-statement.invariant.hold (subst (λ (l : List (Vec Quast Global)). AllHold (rows_claims program i (map row_trees l))) (sym split)
          (AllHold-append here rest hold (subst (λ (n : ℕ). AllHold (rows_claims program n (map row_trees (drop n rows)))) (sym (suc-eq-add-one i)) h)));
      are_true = λ h. c.loop-statement.invariant.are_true (subst (λ (l : List (Vec Quast Global)). RowsAreTrue program i (map row_trees l)) (sym split)
          (are_true, subst (λ (n : ℕ). RowsAreTrue program n (map row_trees (drop n rows))) (sym (suc-eq-add-one i)) h));
      refused = λ r h. c.loop-statement.invariant.refused r (subst (λ (l : List (Vec Quast Global)). IsRefusal (rows_claims program i (map row_trees l)) r) (sym split)
          (refused-later here rest r hold (subst (λ (n : ℕ). IsRefusal (rows_claims program n (map row_trees (drop n rows))) r) (sym (suc-eq-add-one i)) h)));
    }

pub returns-in_err-check_row-clause-refused : goal.returns-in_err-check_row-clause-refused
returns-in_err-check_row-clause-refused c =
    let program = meaning c.args.program.now in
    let i : ℕ = c.loop-statement.statement in
    let rows : List (Vec Quast Global) = c.args.quasts.now.rows.items in
    let row : Vec Quast Global = c.row-item.result in
    let below : i < length rows = subst (λ (l : List (Vec Quast Global)). i < length l) c.rows-row-items.ensures c.loop-statement-test.true in
    let is : row ≡ get_or rows i row = c.row-item.is ∙ ap (λ (l : List (Vec Quast Global)). get_or l i row) c.rows-row-items.ensures in
    let split = rest_after rows i row below is in
    let refused : IsRefusal (rows_claims program 0 (trees_of c.args.quasts.now)) c.in_err-check_row.field-0.0 =
    c.loop-statement.invariant.refused c.in_err-check_row.field-0.0 (subst (λ (l : List (Vec Quast Global)). IsRefusal (rows_claims program i (map row_trees l)) c.in_err-check_row.field-0.0) (sym split)
    (refused-first (row_claims program i 0 (row_trees row)) (rows_claims program (suc i) (map row_trees (drop (suc i) rows))) c.in_err-check_row.field-0.0
    (subst (λ (l : List Quast). IsRefusal (row_claims program i 0 (map tree_of l)) c.in_err-check_row.field-0.0) c.as_slice.ensures.value c.in_err-check_row.ensures.refused))) in
    search rules
