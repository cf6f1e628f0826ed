use Rattle.std.proofs.Common.{rules, sym, subst, ℕ, suc, List, [], map, drop, arith}
use Rattle.std.proofs.Math.Numerals.{suc-eq-add-one}
use Rattle.claims.specs.declared.place.Step.{Step}
use Rattle.affine_program.specs.Parts.{meaning}
use Rattle.dep_quast.specs.declared.quast.Quast.{Quast}
use Rattle.dep_quast.specs.Claims.{claims}
use Rattle.claims.specs.Claims.{Claim, AllHold, IsRefusal}
use Rattle.dep_quast.specs.Tree.{tree_of}
use Rattle.dep_quast.specs.Trees.{RowFits, RowIsTrue, row_claims, read_of, tree_place}
use Rattle.claims.proofs.Found.{refused-first, refused-later}
use Rattle.claims.proofs.Laws.{AllHold-append}
use Rattle.dep_quast.proofs.TreeLemmas.{read-few, row-split}
use Rattle.base_laws.proofs.Lists.{rest_after}
use Rattle.dep_quast.proofs.check_all.check_row.Goals as goal

pub overflow_cast-read : goal.overflow_cast-read
overflow_cast-read c =
    let fits = row-split (meaning c.args.program.now) c.args.statement c.loop-read.read c.args.row.now c.index-row-read.result c.loop-read.invariant.fits c.loop-read-test.true c.index-row-read.is in
    let few = read-few c.args.program.now c.params-params.ensures.kept c.args.statement c.loop-read.read fits.0.0 in
    omega (arith, few.1)

pub loop-read-preserved : goal.loop-read-preserved
loop-read-preserved c =
    let program = meaning c.args.program.now in
    let s : ℕ = c.args.statement in
    let i : ℕ = c.loop-read.read in
    let row : List Quast = c.args.row.now in
    let q : Quast = c.index-row-read.result in
    let split = rest_after row i q c.loop-read-test.true c.index-row-read.is in
    let fits = row-split program s i row q c.loop-read.invariant.fits c.loop-read-test.true c.index-row-read.is in
    let here : List Claim = claims program (read_of s i) [] (tree_place s i) (tree_of q) in
    let rest : List Claim = row_claims program s (suc i) (map tree_of (drop (suc i) row)) in
    let valid : AllHold here = subst (λ (place : List Step). AllHold (claims program (read_of s i) [] place (tree_of q))) c.in-Ok.ensures c.in_ok-check_quast.ensures.valid in
    record {
      fits = subst (λ (n : ℕ). RowFits program s n (map tree_of (drop n row))) (suc-eq-add-one i) fits.1;
      hold = λ h. c.loop-read.invariant.hold (subst (λ (l : List Quast). AllHold (row_claims program s i (map tree_of l))) (sym split)
          (AllHold-append here rest valid (subst (λ (n : ℕ). AllHold (row_claims program s n (map tree_of (drop n row)))) (sym (suc-eq-add-one i)) h)));
      are_true = λ h. c.loop-read.invariant.are_true (subst (λ (l : List Quast). RowIsTrue program s i (map tree_of l)) (sym split)
          (c.in_ok-check_quast.ensures.true_tree, subst (λ (n : ℕ). RowIsTrue program s n (map tree_of (drop n row))) (sym (suc-eq-add-one i)) h));
      refused = λ r h. c.loop-read.invariant.refused r (subst (λ (l : List Quast). IsRefusal (row_claims program s i (map tree_of l)) r) (sym split)
          (refused-later here rest r valid (subst (λ (n : ℕ). IsRefusal (row_claims program s n (map tree_of (drop n row))) r) (sym (suc-eq-add-one i)) h)));
    }

pub returns-in_err-check_quast-clause-refused : goal.returns-in_err-check_quast-clause-refused
returns-in_err-check_quast-clause-refused c =
    let program = meaning c.args.program.now in
    let s : ℕ = c.args.statement in
    let i : ℕ = c.loop-read.read in
    let row : List Quast = c.args.row.now in
    let q : Quast = c.index-row-read.result in
    let split = rest_after row i q c.loop-read-test.true c.index-row-read.is in
    let refused : IsRefusal (row_claims program s 0 (map tree_of row)) c.in_err-check_quast.field-0.0 =
    c.loop-read.invariant.refused c.in_err-check_quast.field-0.0 (subst (λ (l : List Quast). IsRefusal (row_claims program s i (map tree_of l)) c.in_err-check_quast.field-0.0) (sym split)
    (refused-first (claims program (read_of s i) [] (tree_place s i) (tree_of q)) (row_claims program s (suc i) (map tree_of (drop (suc i) row))) c.in_err-check_quast.field-0.0
    (subst (λ (place : List Step). IsRefusal (claims program (read_of s i) [] place (tree_of q)) c.in_err-check_quast.field-0.0) c.in-Ok.ensures c.in_err-check_quast.ensures.refused))) in
    search rules
