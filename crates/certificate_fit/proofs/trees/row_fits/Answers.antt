use Rattle.std.proofs.Common.{rules, subst, List, arith}
use Rattle.std.specs.Prelude.{Ok, Err}
use Rattle.std.proofs.lemmas.List.{drop_all, length-map}
use Rattle.claims.specs.declared.place.Step.{Step}
use Rattle.affine_program.specs.Parts.{meaning, statement_of}
use Rattle.dep_quast.specs.Tree.{tree_of}
use Rattle.dep_quast.proofs.TreeLemmas.{read-few}
use Rattle.claims.specs.Claims.{AllHold, IsRefusal}
use Rattle.certificate_fit.specs.TreeFit.{tree_fit, tree_at}
use Rattle.certificate_fit.proofs.FitFound.{mapped-stop, mapped-next, mapped-ended}
use Rattle.certificate_fit.proofs.trees.row_fits.Goals as goal

pub returns-in_err-tree_fits : goal.returns-in_err-tree_fits
returns-in_err-tree_fits c =
    let r = c.in_err-tree_fits.field-0.0 in
    let refused = c.loop-read.invariant (Err r) (mapped-stop tree_of (tree_at (meaning c.args.program.now) c.args.place.now c.args.statement) c.args.row.now c.loop-read.read c.index-row-read.result c.loop-read-test.true c.index-row-read.is r
    (subst (λ (place : List Step). IsRefusal (tree_fit (meaning c.args.program.now) (record { statement = c.args.statement; read = c.loop-read.read }) place (tree_of c.index-row-read.result)) r) c.in_ok-at.ensures c.in_err-tree_fits.ensures)) in
    search rules

pub loop-read-preserved : goal.loop-read-preserved
loop-read-preserved c = λ found h.
    c.loop-read.invariant found (mapped-next tree_of (tree_at (meaning c.args.program.now) c.args.place.now c.args.statement) c.args.row.now c.loop-read.read c.index-row-read.result c.loop-read-test.true c.index-row-read.is found
    (subst (λ (place : List Step). AllHold (tree_fit (meaning c.args.program.now) (record { statement = c.args.statement; read = c.loop-read.read }) place (tree_of c.index-row-read.result))) c.in_ok-at.ensures c.in_ok-tree_fits.ensures) h)

pub returns : goal.returns
returns c = c.loop-read.invariant (Ok tt) (mapped-ended tree_of (tree_at (meaning c.args.program.now) c.args.place.now c.args.statement) c.args.row.now c.loop-read.read (drop_all c.loop-read.read c.args.row.now c.loop-read-test.false))

pub overflow_cast-reader : goal.overflow_cast-reader
overflow_cast-reader c =
    let few = read-few c.args.program.now c.params-params.ensures.kept c.args.statement c.loop-read.read (record {
      statement = omega (arith, length-map c.args.program.now.statements statement_of, c.requires.there);
      read = omega (arith, c.requires.one_each, c.loop-read-test.true);
    }) in
    omega (arith, few.1)
