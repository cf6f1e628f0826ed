use Rattle.std.specs.Prelude.{Ok, Err, option_map}
use Rattle.std.proofs.lemmas.List.{drop_all}
use Rattle.std.proofs.Common.{rules, map}
use Rattle.affine_program.specs.Parts.{meaning}
use Rattle.reuse_paths.specs.Families.{credit_of, family_of, boxed_node}
use Rattle.dep_quast.specs.Quasts.{trees_of}
use Rattle.certificate_fit.specs.FamilyFit.{node_fit}
use Rattle.certificate_fit.proofs.FitFound.{mapped-stop, mapped-next, mapped-ended}
use Rattle.certificate_fit.proofs.families.all_nodes_fit_in.Goals as goal

pub returns-in_err-node_fits_in : goal.returns-in_err-node_fits_in
returns-in_err-node_fits_in c =
    let r = c.in_err-node_fits_in.field-0.0 in
    let fit = node_fit (meaning c.args.program.now) (trees_of c.args.quasts.now) (map credit_of c.args.credits.now) (family_of c.args.family.now) c.args.list.now in
    let refused = c.loop-statement.invariant (Err r) (mapped-stop (option_map boxed_node) fit c.args.nodes.now c.loop-statement.statement c.index-nodes-statement.result c.loop-statement-test.true c.index-nodes-statement.is r
    c.in_err-node_fits_in.ensures) in
    search rules

pub loop-statement-preserved : goal.loop-statement-preserved
loop-statement-preserved c = λ found h.
    let fit = node_fit (meaning c.args.program.now) (trees_of c.args.quasts.now) (map credit_of c.args.credits.now) (family_of c.args.family.now) c.args.list.now in
    c.loop-statement.invariant found (mapped-next (option_map boxed_node) fit c.args.nodes.now c.loop-statement.statement c.index-nodes-statement.result c.loop-statement-test.true c.index-nodes-statement.is found
    c.in_ok-node_fits_in.ensures h)

pub returns : goal.returns
returns c =
    let fit = node_fit (meaning c.args.program.now) (trees_of c.args.quasts.now) (map credit_of c.args.credits.now) (family_of c.args.family.now) c.args.list.now in
    c.loop-statement.invariant (Ok tt) (mapped-ended (option_map boxed_node) fit c.args.nodes.now c.loop-statement.statement (drop_all c.loop-statement.statement c.args.nodes.now c.loop-statement-test.false))
