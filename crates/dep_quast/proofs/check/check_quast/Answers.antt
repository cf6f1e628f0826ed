use Rattle.std.proofs.Common.{[]}
use Rattle.affine_program.specs.Parts.{meaning}
use Rattle.dep_quast.specs.Claims.{claims}
use Rattle.dep_quast.specs.Context.{ReadOf}
use Rattle.dep_quast.specs.Tree.{tree_of}
use Rattle.dep_quast.specs.Truth.{IsTrueTree}
use Rattle.claims.proofs.Found.{decided-then}
use Rattle.dep_quast.proofs.check.check_quast.Goals as goal

pub returns-clause-true_tree : goal.returns-clause-true_tree
returns-clause-true_tree c =
    let program = meaning c.args.program.now in
    let reader : ReadOf = record { statement = c.args.statement; read = c.args.read } in
    let tree = tree_of c.args.quast.now in
    decided-then (claims program reader [] c.args.place.now tree) c.tree_shown.result (IsTrueTree program reader tree) c.tree_shown.ensures
    (λ valid. c.valid_trees_are_true.ensures program reader c.args.place.now tree c.params-params.ensures.kept.well_formed c.requires.read c.requires.fits valid)
