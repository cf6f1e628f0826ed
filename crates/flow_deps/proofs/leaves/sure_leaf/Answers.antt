use Rattle.std.proofs.Common.{refl, ℕ}
use Rattle.std.specs.Prelude.{IfSome}
use Rattle.affine_program.specs.Parts.{meaning}
use Rattle.claims.proofs.Found.{IfOk-then}
use Rattle.dep_quast.specs.Tree.{tree_of}
use Rattle.dep_quast.specs.Views.{read_of}
use Rattle.flow_deps.specs.declared.wanted.Wanted.TheVariants.{Any}
use Rattle.flow_deps.specs.Shapes.{no_write}
use Rattle.flow_deps.specs.Shown.{IsLeafUnder}
use Rattle.flow_deps.specs.Shown.{FindsTree}
use Rattle.flow_deps.proofs.ShownTrees.{leaf-stands}
use Rattle.flow_deps.proofs.leaves.sure_leaf.Goals as goal

pub returns : goal.returns
returns c =
    let program = meaning c.args.program.now in
    let reader = read_of c.args.reader in
    IfOk-then c.input_leaf.result (λ found. (nested : ℕ) → FindsTree Any program reader c.args.tests.now nested no_write found)
    (λ found. IfSome found (λ quast. IsLeafUnder program reader c.args.tests.now (tree_of quast))) c.input_leaf.ensures
    (λ found h. leaf-stands Any program reader c.args.tests.now no_write found refl h)
