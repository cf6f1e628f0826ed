use Rattle.std.proofs.Common.{refl, []}
use Rattle.std.specs.Prelude.{None, Some}
use Rattle.affine_program.specs.Parts.{meaning}
use Rattle.claims.proofs.Found.{IfOk-then}
use Rattle.dep_quast.specs.Quasts.{trees_of}
use Rattle.dep_quast.specs.declared.quasts.Quasts.{Quasts}
use Rattle.find_terms.specs.Opened.{HasTreesFor}
use Rattle.find_terms.specs.Trees.{HasTrees}
use Rattle.find_terms.specs.declared.trees.Scope.TheVariants.{Few}
use Rattle.find_terms.specs.Shortened.{AreShortTrees, opening_terms}
use Rattle.find_terms.proofs.Opened.{short-for}
use Rattle.find_terms.proofs.Shortened.{few-short, opening-short}
use Rattle.find_terms.proofs.making.short_trees.Goals as goal

pub returns-in-Some-clause-trees : goal.returns-in-Some-clause-trees
returns-in-Some-clause-trees c =
    IfOk-then c.source_trees.result (λ (quasts : Quasts). HasTrees (meaning c.args.program.now) (Few c.as_slice.result) (trees_of quasts))
    (λ (quasts : Quasts). HasTreesFor (meaning c.args.program.now) c.args.opening.now (trees_of quasts)) c.source_trees.ensures
    (λ quasts has. short-for (meaning c.args.program.now) c.args.opening.now c.in-Some.branch c.as_slice.result (trees_of quasts) c.in-Some.is c.as_slice.ensures.value has)

pub returns-in-Some-clause-short : goal.returns-in-Some-clause-short
returns-in-Some-clause-short c =
    IfOk-then c.source_trees.result (λ (quasts : Quasts). HasTrees (meaning c.args.program.now) (Few c.as_slice.result) (trees_of quasts))
    (λ (quasts : Quasts). AreShortTrees (meaning c.args.program.now) (opening_terms c.args.opening.now) (trees_of quasts)) c.source_trees.ensures
    (λ quasts has.
    opening-short (meaning c.args.program.now) c.args.opening.now (Some c.in-Some.branch) (trees_of quasts) c.in-Some.is
    (few-short (meaning c.args.program.now) c.as_slice.result c.in-Some.branch.terms.items (trees_of quasts) c.as_slice.ensures.value has))

pub returns-in-None-clause-short : goal.returns-in-None-clause-short
returns-in-None-clause-short c =
    IfOk-then c.source_trees-in-None.result _ (λ (quasts : Quasts). AreShortTrees (meaning c.args.program.now) (opening_terms c.args.opening.now) (trees_of quasts))
    c.source_trees-in-None.ensures
    (λ quasts has.
    opening-short (meaning c.args.program.now) c.args.opening.now None (trees_of quasts) c.in-None.is (few-short (meaning c.args.program.now) _ [] (trees_of quasts) refl has))
