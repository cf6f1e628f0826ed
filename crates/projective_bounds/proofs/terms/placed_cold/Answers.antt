use Rattle.affine_program.specs.Parts.{meaning}
use Rattle.dep_quast.specs.Tree.{tree_of}
use Rattle.dep_quast.specs.Quasts.{trees_of}
use Rattle.projective.proofs.ReadTrees.{found-is, never-none}
use Rattle.projective_bounds.proofs.terms.placed_cold.Goals as goal

pub read_cold-requires-clause-tree : goal.read_cold-requires-clause-tree
read_cold-requires-clause-tree c =
    found-is (meaning c.args.program.now) (trees_of c.args.quasts.now) c.requires.trees c.args.read c.requires.read.read (tree_of c.in-Some.quast.now) c.in-Some.ensures

pub unreachable-requires : goal.unreachable-requires
unreachable-requires c = never-none (meaning c.args.program.now) (trees_of c.args.quasts.now) c.requires.trees c.args.read c.requires.read.read c.in-None.ensures
