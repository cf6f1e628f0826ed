use Rattle.std.proofs.Common.{[]}
use Rattle.affine_program.specs.Parts.{meaning}
use Rattle.flow_deps.specs.declared.wanted.Wanted.TheVariants.{Short}
use Rattle.projective.specs.SourceTrees.{read_number}
use Rattle.projective.proofs.Leaves.{some-statement, unwritten-there}
use Rattle.flow_deps.specs.Shapes.{no_write}
use Rattle.flow_deps.proofs.ShownTrees.{finds-none, finds-some}
use Rattle.projective.proofs.turn_leaves.unwritten_leaf.Goals as goal

pub unreachable-requires : goal.unreachable-requires
unreachable-requires c =
    unwritten-there c.args.program.now c.params-params.ensures.kept c.requires.projective (some-statement c.args.program.now (read_number c.args.read) c.requires.read) c.args.read c.requires.read c.requires.unwritten 0
    (finds-none Short (meaning c.args.program.now) (read_number c.args.read) [] 0 no_write c.in_ok-leaf.field-0 c.in-None.is (c.in_ok-leaf.ensures 0))

pub returns : goal.returns
returns c = λ nested. finds-some Short (meaning c.args.program.now) (read_number c.args.read) [] nested no_write c.in_ok-leaf.field-0 c.in-Some.leaf c.in-Some.is (c.in_ok-leaf.ensures nested)
