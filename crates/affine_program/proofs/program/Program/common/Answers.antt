use Rattle.affine_program.proofs.Bounds.{common-few}
use Rattle.affine_program.proofs.program.Program.common.Goals as goal

pub common_in-requires : goal.common_in-requires
common_in-requires c = common-few c.args.self.now c.tree.result.now c.args.t c.args.s c.tree.ensures.tree c.tree.ensures.kept c.requires.t_there
