use Rattle.affine_c.proofs.OneProgram.{one_program}
use Rattle.affine_c.proofs.law.texts_mean_one_program.Goals as goal

pub returns : goal.returns
returns c = one_program
