use Rattle.std.proofs.Common.{ap, length, arith}
use Rattle.dep_quast.proofs.Fits.{params-few, depth-few}
use Rattle.projective.proofs.turns.is_kept.Goals as goal

pub overflow_add-params : goal.overflow_add-params
overflow_add-params c =
    omega (arith, ap length c.params.ensures.params, params-few c.args.program.now c.params.ensures.kept, depth-few c.args.program.now c.params.ensures.kept 0 c.requires.some, c.requires.there)
