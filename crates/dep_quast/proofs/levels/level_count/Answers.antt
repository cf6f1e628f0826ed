use Rattle.std.proofs.Common.{arith}
use Rattle.dep_quast.proofs.Fits.{common-few}
use Rattle.dep_quast.proofs.levels.level_count.Goals as goal

pub overflow_add-result : goal.overflow_add-result
overflow_add-result c =
    let few = common-few c.args.program.now c.params-params.ensures.kept c.args.t c.args.s c.requires.t_there in
    omega (arith, few, c.common-common.ensures)

pub returns-then-t-s-clause-few : goal.returns-then-t-s-clause-few
returns-then-t-s-clause-few c =
    omega (arith, common-few c.args.program.now c.params-params.ensures.kept c.args.t c.args.s c.requires.t_there, c.common-common.ensures)

pub returns-else-t-s-clause-few : goal.returns-else-t-s-clause-few
returns-else-t-s-clause-few c =
    omega (arith, common-few c.args.program.now c.params-params.ensures.kept c.args.t c.args.s c.requires.t_there, c.common-common.ensures)
