use Rattle.std.proofs.Common.{sym, ap, length, arith}
use Rattle.affine_program.specs.Parts.{meaning}
use Rattle.dep_quast.specs.Context.{reference_of}
use Rattle.dep_quast.specs.Levels.{writers}
use Rattle.dep_quast.specs.Views.{read_of}
use Rattle.dep_quast.proofs.Fits.{all-writers}
use Rattle.certificate_fit.proofs.Missing.{no-pairs}
use Rattle.certificate_fit.proofs.counts.pairs_between.Goals as goal

pub returns-else-from-statements : goal.returns-else-from-statements
returns-else-from-statements c =
    let program = meaning c.args.program.now in
    let array = (reference_of program (read_of c.args.reader)).array in
    sym (no-pairs c.args.program.now c.statements.ensures.kept c.args.source (omega (arith, ap length c.statements.ensures.statements)) c.args.reader.statement array (writers program array) (all-writers program array))
