use Rattle.std.proofs.Common.{arith}
use Rattle.std.proofs.lemmas.List.{length-map}
use Rattle.affine_program.specs.Parts.{meaning, statement_of}
use Rattle.dep_quast.proofs.Fits.{common-second, depth-few}
use Rattle.flow_deps.proofs.solved.next_value.Goals as goal

pub turn_before-requires-clause-there : goal.turn_before-requires-clause-there
turn_before-requires-clause-there c =
    omega (
      arith,
      c.if-level-common.true,
      c.common-common.ensures,
      common-second (meaning c.args.program.now) c.args.origin.writer c.args.reader.statement c.params-params.ensures.kept.well_formed c.requires.read.statement,
    )

pub last_value-requires-clause-few : goal.last_value-requires-clause-few
last_value-requires-clause-few c =
    let few = depth-few c.args.program.now c.params-params.ensures.kept c.args.origin.writer (omega (arith, c.requires.origin.writes.0, length-map c.args.program.now.statements statement_of)) in
    omega (arith, c.requires.few, few)
