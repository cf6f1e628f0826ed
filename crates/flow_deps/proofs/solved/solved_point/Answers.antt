use Rattle.std.proofs.Common.{◌≡◌, ◌∙◌, arith}
use Rattle.affine_program.specs.Domain.{depth_of}
use Rattle.affine_program.specs.Parts.{meaning}
use Rattle.flow_deps.proofs.GrownLaws.{level-first, level-second}
use Rattle.flow_deps.proofs.solved.solved_point.Goals as goal

pub first_values-requires-clause-few : goal.first_values-requires-clause-few
first_values-requires-clause-few c =
    let level = level-second (meaning c.args.program.now) c.args.origin.writer c.args.reader.statement c.args.origin.level c.params-params.ensures.kept.well_formed c.requires.read.statement c.requires.origin.level in
    omega (arith, c.from.ensures, level)

pub returns : goal.returns
returns c =
    let level = level-first (meaning c.args.program.now) c.args.origin.writer c.args.reader.statement c.args.origin.level c.params-params.ensures.kept.well_formed c.requires.origin.writes.0 c.requires.origin.level in
    let ended : c.loop-level._level ≡ depth_of (meaning c.args.program.now) c.args.origin.writer =
    omega (arith, c.loop-level-test.false, c.loop-level.auto._level-end, c.depth-level-end.ensures.depth, c.len-level.ensures, c.in_ok-values.ensures.many, c.from.ensures, level) in
    (c.loop-level.invariant.0 ∙ ended, c.loop-level.invariant.1)
