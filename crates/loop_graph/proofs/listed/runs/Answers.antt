use Rattle.std.proofs.Common.{◌≡◌, map, rules}
use Rattle.affine_program.specs.Parts.{meaning}
use Rattle.iolb_model.specs.Execution.{execution}
use Rattle.loop_graph.specs.Runs.{with_point, run_of}
use Rattle.loop_graph.proofs.Executed.{instances, runs-are}
use Rattle.loop_graph.proofs.listed.runs.Goals as goal

pub returns-clause-each : goal.returns-clause-each
returns-clause-each c =
    let listed : map run_of c.push_row.new.runs.items ≡ map (with_point c.args.values.now) (execution (meaning c.args.program.now) c.args.values.now) = search rules in
    runs-are (meaning c.args.program.now) c.args.values.now c.push_row.new.runs.items (execution (meaning c.args.program.now) c.args.values.now) c.requires.all c.requires.small listed
    (instances (meaning c.args.program.now) c.args.values.now c.tree.ensures.kept.well_formed c.requires.turns)
