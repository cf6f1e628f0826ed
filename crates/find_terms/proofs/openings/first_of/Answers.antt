use Rattle.std.proofs.Common.{subst, ◌+◌}
use Rattle.affine_program.specs.Parts.{meaning}
use Rattle.dep_quast.specs.Context.{ReadOf}
use Rattle.find_terms.specs.Found.{FindsFirst}
use Rattle.find_terms.proofs.ReadLaws.{earlier-first}
use Rattle.find_terms.proofs.openings.first_of.Goals as goal

pub loop-statement-init : goal.loop-statement-init
loop-statement-init c = earlier-first (meaning c.args.program.now) c.args.array

pub loop-statement-preserved : goal.loop-statement-preserved
loop-statement-preserved c =
    let end : ReadOf = record { statement = c.loop-statement.statement + 1; read = 0 } in
    subst (FindsFirst (meaning c.args.program.now) c.args.array end) c.in_default.is c.in_ok-cold.ensures

pub returns-in-Some : goal.returns-in-Some
returns-in-Some c =
    let end : ReadOf = record { statement = c.loop-statement.statement + 1; read = 0 } in
    subst (FindsFirst (meaning c.args.program.now) c.args.array end) c.in-Some.is c.in_ok-cold.ensures
