use Rattle.std.proofs.Common.{◌≡◌, ◌∙◌, subst}
use Rattle.std.specs.Prelude.{IfOk, MatchOption}
use Rattle.affine_form.specs.System.{AffineSystem}
use Rattle.affine_program.specs.Parts.{meaning}
use Rattle.dep_quast.specs.Claims.{context_system}
use Rattle.dep_quast.specs.Views.{read_of}
use Rattle.flow_deps.specs.declared.wanted.Wanted.TheVariants.{Any}
use Rattle.flow_deps.specs.Answers.{HasShortAnswer, IsAnswered, IsAsShort, pointless}
use Rattle.flow_deps.proofs.AnswerLaws.{system-is}
use Rattle.flow_deps.proofs.leaves.pointless_answered.Goals as goal

pub returns : goal.returns
returns c =
    let system : AffineSystem = record { vars = c.variables-vars.result; rows = c.as_slice.result.now } in
    let wanted : AffineSystem = context_system (meaning c.args.program.now) (read_of c.args.reader) c.args.tests.now in
    let is : system ≡ wanted = system-is c.variables-vars.result c.as_slice.result.now wanted c.variables-vars.ensures.variables (c.as_slice.ensures.value ∙ c.in_ok-rows.ensures.rows) in
    subst (λ (s : AffineSystem). IfOk c.system_answered.result (λ found. MatchOption found (¬ HasShortAnswer (pointless s)) (λ shown. IsAnswered (pointless s) shown × IsAsShort Any shown)))
    is c.system_answered.ensures
