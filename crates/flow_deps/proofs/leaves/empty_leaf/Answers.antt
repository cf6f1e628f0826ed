use Rattle.affine_program.specs.Parts.{meaning}
use Rattle.dep_quast.specs.Claims.{context_system}
use Rattle.dep_quast.specs.Views.{read_of}
use Rattle.flow_deps.specs.declared.wanted.Wanted.TheVariants.{Any}
use Rattle.flow_deps.specs.Answers.{HasShortAnswer, IsAnswered, IsAsShort, Question, pointless}
use Rattle.flow_deps.proofs.AnswerLaws.{found-some}
use Rattle.flow_deps.proofs.StandingLaws.{empty-stands}
use Rattle.flow_deps.proofs.leaves.empty_leaf.Goals as goal

pub returns : goal.returns
returns c =
    let program = meaning c.args.program.now in
    let reader = read_of c.args.reader in
    let question : Question = pointless (context_system program reader c.args.tests.now) in
    empty-stands program reader c.args.tests.now c.in-Some.shown
    (found-some c.in_ok-shown.field-0 c.in-Some.shown (¬ HasShortAnswer question) (λ shown. IsAnswered question shown × IsAsShort Any shown) c.in-Some.is c.in_ok-shown.ensures).0
