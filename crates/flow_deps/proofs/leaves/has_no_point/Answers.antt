use Rattle.std.proofs.Common.{subst, sym, Bool}
use Rattle.std.specs.Prelude.{IfOk, IsTrue, Result}
use Rattle.affine_form.specs.declared.memory.Memory.{Memory}
use Rattle.affine_form.specs.Shown.{HasNoPoint}
use Rattle.affine_form.specs.System.{AffineSystem}
use Rattle.affine_form.proofs.ShownLemmas.{Shows-none}
use Rattle.affine_program.specs.Parts.{meaning}
use Rattle.dep_quast.specs.Claims.{context_system}
use Rattle.dep_quast.specs.Views.{read_of}
use Rattle.flow_deps.specs.declared.wanted.Wanted.TheVariants.{Any}
use Rattle.flow_deps.specs.Answers.{HasShortAnswer, IsAnswered, IsAsShort, pointless}
use Rattle.flow_deps.proofs.AnswerLaws.{found-some}
use Rattle.flow_deps.proofs.leaves.has_no_point.Goals as goal
use Rattle.flow_deps.proofs.leaves.has_no_point.Goals.{in-Some, in-None}

pub returns-clause-none : goal.returns-clause-none
returns-clause-none c =
    let system : AffineSystem = context_system (meaning c.args.program.now) (read_of c.args.reader) c.args.tests.now in
    let P : Result Bool Memory → Type 0 = λ r. IfOk r (λ yes. IsTrue yes → HasNoPoint system) in
    elim c.match-branch-2.branch [
      | in-Some w ↦
          let shown = found-some c.in_ok-pointless_answered.field-0 w.in-Some.field-0 (¬ HasShortAnswer (pointless system)) (λ m. IsAnswered (pointless system) m × IsAsShort Any m)
          w.in-Some.is c.in_ok-pointless_answered.ensures in
          subst P (sym w.result-is) (λ yes. Shows-none system w.in-Some.field-0 shown.0.1.0 shown.0.1.1)
      | in-None w ↦ subst P (sym w.result-is) (λ yes. absurd cc)
    ]
