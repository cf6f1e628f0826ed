use Rattle.std.proofs.Common.{◌≡◌, ◌∙◌, subst, ℕ, arith}
use Rattle.affine_form.specs.System.{AffineSystem}
use Rattle.affine_program.specs.Parts.{meaning}
use Rattle.dep_quast.specs.Context.{before_reader}
use Rattle.dep_quast.specs.Levels.{level_count}
use Rattle.dep_quast.specs.Views.{read_of}
use Rattle.flow_deps.specs.Answers.{HasShortAnswer, IsAnswered, IsAsShort, pointless}
use Rattle.flow_deps.proofs.AnswerLaws.{found-none, found-some, system-is, levels-more, none-level}
use Rattle.flow_deps.proofs.no_writes.levels_answered.Goals as goal

pub returns-in_default : goal.returns-in_default
returns-in_default c =
    let f : ℕ → AffineSystem = before_reader (meaning c.args.program.now) (read_of c.args.reader) c.args.writer c.args.rows.now in
    let level : ℕ = c.loop-level.level in
    let system : AffineSystem = record { vars = c.variables_beside-vars.result; rows = c.as_slice.result.now } in
    let is : system ≡ f level = system-is c.variables_beside-vars.result c.as_slice.result.now (f level) c.variables_beside-vars.ensures.variables (c.as_slice.ensures.value ∙ c.in_ok-system.ensures.rows) in
    none-level f (level_count (meaning c.args.program.now) c.args.writer c.args.reader.statement) level (omega (arith, c.loop-level-test.true, c.level_count-level-end.ensures.count))
    (subst (λ (s : AffineSystem). ¬ HasShortAnswer (pointless s)) is
    (found-none c.in_ok-shown.field-0 (¬ HasShortAnswer (pointless system)) (λ shown. IsAnswered (pointless system) shown × IsAsShort c.args.wanted shown) c.in_default.is c.in_ok-shown.ensures))

pub loop-level-preserved : goal.loop-level-preserved
loop-level-preserved c =
    let f : ℕ → AffineSystem = before_reader (meaning c.args.program.now) (read_of c.args.reader) c.args.writer c.args.rows.now in
    let level : ℕ = c.loop-level.level in
    let system : AffineSystem = record { vars = c.variables_beside-vars.result; rows = c.as_slice.result.now } in
    let is : system ≡ f level = system-is c.variables_beside-vars.result c.as_slice.result.now (f level) c.variables_beside-vars.ensures.variables (c.as_slice.ensures.value ∙ c.in_ok-system.ensures.rows) in
    levels-more c.args.wanted f level system c.loop-level.all.items c.push.new.self.items c.in-Some.shown is c.loop-level.invariant
    (found-some c.in_ok-shown.field-0 c.in-Some.shown (¬ HasShortAnswer (pointless system)) (λ shown. IsAnswered (pointless system) shown × IsAsShort c.args.wanted shown) c.in-Some.is c.in_ok-shown.ensures)
    c.in_ok-push.ensures.items
