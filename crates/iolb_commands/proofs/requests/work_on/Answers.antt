use Rattle.std.proofs.Common.{refl, sym, ◌∙◌, ap, Vec, Global}
use Rattle.std.specs.Prelude.{ℤ, Some, option_map}
use Rattle.command_words.specs.Requests.{work_of}
use Rattle.iolb_commands.specs.Phases.{onward, stopping}
use Rattle.iolb_commands.specs.Works.{sizes_for}
use Rattle.iolb_commands.proofs.requests.work_on.Goals as goal

pub returns-in-Ok-Some-clause-comes : goal.returns-in-Ok-Some-clause-comes
returns-in-Ok-Some-clause-comes g c = onward c.as_slice.result.now
    (ap (sizes_for (work_of c.args.command.now.work)) (sym c.params.ensures.params) ∙ sym c.in-Ok-Some.ensures.given
    ∙ ap (option_map (λ (sizes : Vec ℤ Global). sizes.items)) c.in-Ok-Some.field-0-is ∙ ap Some (sym c.as_slice.ensures.value)) c.work_at.ensures.comes

pub returns-in-Ok-None-clause-comes : goal.returns-in-Ok-None-clause-comes
returns-in-Ok-None-clause-comes g c = stopping tt
    (ap (sizes_for (work_of c.args.command.now.work)) (sym c.params.ensures.params) ∙ sym c.in-Ok-None.ensures.given
    ∙ ap (option_map (λ (sizes : Vec ℤ Global). sizes.items)) c.in-Ok-None.field-0-is) refl
