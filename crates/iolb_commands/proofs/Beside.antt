-- The value of a bound is at most the loads of a play beside it.
use Rattle.std.proofs.Common.{◌≡◌, sym, ◌∙◌, ap, subst, refl, ℕ, List}
use Rattle.std.specs.Prelude.{ℤ, Some}
use Rattle.iolb_model.specs.Game.{IsCompletePebbling}
use Rattle.iolb_model.specs.Graph.{computation_graph}
use Rattle.iolb_model.specs.Program.{AffineProgram}
use Rattle.command_words.specs.Requests.{Request, Work, judges, evaluates, replays, file_at, request_of}
use Rattle.command_words.specs.Sizes.{values_for}
use Rattle.tile_sched.specs.ReplayLaws.{PlaysAreComplete}
use Rattle.tile_sched.proofs.Refusals.{same_some}
use Rattle.iolb_commands.specs.Headline.{IsDoneAsAsked, IsLowerBoundPrinted, IsPlayPrinted, IsPrinted}
use Rattle.iolb_commands.specs.Laws.{BoundsAreBelowPlays}
use Rattle.iolb_commands.specs.Outcome.{Call}
use Rattle.iolb_commands.specs.Task.{bound_with}
use Rattle.iolb_commands.specs.Use.{CallUse, Gains}
use Rattle.iolb_commands.specs.declared.status.Status.TheVariants.{Done}
use Rattle.iolb_commands.proofs.Ends.{AreExact}
use Rattle.iolb_commands.proofs.One.{same_program}
use Rattle.iolb_commands.proofs.Headline.{headline}

-- what was asked for was printed, at a request that the words are known to make
printed_at : (call : Call) (left : CallUse) (request : Request) (work : Work) → IsDoneAsAsked call left → request_of call.words ≡ Some request → request.work ≡ work → IsPrinted call left request work
printed_at call left request work done asked works =
    subst (λ (w : Work). IsPrinted call left request w) works
    (subst (λ (r : Request). IsPrinted call left r r.work) (same_some done.request request (sym done.asked ∙ asked)) done.printed)

pub bounds_below : PlaysAreComplete → AreExact → BoundsAreBelowPlays
bounds_below complete exact map map_other words other evaluation replay held s named named_other bounded played asks also beside holds holds_other outcome ended =
    let here : Call = record { words = words; files = Some map } in
    let there : Call = record { words = other; files = Some map_other } in
    let bound : IsLowerBoundPrinted here bounded evaluation (evaluates s named) =
    printed_at here bounded evaluation (judges (evaluates s named)) (headline complete here bounded Done outcome refl) asks beside.evaluates_it in
    let play : IsPlayPrinted there played replay s named_other =
    printed_at there played replay (replays s named_other) (headline complete there played Done ended refl) also beside.replays_it in
    let here_is : bound.program ≡ held = same_program exact map (file_at evaluation.files 0) bound.program held bound.holds_program holds in
    let there_is : play.program ≡ held = same_program exact map_other (file_at replay.files 0) play.program held play.holds_program holds_other in
    let program : bound.program ≡ play.program = here_is ∙ sym there_is in
    let sizes : bound.answer.sizes ≡ play.sizes =
    same_some bound.answer.sizes play.sizes
    (sym bound.answer.given ∙ ap (λ (p : AffineProgram). values_for p.parameters named) here_is ∙ beside.sizes
    ∙ ap (λ (p : AffineProgram). values_for p.parameters named_other) (sym there_is) ∙ play.given) in
    let complete_here : IsCompletePebbling (computation_graph bound.program bound.answer.sizes) s play.moves =
    subst (λ (z : List ℤ). IsCompletePebbling (computation_graph bound.program z) s play.moves) (sym sizes)
    (subst (λ (p : AffineProgram). IsCompletePebbling (computation_graph p play.sizes) s play.moves) (sym program) play.complete) in (
      bound_with bound.program bound.values,
      bound.answer.sizes,
      play.moves,
      subst (λ (text : List ℕ). Gains bounded.output text) bound.answer.printed bound.printed,
      play.printed,
      bound.loads_at_least bound.answer.sizes play.moves bound.answer.given complete_here,
    )
