use Rattle.std.proofs.Common.{sym, ◌∙◌, ap, ℕ, List, map}
use Rattle.std.specs.Prelude.{◌==◌, Bool}
use Rattle.std.proofs.lemmas.List.Folds.{list_all_at}
use Rattle.command_words.specs.Sizes.{named_of, times}
use Rattle.command_words.proofs.values.are_named_once.Goals as goal

pub returns-then-not-is_named_once : goal.returns-then-not-is_named_once
returns-then-not-is_named_once c =
    let once : List ℕ → Bool = λ name. times name (map named_of c.args.sizes.now) == 1 in
    sym (list_all_at once c.args.names.now c.loop-name.name-index c.name-item.result c.loop-name-test.true
    (sym (ap once c.name-item.is) ∙ ap once (sym c.bytes.ensures.bytes) ∙ sym c.is_named_once.ensures ∙ c.if-not-is_named_once.true))
