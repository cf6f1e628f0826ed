use Rattle.std.proofs.Common.{◌∙◌, ap, subst, List, ℕ, ◌∷◌, drop, get_or, add-one}
use Rattle.std.proofs.lemmas.List.{drop_more}
use Rattle.pebble_replay.specs.Turns.{IsBetween}
use Rattle.pebble_replay.proofs.hand.Hand.play.Goals as goal

pub finish-requires-clause-between : goal.finish-requires-clause-between
finish-requires-clause-between c =
    subst (λ (l : List ℕ). IsBetween c.args.graph.now l c.args.self)
    (drop_more c.args.order.now c.args.place 0 c.requires.there ∙ ap (λ (n : ℕ). get_or c.args.order.now c.args.place 0 ∷ drop n c.args.order.now) (add-one c.args.place)) c.requires.between
