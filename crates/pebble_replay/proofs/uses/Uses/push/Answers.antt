use Rattle.std.proofs.Common.{◌∙◌, ap, ℕ, ◌+◌, ◌∷◌, [], List, length, map, set, arith}
use Rattle.std.proofs.lemmas.List.{length-append}
use Rattle.pebble_replay.specs.Chains.{uses_from}
use Rattle.pebble_replay.proofs.UseLists.{use-pushed}
use Rattle.pebble_replay.proofs.uses.Uses.push.Goals as goal

pub returns : goal.returns
returns c =
    ap (λ (n : ℕ). map (uses_from c.push.new.self.items) (set c.self.inside.firsts.items c.args.u n)) (omega (arith, c.len.ensures, ap length c.in_ok-push.ensures.items, length-append c.self.inside.all.items ((c.args.left, c.index-first.result.now) ∷ [])))
    ∙ ap (λ (all : List (ℕ × ℕ)). map (uses_from all) (set c.self.inside.firsts.items c.args.u (length c.self.inside.all.items + 1))) c.in_ok-push.ensures.items
    ∙ use-pushed c.self.inside.all.items c.self.inside.firsts.items c.args.self.now c.args.u c.index-first.result.now c.self.invariant c.self.view_is c.requires c.index-first.ensures c.args.left
