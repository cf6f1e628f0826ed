-- The word has a place at each level.
use Rattle.std.proofs.Common.{◌≡◌, ◌∙◌, sym, ap, subst, List, Bool, ◌<◌, length, take, drop}
use Rattle.std.specs.List.{AllByRecursion}
use Rattle.memory_levels.specs.Towers.{PlayedTower}
use Rattle.memory_levels.proofs.Towers.{by-place, first-places, last-places}
use Rattle.memory_levels.proofs.tower.Tower.drop_seen.Goals as goal

pub stands_at_one-requires : goal.stands_at_one-requires
stands_at_one-requires c =
    let levels : c.self.inside.levels.items ≡ c.args.self.now.board.levels = ap (λ (t : PlayedTower). t.board.levels) c.self.view_is in
    subst (λ (ls : List (List Bool)). AllByRecursion (λ marks. c.args.v < length marks) ls)
    (sym (c.split_at.ensures.front ∙ ap (λ (ls : List (List Bool)). take c.args.boundary ls) (c.as_slice.ensures.value ∙ levels)))
    (first-places c.args.self.now.board.levels c.args.boundary c.args.v (by-place c.args.self.now.board.levels c.args.v c.requires.each))

pub stands_at_one-requires-else-up : goal.stands_at_one-requires-else-up
stands_at_one-requires-else-up c =
    let levels : c.self.inside.levels.items ≡ c.args.self.now.board.levels = ap (λ (t : PlayedTower). t.board.levels) c.self.view_is in
    subst (λ (ls : List (List Bool)). AllByRecursion (λ marks. c.args.v < length marks) ls)
    (sym (c.split_at.ensures.back ∙ ap (λ (ls : List (List Bool)). drop c.args.boundary ls) (c.as_slice.ensures.value ∙ levels)))
    (last-places c.args.self.now.board.levels c.args.boundary c.args.v (by-place c.args.self.now.board.levels c.args.v c.requires.each))
