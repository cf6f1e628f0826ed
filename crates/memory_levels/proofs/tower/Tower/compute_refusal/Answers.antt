-- Predecessors are vertices.
use Rattle.std.proofs.Common.{◌≡◌, ◌<◌, ℕ, List, Bool, ◌∙◌, sym, ap, subst, length, get_or, arith}
use Rattle.std.specs.List.{AllByRecursion}
use Rattle.iolb_model.specs.Game.{predecessors_at, vertices}
use Rattle.memory_levels.specs.Towers.{PlayedTower}
use Rattle.memory_levels.proofs.Towers.{all-below, place-at}
use Rattle.memory_levels.proofs.tower.Tower.compute_refusal.Goals as goal

pub first_absent-requires : goal.first_absent-requires
first_absent-requires c =
    let levels : c.args.self.now.board.levels ≡ c.self.inside.levels.items = sym (ap (λ (t : PlayedTower). t.board.levels) c.self.view_is) in
    let below : c.args.v < c.args.graph.now.instances = omega (arith, c.if-instances-v.false, c.instances.ensures.instances) in
    let long : length c.index-2.result.now ≡ vertices c.args.graph.now =
    place-at c.args.graph.now c.args.self.now.board 0 c.index-2.result.now c.index-2.result.now c.requires.fits (omega (arith, c.self.invariant, ap length levels))
    (c.index-2.ensures ∙ ap (λ (ls : List (List Bool)). get_or ls 0 c.index-2.result.now) (sym levels)) in
    subst (λ (us : List ℕ). AllByRecursion (λ u. u < length c.index-2.result.now) us) (sym c.preds_of.ensures.preds)
    (all-below (length c.index-2.result.now) (vertices c.args.graph.now) (predecessors_at c.args.graph.now c.args.v) long (c.preds_of.ensures.graph.0.there c.args.v below))
