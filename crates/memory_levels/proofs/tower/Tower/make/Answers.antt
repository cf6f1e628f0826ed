-- A vertex has a place at each level, and the board keeps its places.
use Rattle.std.proofs.Common.{◌≡◌, ◌<◌, List, Bool, ◌∙◌, true, sym, ap, subst, length, get_or, arith}
use Rattle.iolb_model.specs.Game.{vertices}
use Rattle.iolb_model.specs.declared.tower.TowerMove.{TowerMove}
use Rattle.memory_levels.specs.Towers.{PlayedTower, has_level, vertex_of}
use Rattle.memory_levels.proofs.Towers.{fast-level, place-at}
use Rattle.memory_levels.proofs.tower.Tower.make.Goals as goal

pub put-requires-in-Send : goal.put-requires-in-Send
put-requires-in-Send c =
    let levels : c.args.self.now.board.levels ≡ c.self.inside.levels.items = sym (ap (λ (t : PlayedTower). t.board.levels) c.self.view_is) in
    let capacities : c.args.self.now.capacities ≡ c.self.inside.capacities.items = sym (ap (λ (t : PlayedTower). t.capacities) c.self.view_is) in
    let vertex : c.in-Send.v < vertices c.args.graph.now = subst (λ (m : TowerMove). vertex_of m < vertices c.args.graph.now) c.in-Send.is c.requires.vertex in
    let fast = fast-level c.args.self.now.capacities c.in-Send.i (subst (λ (m : TowerMove). has_level c.args.self.now.capacities m ≡ true) c.in-Send.is c.requires.level) in
    let long : length c.index_mut-in-Send.result.now ≡ vertices c.args.graph.now =
    place-at c.args.graph.now c.args.self.now.board c.from-in-Send.result c.index_mut-in-Send.result.now c.index_mut-in-Send.result.now c.requires.fits
    (omega (arith, c.self.invariant, ap length levels, ap length capacities, fast.1, c.from-in-Send.ensures))
    (c.index_mut-in-Send.ensures.value ∙ ap (λ (ls : List (List Bool)). get_or ls c.from-in-Send.result c.index_mut-in-Send.result.now) (sym levels)) in
    omega (arith, vertex, long)
