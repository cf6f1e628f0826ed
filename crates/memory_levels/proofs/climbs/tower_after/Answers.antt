-- One move more, or the first that isn't allowed.
use Rattle.std.proofs.Common.{◌≡◌, refl, ◌∙◌, ap, subst, List, ℕ, get_or, Some}
use Rattle.iolb_model.specs.Tower.{IsTowerAllowed}
use Rattle.iolb_model.specs.declared.tower.TowerMove.TheVariants.{Bring}
use Rattle.memory_levels.specs.Towers.{PlayedTower, tower_refusal}
use Rattle.memory_levels.proofs.Climbing.{first-illegal, next-left, next-legal}
use Rattle.memory_levels.proofs.climbs.tower_after.Goals as goal

pub returns-in-Err-clause-refused : goal.returns-in-Err-clause-refused
returns-in-Err-clause-refused c =
    let now = c.loop-index.invariant in
    first-illegal c.args.graph.now c.args.capacities.now c.loop-index.tower.board c.args.moves.now c.loop-index.index (get_or c.args.moves.now c.loop-index.index (Bring 0 0)) (Bring 0 0) c.in-Err.illegal
    now.board now.legal c.loop-index-test.true refl
    (subst (λ (held : List ℕ). tower_refusal c.args.graph.now held c.loop-index.tower.board (get_or c.args.moves.now c.loop-index.index (Bring 0 0)) ≡ Some c.in-Err.illegal) now.capacities c.in-Err.ensures.refused)

pub loop-index-preserved : goal.loop-index-preserved
loop-index-preserved c =
    let now = c.loop-index.invariant in
    record {
      capacities = ap (λ (t : PlayedTower). t.capacities) c.in-Ok.ensures.ok ∙ now.capacities;
      board = ap (λ (t : PlayedTower). t.board) c.in-Ok.ensures.ok
          ∙ next-left c.args.graph.now c.args.capacities.now c.loop-index.tower.board c.args.moves.now c.loop-index.index (get_or c.args.moves.now c.loop-index.index (Bring 0 0)) (Bring 0 0) now.board c.loop-index-test.true refl;
      fits = c.in-Ok.ensures.still_fits;
      legal = next-legal c.args.graph.now c.args.capacities.now c.loop-index.tower.board c.args.moves.now c.loop-index.index (get_or c.args.moves.now c.loop-index.index (Bring 0 0)) (Bring 0 0) now.board now.legal c.loop-index-test.true refl
          (subst (λ (held : List ℕ). IsTowerAllowed c.args.graph.now held c.loop-index.tower.board (get_or c.args.moves.now c.loop-index.index (Bring 0 0))) now.capacities c.in-Ok.ensures.allowed);
    }
