-- What a complete pebbling keeps: words in either memory were computed, and so were the predecessors of what was computed.
use Rattle.std.proofs.Common.{◌≡◌, ◌≢◌, sym, ◌∙◌, ap, subst, inl, inr, ℕ, zero, suc, ◌<◌, ◌≤◌, Bool, true, false, List, length, set, replicate, arith, IsTrue}
use Rattle.std.specs.Prelude.{◌⊎◌, Contains}
use Rattle.std.proofs.lemmas.Bool.{cases_eq}
use Rattle.std.proofs.lemmas.List.{get_or-set_other, get_or-set_same, length-set, length-replicate, get_or_append_left}
use Rattle.iolb_model.specs.declared.game.Move.{Move}
use Rattle.iolb_model.specs.declared.game.Move.TheVariants.{Load, Store, Compute, Drop, Erase}
use Rattle.iolb_model.specs.Graph.{ComputationGraph}
use Rattle.iolb_model.specs.Game.{Board, IsAllowed, board_after, first_board, marked, predecessors_at, vertices}
use Rattle.pebble_game.proofs.Marks.{all-contained, dropped-marked, set-marked, unmarked-at}
use Rattle.reuse_paths.specs.Reached.{IsReachedIn}

pub record IsKept (graph : ComputationGraph) (board : Board) : Type 0 where
  pub wide : graph.instances ≤ length board.computed
  pub red : (v : ℕ) → v < graph.instances → marked board.red v ≡ true → marked board.computed v ≡ true
  pub blue : (v : ℕ) → v < graph.instances → marked board.blue v ≡ true → marked board.computed v ≡ true
  pub sources : (v u : ℕ) → marked board.computed v ≡ true → Contains (predecessors_at graph v) u → u < graph.instances → marked board.computed u ≡ true

module _ (graph : ComputationGraph) (s : ℕ) where
  pub kept-first : IsKept graph (first_board graph)
  kept-first = record {
    wide = omega (arith, length-replicate (vertices graph) false);
    red = λ v there on. let off = unmarked-at (vertices graph) v in absurd (none on off);
    blue = λ v there on. let off = get_or_append_left (replicate graph.instances false) (replicate graph.inputs true) false v (omega (arith, there, length-replicate graph.instances false)) ∙ unmarked-at graph.instances v in absurd (none on off);
    sources = λ v u on read there. let off = unmarked-at (vertices graph) v in absurd (none on off);
  } where
    none : {b : Bool} → b ≡ true → b ≡ false → ⊥
    none p q = cc

  -- a mark that is there stays where one is put
  still : (marks : List Bool) (w v : ℕ) → marked marks v ≡ true → w < length marks → marked (set marks w true) v ≡ true
  still marks w v on inside = by (cases_eq v w) where
    by : (v ≡ w) ⊎ (v ≢ w) → marked (set marks w true) v ≡ true
    by (inl e) = ap (marked (set marks w true)) e ∙ get_or-set_same marks w true false inside
    by (inr apart) = get_or-set_other marks w v true false apart ∙ on

  pub kept-next : (board : Board) (move : Move) → IsKept graph board → IsAllowed graph s board move → IsKept graph (board_after board move)
  kept-next board (Load w) kept allowed = record {
    wide = kept.wide;
    red = λ v there on. by v there (set-marked board.red w v on);
    blue = kept.blue;
    sources = kept.sources;
  } where
    by : (v : ℕ) → v < graph.instances → (v ≡ w) ⊎ (marked board.red v ≡ true) → marked board.computed v ≡ true
    by v there (inl e) = kept.blue v there (ap (marked board.blue) e ∙ allowed.0)
    by v there (inr on) = kept.red v there on
  kept-next board (Store w) kept allowed = record {
    wide = kept.wide;
    red = kept.red;
    blue = λ v there on. by v there (set-marked board.blue w v on);
    sources = kept.sources;
  } where
    by : (v : ℕ) → v < graph.instances → (v ≡ w) ⊎ (marked board.blue v ≡ true) → marked board.computed v ≡ true
    by v there (inl e) = kept.red v there (ap (marked board.red) e ∙ allowed)
    by v there (inr on) = kept.blue v there on
  kept-next board (Compute w) kept allowed = record {
    wide = omega (arith, kept.wide, length-set board.computed w true);
    red = λ v there on. by v there (set-marked board.red w v on);
    blue = λ v there on. still board.computed w v (kept.blue v there on) inside;
    sources = λ v u on read there. source v u read there (set-marked board.computed w v on);
  } where
    inside : w < length board.computed
    inside = omega (arith, allowed.0, kept.wide)

    by : (v : ℕ) → v < graph.instances → (v ≡ w) ⊎ (marked board.red v ≡ true) → marked (set board.computed w true) v ≡ true
    by v there (inl e) = ap (marked (set board.computed w true)) e ∙ get_or-set_same board.computed w true false inside
    by v there (inr on) = still board.computed w v (kept.red v there on) inside

    source : (v u : ℕ) → Contains (predecessors_at graph v) u → u < graph.instances → (v ≡ w) ⊎ (marked board.computed v ≡ true) → marked (set board.computed w true) u ≡ true
    source v u read there (inl e) =
        still board.computed w u
        (kept.red u there (all-contained (λ (x : ℕ). IsTrue (marked board.red x)) (predecessors_at graph w) u allowed.2 (subst (λ (x : ℕ). Contains (predecessors_at graph x) u) e read))) inside
    source v u read there (inr on) = still board.computed w u (kept.sources v u on read there) inside
  kept-next board (Drop w) kept allowed = record {
    wide = kept.wide;
    red = λ v there on. kept.red v there (dropped-marked board.red w v on);
    blue = kept.blue;
    sources = kept.sources;
  }
  kept-next board (Erase w) kept allowed = record {
    wide = kept.wide;
    red = kept.red;
    blue = λ v there on. kept.blue v there (dropped-marked board.blue w v on);
    sources = kept.sources;
  }

  -- what is reached from what was computed was computed
  pub reached-computed : (board : Board) → IsKept graph board → (steps from to : ℕ) → marked board.computed from ≡ true → to < graph.instances → IsReachedIn graph steps from to
      → marked board.computed to ≡ true
  reached-computed board kept zero from to on there same = ap (marked board.computed) (sym same) ∙ on
  reached-computed board kept (suc steps) from to on there reach =
      reached-computed board kept steps reach.1 to (kept.sources from reach.1 on reach.2 (source steps reach.1 reach.3)) there reach.3 where
        source : (n u : ℕ) → IsReachedIn graph n u to → u < graph.instances
        source zero u e = subst (λ (x : ℕ). x < graph.instances) (sym e) there
        source (suc n) u r = r.0
