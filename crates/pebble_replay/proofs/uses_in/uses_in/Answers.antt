use Rattle.std.proofs.Common.{◌≡◌, sym, ◌∙◌, ap, subst, cond, List, [], ◌∷◌, ℕ, suc, ◌+◌, ◌-◌, ◌<◌, length, drop, get_or, arith, length-drop}
use Rattle.std.specs.List.{AllByRecursion}
use Rattle.std.specs.Prelude.{slice_index_or}
use Rattle.std.proofs.lemmas.List.{drop_more}
use Rattle.iolb_model.specs.Graph.{ComputationGraph}
use Rattle.iolb_model.specs.Game.{predecessors_at, stands_in}
use Rattle.pebble_replay.specs.Played.{reads}
use Rattle.pebble_replay.specs.Uses.{AreUses}
use Rattle.pebble_replay.proofs.UsesIn.{AreCollected, order-short, order-at}
use Rattle.pebble_replay.proofs.uses_in.uses_in.Goals as goal

-- the uses from one place more on
collected-more : (graph : ComputationGraph) (order : List ℕ) (old new : List (List ℕ)) (k place left : ℕ) (us : List ℕ) → k + 1 ≡ place → k < length order → left ≡ suc (length (drop place order))
    → us ≡ predecessors_at graph (get_or order k 0) → length new ≡ length old
    → ((w : ℕ) → slice_index_or new w [] ≡ cond (stands_in us w) (left ∷ slice_index_or old w []) (slice_index_or old w []))
    → AreCollected graph order old place → AreCollected graph order new k
collected-more graph order old new k place left us next below long is lists each h = record {
  within = omega (arith, below);
  uses = subst (λ (l : List ℕ). AreUses graph l new) (sym (drop_more order k 0 below ∙ ap (λ (n : ℕ). get_or order k 0 ∷ drop n order) next)) (record {
    lists = lists ∙ h.uses.lists;
    each = λ u there.
        each u
        ∙ ap (λ (l : List ℕ). cond (stands_in l u) (left ∷ slice_index_or old u []) (slice_index_or old u [])) is
        ∙ ap (λ (n : ℕ). cond (reads graph u (get_or order k 0)) (n ∷ slice_index_or old u []) (slice_index_or old u [])) long
        ∙ ap (λ (l : List ℕ). cond (reads graph u (get_or order k 0)) (suc (length (drop place order)) ∷ l) l) (h.uses.each u there);
  });
}

pub overflow_cast-left : goal.overflow_cast-left
overflow_cast-left c = omega (arith, order-short c.args.graph.now c.args.order.now c.requires, c.instances.ensures.graph.1)

pub push_uses-requires-clause-there : goal.push_uses-requires-clause-there
push_uses-requires-clause-there c =
    let v : ℕ = get_or c.args.order.now (c.loop-place.place - 1) 0 in
    let here : v < c.args.graph.now.instances = order-at c.args.graph.now c.args.order.now (c.loop-place.place - 1) c.requires (omega (arith, c.loop-place.invariant.within)) in
    subst (λ (l : List ℕ). AllByRecursion (λ u. u < length c.loop-place.uses) l) (sym c.preds_of.ensures.preds)
    (subst (λ (n : ℕ). AllByRecursion (λ u. u < n) (predecessors_at c.args.graph.now v)) (sym c.loop-place.invariant.uses.lists) (c.instances.ensures.graph.0.there v here))

pub loop-place-preserved : goal.loop-place-preserved
loop-place-preserved c =
    let place = c.loop-place.place in
    let order = c.args.order.now in
    let long : length order - (place - 1) ≡ suc (length (drop place order)) = omega (arith, length-drop place order, c.loop-place-test.true, c.loop-place.invariant.within) in
    collected-more c.args.graph.now order c.loop-place.uses c.push_uses.new.uses (place - 1) place (length order - (place - 1)) c.preds_of.result.now (omega (arith, c.loop-place-test.true))
    (omega (arith, c.loop-place-test.true, c.loop-place.invariant.within)) long c.preds_of.ensures.preds c.in_ok-push_uses.ensures.lists c.in_ok-push_uses.ensures.each c.loop-place.invariant

pub returns : goal.returns
returns c =
    let none : c.loop-place.place ≡ 0 = omega (arith, c.loop-place-test.false) in
    subst (λ (n : ℕ). AreUses c.args.graph.now (drop n c.args.order.now) c.loop-place.uses) none c.loop-place.invariant.uses
