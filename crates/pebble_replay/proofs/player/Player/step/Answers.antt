use Rattle.std.proofs.Common.{refl, sym, ◌∙◌, ap, subst, ℕ, ◌+◌, ◌<◌, ◌^◌, Some, arith, add-one}
use Rattle.iolb_model.specs.Game.{loads, stores}
use Rattle.pebble_replay.specs.Played.{computes}
use Rattle.pebble_replay.specs.Player.{StandsFor}
use Rattle.pebble_replay.specs.declared.player.Player.{Player}
use Rattle.pebble_replay.proofs.Stepping.{going, holds-here, loads-fit, stores-fit, computes-fit, stands-next}
use Rattle.pebble_replay.proofs.player.Player.step.Goals as goal

pub with-self-requires-clause-loads : goal.with-self-requires-clause-loads
with-self-requires-clause-loads c =
    let here = sym c.in-Some.ensures.value in
    let stands = going c.args.graph.now c.args.order.now c.args.self.now c.in-Some.hand here c.requires in
    subst (λ (n : ℕ). c.args.self.now.counts.loads + n < 2 ^ 64) (sym (c.counts_of.ensures.loads ∙ ap loads c.as_slice.ensures.value))
    (loads-fit c.args.graph.now c.args.order.now c.args.self.now c.in-Some.hand c.in_ok-hand.hand here stands (omega (arith, stands.place)) c.in_ok-hand.moves.items c.in_ok-hand.ensures.moves
    c.instances-instances.ensures.graph)

pub with-self-requires-clause-stores : goal.with-self-requires-clause-stores
with-self-requires-clause-stores c =
    let here = sym c.in-Some.ensures.value in
    let stands = going c.args.graph.now c.args.order.now c.args.self.now c.in-Some.hand here c.requires in
    subst (λ (n : ℕ). c.args.self.now.counts.stores + n < 2 ^ 64) (sym (c.counts_of.ensures.stores ∙ ap stores c.as_slice.ensures.value))
    (stores-fit c.args.graph.now c.args.order.now c.args.self.now c.in-Some.hand c.in_ok-hand.hand here stands (omega (arith, stands.place)) c.in_ok-hand.moves.items c.in_ok-hand.ensures.moves
    c.instances-instances.ensures.graph)

pub with-self-requires-clause-computes : goal.with-self-requires-clause-computes
with-self-requires-clause-computes c =
    let here = sym c.in-Some.ensures.value in
    let stands = going c.args.graph.now c.args.order.now c.args.self.now c.in-Some.hand here c.requires in
    subst (λ (n : ℕ). c.args.self.now.counts.computes + n < 2 ^ 64) (sym (c.counts_of.ensures.computes ∙ ap computes c.as_slice.ensures.value))
    (computes-fit c.args.graph.now c.args.order.now c.args.self.now c.in-Some.hand c.in_ok-hand.hand here stands (omega (arith, stands.place)) c.in_ok-hand.moves.items c.in_ok-hand.ensures.moves
    c.instances-instances.ensures.graph)

pub returns-clause-more : goal.returns-clause-more
returns-clause-more c =
    let here = sym c.in-Some.ensures.value in
    let stands = going c.args.graph.now c.args.order.now c.args.self.now c.in-Some.hand here c.requires in
    let next = stands-next c.args.graph.now c.args.order.now c.args.self.now c.in-Some.hand c.in_ok-hand.hand here stands (omega (arith, stands.place)) c.in_ok-hand.moves.items c.in_ok-hand.ensures.moves
    c.with-self.result
    (ap (λ r. r.loads) c.with-self.ensures ∙ ap (λ (n : ℕ). c.args.self.now.counts.loads + n) (c.counts_of.ensures.loads ∙ ap loads c.as_slice.ensures.value))
    (ap (λ r. r.stores) c.with-self.ensures ∙ ap (λ (n : ℕ). c.args.self.now.counts.stores + n) (c.counts_of.ensures.stores ∙ ap stores c.as_slice.ensures.value))
    (ap (λ r. r.computes) c.with-self.ensures ∙ ap (λ (n : ℕ). c.args.self.now.counts.computes + n) (c.counts_of.ensures.computes ∙ ap computes c.as_slice.ensures.value))
    c.in_ok-hand.ensures.between c.in_ok-hand.ensures.board in (
      subst (λ (n : ℕ). StandsFor c.args.graph.now c.args.order.now (let p : Player = record { s = c.args.self.now.s; place = n; hand = Some c.in_ok-hand.hand; counts = c.with-self.result } in p)) (sym (add-one c.args.self.now.place)) next,
      add-one c.args.self.now.place,
      refl,
    )

pub returns-clause-moves : goal.returns-clause-moves
returns-clause-moves c =
    let here = sym c.in-Some.ensures.value in
    let stands = going c.args.graph.now c.args.order.now c.args.self.now c.in-Some.hand here c.requires in
    let holds = holds-here c.args.graph.now c.args.order.now c.args.self.now c.in-Some.hand here stands in
    rw holds.board at c.in_ok-hand.ensures.moves

pub returns-clause-before_end : goal.returns-clause-before_end
returns-clause-before_end c =
    let stands = going c.args.graph.now c.args.order.now c.args.self.now c.in-Some.hand (sym c.in-Some.ensures.value) c.requires in
    omega (arith, stands.place, c.if-self-order.false)
