use Rattle.std.proofs.Common.{refl, sym, [], rules}
use Rattle.cover_lp.proofs.Search.{none-meets, zero-met}
use Rattle.cover_lp.proofs.weights.weights_of_none.Goals as goal

pub returns-then-not-is_met : goal.returns-then-not-is_met
returns-then-not-is_met c = λ found meets.
    let zeros = (none-meets c.args.needs.now c.args.total found meets).1 in
    let met = c.if-not-is_met.ensures.1 zeros in absurd cc

pub returns : goal.returns
returns c = rw c.new.ensures.items (record {
  one_each = refl;
  met = zero-met [] 0 c.args.needs.now (c.if-not-is_met.ensures.0 (search rules));
  adds_up = sym c.if-total-ne0.false;
})
