use Rattle.std.proofs.Common.{◌≡◌, ◌∙◌, ap, ℕ, replicate}
use Rattle.std.specs.Prelude.{option_map}
use Rattle.cover_lp.proofs.Pairs.{found-cover}
use Rattle.cover_lp.proofs.least.cover_of.Goals as goal

pub returns : goal.returns
returns c =
    let needs : c.as_slice.result.now ≡ replicate c.args.d c.args.q = rw c.as_slice.ensures.value (c.in_ok-needs.ensures ∙ ap (λ (n : ℕ). replicate n c.args.q) c.from.ensures) in
    found-cover c.args.sets.now c.args.d c.args.q c.args.total c.as_slice.result.now (option_map (λ weights. weights.items) c.in_ok-found.found) needs c.in_ok-found.ensures
