use Rattle.std.proofs.Common.{◌≡◌, rules, arith, ◌∙◌, ap, subst, FitsSigned, ℤ, get_or, ℕ, List}
use mir.Syntax.{w128}
use lib.Signed.{◌≤ℤ◌}
use Rattle.std.proofs.lemmas.Int.{to_z-of_z}
use Rattle.std.proofs.lemmas.List.{get_or_read}
use Rattle.int_sets.specs.declared.chains.Link.{Link}
use Rattle.int_sets.specs.Chains.{chain_of, half_at, link_at}
use Rattle.int_sets.proofs.Linked.{chains-more}
use Rattle.int_sets.proofs.chains.Chains.of.Goals as goal

pub loop-i-preserved : goal.loop-i-preserved
loop-i-preserved c =
    let half = half_at c.args.halves.now c.loop-i.i in
    let fits : FitsSigned w128 half.value = search rules in
    let fits_constant : FitsSigned w128 half.constant = search rules in
    let fits_least : FitsSigned w128 c.least_before-least.result = search rules in
    let next : (d : ℕ) → c.index-next.result.now ≡ get_or c.loop-i.starts.items c.chain_of-chain.result d =
    get_or_read c.loop-i.starts.items c.chain_of-chain.result c.index-next.result.now (omega (arith, c.chain_of-chain.ensures.below, c.loop-i.invariant.chains)) c.index-next.ensures in
    rw (c.in_ok-push.ensures.items, to_z-of_z w128 c.least_before-least.result fits_least)
    (chains-more c.loop-i.i c.args.halves.now c.loop-i.starts.items c.loop-i.links.items c.chain_of-chain.result _ c.loop-i.invariant
    (c.chain_of-chain.ensures.is ∙ ap chain_of (to_z-of_z w128 half.value fits)) c.chain_of-chain.ensures.below
    (next 0)
    (subst (λ (x : ℤ). c.least_before-least.result ≤ℤ x) (to_z-of_z w128 half.constant fits_constant) c.least_before-least.ensures.constant)
    (λ m e. subst (λ (links : List Link). c.least_before-least.result ≤ℤ (link_at links m).least) c.as_slice.ensures.value (c.least_before-least.ensures.behind m (next 0 ∙ e))))
