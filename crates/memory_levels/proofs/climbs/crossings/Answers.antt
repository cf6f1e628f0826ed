-- Nothing is counted at first.
use Rattle.std.proofs.Common.{◌≡◌, sym, ◌∙◌, ap, [], length, replicate}
use Rattle.std.proofs.lemmas.List.{length-replicate}
use Rattle.memory_levels.specs.Climbs.{crossings}
use Rattle.memory_levels.proofs.Crossings.{none-crossed}
use Rattle.memory_levels.proofs.climbs.crossings.Goals as goal

pub loop-step-init : goal.loop-step-init
loop-step-init c =
    let none : c.in_ok-crossed.crossed.items ≡ replicate c.args.fast (record { brings = 0; sends = 0 }) = c.in_ok-crossed.ensures.items_if_clones_equal (λ y e. e) in
    let each : length c.in_ok-crossed.crossed.items ≡ c.args.fast = ap length none ∙ length-replicate c.args.fast (record { brings = 0; sends = 0 }) in
    record {
      counted = none ∙ none-crossed c.args.fast ∙ ap (λ n. crossings n []) (sym each);
      each = each;
    }
