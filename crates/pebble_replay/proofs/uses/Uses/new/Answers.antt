use Rattle.std.proofs.Common.{◌∙◌, ap, ℕ, List, [], map}
use Rattle.pebble_replay.specs.Chains.{uses_from}
use Rattle.pebble_replay.proofs.UseLists.{no-uses}
use Rattle.pebble_replay.proofs.uses.Uses.new.Goals as goal

pub returns : goal.returns
returns c =
    ap (λ (all : List (ℕ × ℕ)). map (uses_from all) c.in_ok-vec.field-0.items) c.new.ensures.items
    ∙ ap (map (uses_from [])) (c.in_ok-vec.ensures.items_if_clones_equal (λ y e. e)) ∙ no-uses c.args.vertices
