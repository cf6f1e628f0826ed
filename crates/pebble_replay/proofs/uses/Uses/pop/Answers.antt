use Rattle.std.proofs.Common.{◌≡◌, sym, ◌∙◌, ap, ℕ, ◌<◌, List, [], length, map, drop, set, get_or, arith}
use Rattle.std.proofs.lemmas.List.{get_or-map, length-map, set-get_or}
use Rattle.pebble_replay.specs.Chains.{uses_from}
use Rattle.pebble_replay.proofs.UseLists.{use-popped}
use Rattle.pebble_replay.proofs.uses.Uses.pop.Goals as goal

-- a vertex without uses keeps none
none-left : (all : List (ℕ × ℕ)) (firsts : List ℕ) (whole : List (List ℕ)) (u first : ℕ) → map (uses_from all) firsts ≡ whole → u < length whole → first ≡ get_or firsts u first → first ≡ 0
    → whole ≡ set whole u (drop 1 (get_or whole u []))
none-left all firsts whole u first e there is none =
    let within : u < length firsts = omega (arith, there, ap length e, length-map firsts (uses_from all)) in
    let empty : get_or whole u [] ≡ [] = ap (λ (l : List (List ℕ)). get_or l u []) (sym e) ∙ get_or-map (uses_from all) firsts u first [] within ∙ ap (uses_from all) (sym is ∙ none) in
    sym (set-get_or whole u []) ∙ ap (set whole u) (empty ∙ sym (ap (drop 1) empty))

pub returns-then-first-ne0 : goal.returns-then-first-ne0
returns-then-first-ne0 c =
    use-popped c.self.inside.all.items c.self.inside.firsts.items c.args.self.now c.args.u c.index-first.result.now c.self.invariant c.self.view_is c.requires c.index-first.ensures
    c.index.result.now (omega (arith, c.if-first-ne0.true)) c.index.ensures

pub returns-else-first-ne0 : goal.returns-else-first-ne0
returns-else-first-ne0 c = none-left c.self.inside.all.items c.self.inside.firsts.items c.args.self.now c.args.u c.index-first.result.now c.self.view_is c.requires c.index-first.ensures (omega (arith, c.if-first-ne0.false))
