use Rattle.std.proofs.Common.{◌≡◌, sym, ◌∙◌, ap, subst, ℕ, List, ◌++◌, ◌∷◌, [], ◌+◌, ◌<◌, length, map, drop, get_or, to_z, of_z, rules}
use Rattle.std.specs.Prelude.{ℤ, pos, flat_map}
use mir.Syntax.{w128}
use Rattle.std.proofs.lemmas.Int.{to_z-of_z}
use Rattle.std.proofs.lemmas.List.{append_assoc, drop_more}
use Rattle.iolb_model.specs.Execution.{Instance, at_value, row_runs}
use Rattle.affine_program.specs.declared.item.Item.{Item}
use Rattle.affine_program.specs.Tree.{row_of}
use Rattle.plain_graph.specs.Views.{instance_of}
use Rattle.plain_graph.proofs.runs.+runs_of_row.Goals as goal

-- one more value has its instances
value-done : (f : ℤ → List Instance) (before after tail whole : List Instance) (values : List ℤ) (k : ℕ) (value : ℤ) → k < length values → after ≡ before ++ f (get_or values k value)
    → before ++ (flat_map f (drop k values) ++ tail) ≡ whole → after ++ (flat_map f (drop (k + 1) values) ++ tail) ≡ whole
value-done f before after tail whole values k value below more made =
    let rest = flat_map f (drop (k + 1) values) in
    let new = f (get_or values k value) in
    ap (λ (l : List Instance). l ++ (rest ++ tail)) more
    ∙ append_assoc before new (rest ++ tail)
    ∙ ap (λ (l : List Instance). before ++ l) (sym (append_assoc new rest tail))
    ∙ ap (λ (l : List Instance). before ++ (l ++ tail)) (sym (ap (flat_map f) (drop_more values k value below)))
    ∙ made

pub loop-value-preserved : goal.loop-value-preserved
loop-value-preserved t c =
    let point = c.args.point.now in
    let values = c.as_slice-value-items.result.now in
    let value = get_or values c.loop-value.value-index (pos 0) in
    let body = row_of c.in-Loop.body.items in
    let same : to_z w128 (of_z w128 value) ≡ value = to_z-of_z w128 value (search rules) in
    let inner : c.as_slice.result.now ≡ point ++ value ∷ [] = c.as_slice.ensures.value ∙ c.in_ok-inner-in-Loop.ensures ∙ ap (λ (v : ℤ). point ++ v ∷ []) same in
    let made = subst (λ (l : List Item). map instance_of c.in_ok-runs_of_row-in-Loop.field-0.items ≡ row_runs (row_of l) c.as_slice.result.now) c.deref.ensures.value c.in_ok-runs_of_row-in-Loop.ensures ∙ ap (row_runs body) inner in
    let more = c.in_ok-push_at_value-in-Loop.ensures ∙ ap (λ (l : List Instance). map instance_of c.loop-value.runs.items ++ map (at_value (to_z w128 (of_z w128 value))) l) made
    ∙ ap (λ (v : ℤ). map instance_of c.loop-value.runs.items ++ map (at_value v) (row_runs body (point ++ value ∷ []))) same in
    value-done (λ v. map (at_value v) (row_runs body (point ++ v ∷ []))) (map instance_of c.loop-value.runs.items) (map instance_of c.push_at_value.new.runs.items)
    (row_runs (row_of (drop (c.loop-item.item-index + 1) c.args.row.now)) point) (row_runs (row_of c.args.row.now) point) values c.loop-value.value-index (pos 0) c.loop-value-test.true more c.loop-value.invariant
