use Rattle.std.proofs.Common.{ℕ, ◌≡◌, refl, sym, ap, ◌∙◌, subst, ◌++◌, ◌∷◌, [], List, true, map, length, drop, ◌+◌, ◌<◌, to_z, of_z, rules, arith}
use Rattle.std.specs.Prelude.{ℤ, Option, MatchOption, flat_map}
use mir.Syntax.{w128}
use Rattle.std.proofs.lemmas.Int.{to_z-of_z}
use Rattle.iolb_model.specs.Program.{Item as ModelItem, loop, guard, assign, Row, ItemFits}
use Rattle.iolb_model.specs.Form.{AffineForm, form_value, are_met}
use Rattle.std.specs.List.{AllByRecursion}
use Rattle.std.proofs.lemmas.List.{append-nil}
use Rattle.affine_form.specs.Form.{IsSmall}
use Rattle.affine_form.specs.Rows.{direction_of}
use Rattle.loop_graph.specs.Values.{values_left}
use Rattle.loop_graph.specs.declared.values.Values.{Values}
use Rattle.affine_program.specs.declared.item.Item.{Item}
use Rattle.affine_program.specs.Tree.{item_of, row_of}
use Rattle.iolb_model.specs.Execution.{loop_values, item_runs, row_runs}
use Rattle.loop_graph.specs.Runs.{with_point, run_of}
use Rattle.loop_graph.proofs.Walks.{All-both, turns_at, values_hold, row_seen, row_goes_on, row_asks, body_asks, assign_done, guarded_asks, guarded_smaller, loop_points, loop_goes_on, RowAsks, item_of-Guard, item_of-Loop, item_of-Assign, body_smaller, item_smaller, item_size, row_size}
use Rattle.iolb_model.specs.declared.limits.TheConstants.{VALUE_SIZE}
use Rattle.loop_graph.proofs.listed.+walk.Goals as goal

pub push_row-push_item-requires : goal.push_row-push_item-requires
push_row-push_item-requires t c =
    let asks = row_asks c.args.row.now c.loop-item.item-index c.item-item.result c.args.point.now c.loop-item-test.true c.item-item.is (c.loop-item.invariant.fits, c.loop-item.invariant.turns) in
    let fewer : item_size (item_of c.item-item.result) < row_size (row_of c.args.row.now) = item_smaller c.args.row.now c.loop-item.item-index c.item-item.result c.loop-item-test.true c.item-item.is in
    let d : item_size (item_of c.item-item.result) < t = omega (arith, c.decreases) in
    (d, (asks.0.0, (c.requires.point, asks.0.1)))

pub push_row-loop-item-preserved : goal.push_row-loop-item-preserved
push_row-loop-item-preserved t c =
    let asks = row_asks c.args.row.now c.loop-item.item-index c.item-item.result c.args.point.now c.loop-item-test.true c.item-item.is (c.loop-item.invariant.fits, c.loop-item.invariant.turns) in
    let seen = row_seen c.args.row.now c.loop-item.item-index c.item-item.result c.loop-item-test.true c.item-item.is in
    record {
      runs = row_goes_on (item_of c.item-item.result) (row_of (drop (c.loop-item.item-index + 1) c.args.row.now)) c.args.point.now (map run_of c.loop-item.runs.items) (map run_of c.push_item.new.runs.items)
          (map run_of c.args.runs.now.items ++ map (with_point c.args.point.now) (row_runs (row_of c.args.row.now) c.args.point.now)) c.in_ok-push_item.ensures
          (subst (λ (r : Row). map run_of c.loop-item.runs.items ++ map (with_point c.args.point.now) (row_runs r c.args.point.now) ≡ map run_of c.args.runs.now.items ++ map (with_point c.args.point.now) (row_runs (row_of c.args.row.now) c.args.point.now)) seen c.loop-item.invariant.runs);
      fits = asks.1.0;
      turns = asks.1.1;
    }

pub push_item-next-requires : goal.push_item-next-requires
push_item-next-requires t c = record { small = values_hold (IsSmall VALUE_SIZE) (row_of c.in-Loop.body.items) c.args.point.now (values_left c.loop-value.values) c.loop-value.invariant.turns }

pub push_item-push_row-requires : goal.push_item-push_row-requires
push_item-push_row-requires t c =
    let is : item_of c.args.item.now ≡ loop c.in-Loop.name (direction_of c.in-Loop.down) c.in-Loop.lower c.in-Loop.upper (row_of c.in-Loop.body.items) = ap item_of c.in-Loop.is ∙ item_of-Loop c.in-Loop.name c.in-Loop.lower c.in-Loop.upper c.in-Loop.down c.in-Loop.body in
    let fits : ItemFits c.requires.fits.0 (length c.args.point.now) (loop c.in-Loop.name (direction_of c.in-Loop.down) c.in-Loop.lower c.in-Loop.upper (row_of c.in-Loop.body.items)) =
    subst (ItemFits c.requires.fits.0 (length c.args.point.now)) is c.requires.fits.1 in
    let inner : c.as_slice.result.now ≡ c.args.point.now ++ c.in-Some.value ∷ [] =
    c.as_slice.ensures.value ∙ c.in_ok-put_point-in-Loop.ensures ∙ ap (λ v. c.args.point.now ++ v ∷ []) (to_z-of_z w128 c.in-Some.value (search rules)) in
    let turns : AllByRecursion (IsSmall VALUE_SIZE) (flat_map (turns_at (row_of c.in-Loop.body.items) c.args.point.now) (c.in-Some.value ∷ values_left c.next.new.self)) =
    subst (λ (vs : List ℤ). AllByRecursion (IsSmall VALUE_SIZE) (flat_map (turns_at (row_of c.in-Loop.body.items) c.args.point.now) vs)) c.in-Some.ensures c.loop-value.invariant.turns in
    let asks = body_asks (row_of c.in-Loop.body.items) c.args.point.now c.as_slice.result.now c.in-Some.value (values_left c.next.new.self) inner (c.requires.fits.0, fits.2) c.requires.point turns in
    let body : RowAsks (row_of c.deref.result.now) c.as_slice.result.now = subst (λ (l : List Item). RowAsks (row_of l) c.as_slice.result.now) (sym c.deref.ensures.value) asks.0 in
    let fewer : row_size (row_of c.in-Loop.body.items) < item_size (item_of c.args.item.now) = body_smaller (item_of c.args.item.now) c.in-Loop.name (direction_of c.in-Loop.down) c.in-Loop.lower c.in-Loop.upper (row_of c.in-Loop.body.items) is in
    let d : row_size (row_of c.deref.result.now) < t = omega (arith, c.decreases, ap (λ (l : List Item). row_size (row_of l)) c.deref.ensures.value) in
    (d, (body.0, (asks.1, body.1)))

pub push_item-loop-value-smaller : goal.push_item-loop-value-smaller
push_item-loop-value-smaller t c = omega (arith, ap length c.in-Some.ensures)

pub push_item-loop-value-preserved : goal.push_item-loop-value-preserved
push_item-loop-value-preserved t c =
    let inner : c.as_slice.result.now ≡ c.args.point.now ++ c.in-Some.value ∷ [] =
    c.as_slice.ensures.value ∙ c.in_ok-put_point-in-Loop.ensures ∙ ap (λ v. c.args.point.now ++ v ∷ []) (to_z-of_z w128 c.in-Some.value (search rules)) in
    let turns : AllByRecursion (IsSmall VALUE_SIZE) (flat_map (turns_at (row_of c.in-Loop.body.items) c.args.point.now) (c.in-Some.value ∷ values_left c.next.new.self)) =
    subst (λ (vs : List ℤ). AllByRecursion (IsSmall VALUE_SIZE) (flat_map (turns_at (row_of c.in-Loop.body.items) c.args.point.now) vs)) c.in-Some.ensures c.loop-value.invariant.turns in
    let pushed : map run_of c.push_row.new.runs.items ≡ map run_of c.loop-value.runs.items ++ map (with_point (c.args.point.now ++ c.in-Some.value ∷ [])) (row_runs (row_of c.in-Loop.body.items) (c.args.point.now ++ c.in-Some.value ∷ [])) =
    subst (λ (l : List ℤ). map run_of c.push_row.new.runs.items ≡ map run_of c.loop-value.runs.items ++ map (with_point l) (row_runs (row_of c.in-Loop.body.items) l)) inner
    (subst (λ (l : List Item). map run_of c.push_row.new.runs.items ≡ map run_of c.loop-value.runs.items ++ map (with_point c.as_slice.result.now) (row_runs (row_of l) c.as_slice.result.now)) c.deref.ensures.value c.in_ok-push_row-in-Loop.ensures) in
    let values : Values = record { lower = to_z w128 (of_z w128 c.value-lowest.result); upper = to_z w128 (of_z w128 c.value-highest.result); down = c.in-Loop.down } in
    let all : List (ℕ × List ℤ) = map run_of c.args.runs.now.items ++ loop_points (row_of c.in-Loop.body.items) c.args.point.now (values_left values) in
    record {
      runs = loop_goes_on (row_of c.in-Loop.body.items) c.args.point.now c.in-Some.value (values_left c.next.new.self) (map run_of c.loop-value.runs.items) (map run_of c.push_row.new.runs.items) all pushed
          (subst (λ (vs : List ℤ). map run_of c.loop-value.runs.items ++ loop_points (row_of c.in-Loop.body.items) c.args.point.now vs ≡ all) c.in-Some.ensures c.loop-value.invariant.runs);
      turns = (All-both (IsSmall VALUE_SIZE) (turns_at (row_of c.in-Loop.body.items) c.args.point.now c.in-Some.value) (flat_map (turns_at (row_of c.in-Loop.body.items) c.args.point.now) (values_left c.next.new.self)) turns).1;
    }

pub push_item-returns-in_ok-push-in-Assign : goal.push_item-returns-in_ok-push-in-Assign
push_item-returns-in_ok-push-in-Assign t c =
    let is : item_of c.args.item.now ≡ assign c.in-Assign.statement = ap item_of c.in-Assign.is ∙ item_of-Assign c.in-Assign.statement in
    let done = assign_done c.args.runs.now.items c.push.new.self.items (record { statement = c.in-Assign.statement; point = c.in_ok-from_slice-in-Assign.field-0 }) c.in-Assign.statement c.args.point.now
    c.in_ok-push-in-Assign.ensures.items refl c.in_ok-from_slice-in-Assign.ensures.items in
    subst (λ (i : ModelItem). map run_of c.push.new.self.items ≡ map run_of c.args.runs.now.items ++ map (with_point c.args.point.now) (item_runs i c.args.point.now)) (sym is) done

pub push_item-returns-in_default : goal.push_item-returns-in_default
push_item-returns-in_default t c =
    let is : item_of c.args.item.now ≡ loop c.in-Loop.name (direction_of c.in-Loop.down) c.in-Loop.lower c.in-Loop.upper (row_of c.in-Loop.body.items) = ap item_of c.in-Loop.is ∙ item_of-Loop c.in-Loop.name c.in-Loop.lower c.in-Loop.upper c.in-Loop.down c.in-Loop.body in
    let lower : to_z w128 (of_z w128 c.value-lowest.result) ≡ form_value c.in-Loop.lower c.args.point.now = to_z-of_z w128 c.value-lowest.result (search rules) ∙ c.value-lowest.ensures in
    let upper : to_z w128 (of_z w128 c.value-highest.result) ≡ form_value c.in-Loop.upper c.args.point.now = to_z-of_z w128 c.value-highest.result (search rules) ∙ c.value-highest.ensures in
    let values : Values = record { lower = to_z w128 (of_z w128 c.value-lowest.result); upper = to_z w128 (of_z w128 c.value-highest.result); down = c.in-Loop.down } in
    let all : List (ℕ × List ℤ) = map run_of c.args.runs.now.items ++ loop_points (row_of c.in-Loop.body.items) c.args.point.now (values_left values) in
    let none : values_left c.loop-value.values ≡ [] =
    subst (λ (o : Option ℤ). MatchOption o (values_left c.loop-value.values ≡ []) (λ (value : ℤ). values_left c.loop-value.values ≡ value ∷ values_left c.next.new.self)) c.in_default.is c.next.ensures in
    let done : map run_of c.loop-value.runs.items ≡ all = sym (append-nil (map run_of c.loop-value.runs.items))
    ∙ subst (λ (vs : List ℤ). map run_of c.loop-value.runs.items ++ loop_points (row_of c.in-Loop.body.items) c.args.point.now vs ≡ all) none c.loop-value.invariant.runs in
    subst (λ (i : ModelItem). map run_of c.loop-value.runs.items ≡ map run_of c.args.runs.now.items ++ map (with_point c.args.point.now) (item_runs i c.args.point.now)) (sym is)
    (done ∙ ap (λ (v : ℤ). map run_of c.args.runs.now.items ++ loop_points (row_of c.in-Loop.body.items) c.args.point.now (loop_values (direction_of c.in-Loop.down) v (to_z w128 (of_z w128 c.value-highest.result)))) lower
    ∙ ap (λ (v : ℤ). map run_of c.args.runs.now.items ++ loop_points (row_of c.in-Loop.body.items) c.args.point.now (loop_values (direction_of c.in-Loop.down) (form_value c.in-Loop.lower c.args.point.now) v)) upper)

pub push_item-push_row-requires-then-are_met : goal.push_item-push_row-requires-then-are_met
push_item-push_row-requires-then-are_met t c =
    let is : item_of c.args.item.now ≡ guard c.in-Guard.rows.items (row_of c.in-Guard.body.items) = ap item_of c.in-Guard.is ∙ item_of-Guard c.in-Guard.rows c.in-Guard.body in
    let met : are_met c.in-Guard.rows.items c.args.point.now ≡ true =
    ap (λ (rows : List AffineForm). are_met rows c.args.point.now) (sym c.deref-in-Guard.ensures.value) ∙ sym c.are_met.ensures ∙ c.if-are_met.true in
    let asks = guarded_asks (item_of c.args.item.now) c.in-Guard.rows.items (row_of c.in-Guard.body.items) c.args.point.now is met (c.requires.fits, c.requires.turns) in
    let body : RowAsks (row_of c.deref-then-are_met.result.now) c.args.point.now = subst (λ (l : List Item). RowAsks (row_of l) c.args.point.now) (sym c.deref-then-are_met.ensures.value) asks in
    let fewer : row_size (row_of c.in-Guard.body.items) < item_size (item_of c.args.item.now) = guarded_smaller (item_of c.args.item.now) c.in-Guard.rows.items (row_of c.in-Guard.body.items) is in
    let d : row_size (row_of c.deref-then-are_met.result.now) < t = omega (arith, c.decreases, ap (λ (l : List Item). row_size (row_of l)) c.deref-then-are_met.ensures.value) in
    (d, (body.0, (c.requires.point, body.1)))
