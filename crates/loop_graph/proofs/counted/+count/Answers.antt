use Rattle.std.proofs.Common.{◌≡◌, refl, sym, ap, ◌∙◌, subst, ◌++◌, ◌∷◌, [], suc, true, false, List, length, drop, ◌+◌, ◌<◌, to_z, of_z, rules, arith}
use Rattle.std.specs.Prelude.{ℤ, Option, Some, None, MatchOption}
use Rattle.std.proofs.lemmas.List.{drop_all, length-append}
use Rattle.base_laws.proofs.Lists.{All-push}
use Rattle.iolb_model.specs.Form.{form_value}
use Rattle.loop_graph.specs.declared.counted.Room.{Room}
use mir.Syntax.{w128}
use Rattle.std.proofs.lemmas.Int.{to_z-of_z}
use Rattle.std.specs.List.{AllByRecursion}
use Rattle.iolb_model.specs.Program.{next, loop, guard, ItemFits, RowFits}
use Rattle.affine_form.specs.Form.{IsSmall}
use Rattle.affine_form.specs.Rows.{direction_of}
use Rattle.loop_graph.specs.Values.{values_left}
use Rattle.loop_graph.specs.declared.values.Values.{Values}
use Rattle.affine_program.specs.declared.item.Item.{Item}
use Rattle.affine_program.specs.Tree.{item_of, row_of}
use Rattle.loop_graph.proofs.Walks.{row_seen, item_of-Guard, item_of-Loop, body_smaller, guarded_smaller, item_smaller, item_size, row_size}
use Rattle.loop_graph.proofs.Counting.{RowLeft, LoopGoesOn, item_taken, item_too_long, nothing_taken, turn_taken, body_too_long, no_turn_left, all_taken, ItemLeft, loop_left, may_not_begin, values_small}
use Rattle.iolb_model.specs.declared.limits.TheConstants.{VALUE_SIZE}
use Rattle.loop_graph.proofs.counted.+count.Goals as goal

pub behind_row-loop-item-init : goal.behind_row-loop-item-init
behind_row-loop-item-init t c = record { counts = λ out h. h; fits = c.requires.fits }

pub behind_row-behind_item-requires : goal.behind_row-behind_item-requires
behind_row-behind_item-requires t c =
    let seen : RowFits c.loop-item.invariant.fits.0 (length c.args.point.now) (next (item_of c.item-item.result) (row_of (drop (c.loop-item.item-index + 1) c.args.row.now))) =
    subst (RowFits c.loop-item.invariant.fits.0 (length c.args.point.now)) (row_seen c.args.row.now c.loop-item.item-index c.item-item.result c.loop-item-test.true c.item-item.is) c.loop-item.invariant.fits.1 in
    let fewer : item_size (item_of c.item-item.result) < row_size (row_of c.args.row.now) = item_smaller c.args.row.now c.loop-item.item-index c.item-item.result c.loop-item-test.true c.item-item.is in
    let d : item_size (item_of c.item-item.result) < t = omega (arith, c.decreases) in
    (d, ((c.loop-item.invariant.fits.0, seen.0), c.requires.point))

pub behind_row-returns-in-None : goal.behind_row-returns-in-None
behind_row-returns-in-None t c =
    item_too_long c.args.row.now c.loop-item.item-index c.item-item.result c.args.point.now c.loop-item.left c.args.room c.loop-item-test.true c.item-item.is
    (subst (ItemLeft (item_of c.item-item.result) c.args.point.now c.loop-item.left) c.in-None.is c.in_ok-rest.ensures) c.loop-item.invariant.counts

pub behind_row-loop-item-preserved : goal.behind_row-loop-item-preserved
behind_row-loop-item-preserved t c =
    let seen : RowFits c.loop-item.invariant.fits.0 (length c.args.point.now) (next (item_of c.item-item.result) (row_of (drop (c.loop-item.item-index + 1) c.args.row.now))) =
    subst (RowFits c.loop-item.invariant.fits.0 (length c.args.point.now)) (row_seen c.args.row.now c.loop-item.item-index c.item-item.result c.loop-item-test.true c.item-item.is) c.loop-item.invariant.fits.1 in
    record {
      counts = item_taken c.args.row.now c.loop-item.item-index c.item-item.result c.args.point.now c.loop-item.left c.in-Some.rest c.args.room c.loop-item-test.true c.item-item.is
          (subst (ItemLeft (item_of c.item-item.result) c.args.point.now c.loop-item.left) c.in-Some.is c.in_ok-rest.ensures) c.loop-item.invariant.counts;
      fits = (c.loop-item.invariant.fits.0, seen.1);
    }

pub behind_row-returns : goal.behind_row-returns
behind_row-returns t c =
    c.loop-item.invariant.counts (Some c.loop-item.left)
    (subst (λ (l : List Item). RowLeft (row_of l) c.args.point.now c.loop-item.left (Some c.loop-item.left)) (sym (drop_all c.loop-item.item-index c.args.row.now c.loop-item-test.false)) (nothing_taken c.loop-item.left))

pub behind_item-returns-then-not-may_begin : goal.behind_item-returns-then-not-may_begin
behind_item-returns-then-not-may_begin t c =
    let is : item_of c.args.item.now ≡ loop c.in-Loop.name (direction_of c.in-Loop.down) c.in-Loop.lower c.in-Loop.upper (row_of c.in-Loop.body.items) = ap item_of c.in-Loop.is ∙ item_of-Loop c.in-Loop.name c.in-Loop.lower c.in-Loop.upper c.in-Loop.down c.in-Loop.body in
    let low : to_z w128 (of_z w128 c.value-lowest.result) ≡ form_value c.in-Loop.lower c.args.point.now = to_z-of_z w128 c.value-lowest.result (search rules) ∙ c.value-lowest.ensures in
    let high : to_z w128 (of_z w128 c.value-highest.result) ≡ form_value c.in-Loop.upper c.args.point.now = to_z-of_z w128 c.value-highest.result (search rules) ∙ c.value-highest.ensures in
    let values : Values = record { lower = to_z w128 (of_z w128 c.value-lowest.result); upper = to_z w128 (of_z w128 c.value-highest.result); down = c.in-Loop.down } in
    loop_left (item_of c.args.item.now) c.in-Loop.name c.in-Loop.lower c.in-Loop.upper (row_of c.in-Loop.body.items) c.args.point.now values c.args.room None is low high
    (may_not_begin (row_of c.in-Loop.body.items) c.args.point.now values c.args.room (λ may. let e : false ≡ true = c.if-not-may_begin.ensures.1 may in absurd cc))

pub behind_item-loop-value-init : goal.behind_item-loop-value-init
behind_item-loop-value-init t c = record { counts = λ out h. h; small = values_small _ c.args.room (c.if-not-may_begin.ensures.0 refl) }

pub behind_item-next-requires : goal.behind_item-next-requires
behind_item-next-requires t c = record { small = c.loop-value.invariant.small }

pub behind_item-returns-in_default-behind_turn : goal.behind_item-returns-in_default-behind_turn
behind_item-returns-in_default-behind_turn t c =
    let is : item_of c.args.item.now ≡ loop c.in-Loop.name (direction_of c.in-Loop.down) c.in-Loop.lower c.in-Loop.upper (row_of c.in-Loop.body.items) = ap item_of c.in-Loop.is ∙ item_of-Loop c.in-Loop.name c.in-Loop.lower c.in-Loop.upper c.in-Loop.down c.in-Loop.body in
    let low : to_z w128 (of_z w128 c.value-lowest.result) ≡ form_value c.in-Loop.lower c.args.point.now = to_z-of_z w128 c.value-lowest.result (search rules) ∙ c.value-lowest.ensures in
    let high : to_z w128 (of_z w128 c.value-highest.result) ≡ form_value c.in-Loop.upper c.args.point.now = to_z-of_z w128 c.value-highest.result (search rules) ∙ c.value-highest.ensures in
    let values : Values = record { lower = to_z w128 (of_z w128 c.value-lowest.result); upper = to_z w128 (of_z w128 c.value-highest.result); down = c.in-Loop.down } in
    let counts : LoopGoesOn (row_of c.in-Loop.body.items) c.args.point.now (values_left values) (c.in-Some.value ∷ values_left c.next.new.self) c.loop-value.left c.args.room =
    subst (λ (vs : List ℤ). LoopGoesOn (row_of c.in-Loop.body.items) c.args.point.now (values_left values) vs c.loop-value.left c.args.room) c.in-Some.ensures c.loop-value.invariant.counts in
    let none : c.loop-value.left.turns ≡ 0 =
    subst (λ (o : Option Room). MatchOption o (c.loop-value.left.turns ≡ 0) (λ (left : Room). record { turns = left.turns + 1; instances = left.instances } ≡ c.loop-value.left)) c.in_default-behind_turn.is c.behind_turn.ensures in
    loop_left (item_of c.args.item.now) c.in-Loop.name c.in-Loop.lower c.in-Loop.upper (row_of c.in-Loop.body.items) c.args.point.now values c.args.room None is low high
    (no_turn_left (row_of c.in-Loop.body.items) c.args.point.now (values_left values) c.in-Some.value (values_left c.next.new.self) c.loop-value.left c.args.room none counts)

pub behind_item-behind_row-requires : goal.behind_item-behind_row-requires
behind_item-behind_row-requires t c =
    let is : item_of c.args.item.now ≡ loop c.in-Loop.name (direction_of c.in-Loop.down) c.in-Loop.lower c.in-Loop.upper (row_of c.in-Loop.body.items) = ap item_of c.in-Loop.is ∙ item_of-Loop c.in-Loop.name c.in-Loop.lower c.in-Loop.upper c.in-Loop.down c.in-Loop.body in
    let small : AllByRecursion (IsSmall VALUE_SIZE) (c.in-Some.value ∷ values_left c.next.new.self) = subst (AllByRecursion (IsSmall VALUE_SIZE)) c.in-Some.ensures c.loop-value.invariant.small in
    let inner : c.as_slice.result.now ≡ c.args.point.now ++ c.in-Some.value ∷ [] =
    c.as_slice.ensures.value ∙ c.in_ok-put_point-in-Loop.ensures ∙ ap (λ v. c.args.point.now ++ v ∷ []) (to_z-of_z w128 c.in-Some.value (search rules)) in
    let fits : ItemFits c.requires.fits.0 (length c.args.point.now) (loop c.in-Loop.name (direction_of c.in-Loop.down) c.in-Loop.lower c.in-Loop.upper (row_of c.in-Loop.body.items)) = subst (ItemFits c.requires.fits.0 (length c.args.point.now)) is c.requires.fits.1 in
    let long : suc (length c.args.point.now) ≡ length c.as_slice.result.now = omega (arith, ap length inner, length-append c.args.point.now (c.in-Some.value ∷ [])) in
    let body : RowFits c.requires.fits.0 (length c.as_slice.result.now) (row_of c.deref.result.now) =
    subst (λ (l : List Item). RowFits c.requires.fits.0 (length c.as_slice.result.now) (row_of l)) (sym c.deref.ensures.value) (subst (λ n. RowFits c.requires.fits.0 n (row_of c.in-Loop.body.items)) long fits.2) in
    let point : AllByRecursion (IsSmall VALUE_SIZE) c.as_slice.result.now = subst (AllByRecursion (IsSmall VALUE_SIZE)) (sym inner) (All-push (IsSmall VALUE_SIZE) c.args.point.now c.in-Some.value c.requires.point small.0) in
    let fewer : row_size (row_of c.in-Loop.body.items) < item_size (item_of c.args.item.now) = body_smaller (item_of c.args.item.now) c.in-Loop.name (direction_of c.in-Loop.down) c.in-Loop.lower c.in-Loop.upper (row_of c.in-Loop.body.items) is in
    let d : row_size (row_of c.deref.result.now) < t = omega (arith, c.decreases, ap (λ (l : List Item). row_size (row_of l)) c.deref.ensures.value) in
    (d, ((c.requires.fits.0, body), point))

pub behind_item-returns-in-None : goal.behind_item-returns-in-None
behind_item-returns-in-None t c =
    let is : item_of c.args.item.now ≡ loop c.in-Loop.name (direction_of c.in-Loop.down) c.in-Loop.lower c.in-Loop.upper (row_of c.in-Loop.body.items) = ap item_of c.in-Loop.is ∙ item_of-Loop c.in-Loop.name c.in-Loop.lower c.in-Loop.upper c.in-Loop.down c.in-Loop.body in
    let low : to_z w128 (of_z w128 c.value-lowest.result) ≡ form_value c.in-Loop.lower c.args.point.now = to_z-of_z w128 c.value-lowest.result (search rules) ∙ c.value-lowest.ensures in
    let high : to_z w128 (of_z w128 c.value-highest.result) ≡ form_value c.in-Loop.upper c.args.point.now = to_z-of_z w128 c.value-highest.result (search rules) ∙ c.value-highest.ensures in
    let values : Values = record { lower = to_z w128 (of_z w128 c.value-lowest.result); upper = to_z w128 (of_z w128 c.value-highest.result); down = c.in-Loop.down } in
    let counts : LoopGoesOn (row_of c.in-Loop.body.items) c.args.point.now (values_left values) (c.in-Some.value ∷ values_left c.next.new.self) c.loop-value.left c.args.room =
    subst (λ (vs : List ℤ). LoopGoesOn (row_of c.in-Loop.body.items) c.args.point.now (values_left values) vs c.loop-value.left c.args.room) c.in-Some.ensures c.loop-value.invariant.counts in
    let small : AllByRecursion (IsSmall VALUE_SIZE) (c.in-Some.value ∷ values_left c.next.new.self) = subst (AllByRecursion (IsSmall VALUE_SIZE)) c.in-Some.ensures c.loop-value.invariant.small in
    let inner : c.as_slice.result.now ≡ c.args.point.now ++ c.in-Some.value ∷ [] =
    c.as_slice.ensures.value ∙ c.in_ok-put_point-in-Loop.ensures ∙ ap (λ v. c.args.point.now ++ v ∷ []) (to_z-of_z w128 c.in-Some.value (search rules)) in
    let taken : RowLeft (row_of c.in-Loop.body.items) (c.args.point.now ++ c.in-Some.value ∷ []) c.in-Some-behind_turn.entered c.in_ok-rest-in-Loop.field-0 =
    subst (λ (l : List ℤ). RowLeft (row_of c.in-Loop.body.items) l c.in-Some-behind_turn.entered c.in_ok-rest-in-Loop.field-0) inner
    (subst (λ (l : List Item). RowLeft (row_of l) c.as_slice.result.now c.in-Some-behind_turn.entered c.in_ok-rest-in-Loop.field-0) c.deref.ensures.value c.in_ok-rest-in-Loop.ensures) in
    loop_left (item_of c.args.item.now) c.in-Loop.name c.in-Loop.lower c.in-Loop.upper (row_of c.in-Loop.body.items) c.args.point.now values c.args.room None is low high
    (body_too_long (row_of c.in-Loop.body.items) c.args.point.now (values_left values) c.in-Some.value (values_left c.next.new.self) c.loop-value.left c.in-Some-behind_turn.entered c.args.room small.0 c.in-Some-behind_turn.ensures
    (subst (RowLeft (row_of c.in-Loop.body.items) (c.args.point.now ++ c.in-Some.value ∷ []) c.in-Some-behind_turn.entered) c.in-None.is taken) counts)

pub behind_item-loop-value-smaller : goal.behind_item-loop-value-smaller
behind_item-loop-value-smaller t c = omega (arith, ap length c.in-Some.ensures)

pub behind_item-loop-value-preserved : goal.behind_item-loop-value-preserved
behind_item-loop-value-preserved t c =
    let values : Values = record { lower = to_z w128 (of_z w128 c.value-lowest.result); upper = to_z w128 (of_z w128 c.value-highest.result); down = c.in-Loop.down } in
    let counts : LoopGoesOn (row_of c.in-Loop.body.items) c.args.point.now (values_left values) (c.in-Some.value ∷ values_left c.next.new.self) c.loop-value.left c.args.room =
    subst (λ (vs : List ℤ). LoopGoesOn (row_of c.in-Loop.body.items) c.args.point.now (values_left values) vs c.loop-value.left c.args.room) c.in-Some.ensures c.loop-value.invariant.counts in
    let small : AllByRecursion (IsSmall VALUE_SIZE) (c.in-Some.value ∷ values_left c.next.new.self) = subst (AllByRecursion (IsSmall VALUE_SIZE)) c.in-Some.ensures c.loop-value.invariant.small in
    let inner : c.as_slice.result.now ≡ c.args.point.now ++ c.in-Some.value ∷ [] =
    c.as_slice.ensures.value ∙ c.in_ok-put_point-in-Loop.ensures ∙ ap (λ v. c.args.point.now ++ v ∷ []) (to_z-of_z w128 c.in-Some.value (search rules)) in
    let taken : RowLeft (row_of c.in-Loop.body.items) (c.args.point.now ++ c.in-Some.value ∷ []) c.in-Some-behind_turn.entered c.in_ok-rest-in-Loop.field-0 =
    subst (λ (l : List ℤ). RowLeft (row_of c.in-Loop.body.items) l c.in-Some-behind_turn.entered c.in_ok-rest-in-Loop.field-0) inner
    (subst (λ (l : List Item). RowLeft (row_of l) c.as_slice.result.now c.in-Some-behind_turn.entered c.in_ok-rest-in-Loop.field-0) c.deref.ensures.value c.in_ok-rest-in-Loop.ensures) in
    record {
      counts = turn_taken (row_of c.in-Loop.body.items) c.args.point.now (values_left values) c.in-Some.value (values_left c.next.new.self) c.loop-value.left c.in-Some-behind_turn.entered c.in-Some-2.rest c.args.room small.0 c.in-Some-behind_turn.ensures
          (subst (RowLeft (row_of c.in-Loop.body.items) (c.args.point.now ++ c.in-Some.value ∷ []) c.in-Some-behind_turn.entered) c.in-Some-2.is taken) counts;
      small = small.1;
    }

pub behind_item-returns-in_default : goal.behind_item-returns-in_default
behind_item-returns-in_default t c =
    let is : item_of c.args.item.now ≡ loop c.in-Loop.name (direction_of c.in-Loop.down) c.in-Loop.lower c.in-Loop.upper (row_of c.in-Loop.body.items) = ap item_of c.in-Loop.is ∙ item_of-Loop c.in-Loop.name c.in-Loop.lower c.in-Loop.upper c.in-Loop.down c.in-Loop.body in
    let low : to_z w128 (of_z w128 c.value-lowest.result) ≡ form_value c.in-Loop.lower c.args.point.now = to_z-of_z w128 c.value-lowest.result (search rules) ∙ c.value-lowest.ensures in
    let high : to_z w128 (of_z w128 c.value-highest.result) ≡ form_value c.in-Loop.upper c.args.point.now = to_z-of_z w128 c.value-highest.result (search rules) ∙ c.value-highest.ensures in
    let values : Values = record { lower = to_z w128 (of_z w128 c.value-lowest.result); upper = to_z w128 (of_z w128 c.value-highest.result); down = c.in-Loop.down } in
    let none : values_left c.loop-value.values ≡ [] =
    subst (λ (o : Option ℤ). MatchOption o (values_left c.loop-value.values ≡ []) (λ (value : ℤ). values_left c.loop-value.values ≡ value ∷ values_left c.next.new.self)) c.in_default.is c.next.ensures in
    loop_left (item_of c.args.item.now) c.in-Loop.name c.in-Loop.lower c.in-Loop.upper (row_of c.in-Loop.body.items) c.args.point.now values c.args.room (Some c.loop-value.left) is low high
    (all_taken (row_of c.in-Loop.body.items) c.args.point.now (values_left values) c.loop-value.left c.args.room
    (subst (λ (vs : List ℤ). LoopGoesOn (row_of c.in-Loop.body.items) c.args.point.now (values_left values) vs c.loop-value.left c.args.room) none c.loop-value.invariant.counts))

pub behind_item-behind_row-requires-in-Guard : goal.behind_item-behind_row-requires-in-Guard
behind_item-behind_row-requires-in-Guard t c =
    let is : item_of c.args.item.now ≡ guard c.in-Guard.rows.items (row_of c.in-Guard.body.items) = ap item_of c.in-Guard.is ∙ item_of-Guard c.in-Guard.rows c.in-Guard.body in
    let fits : ItemFits c.requires.fits.0 (length c.args.point.now) (guard c.in-Guard.rows.items (row_of c.in-Guard.body.items)) = subst (ItemFits c.requires.fits.0 (length c.args.point.now)) is c.requires.fits.1 in
    let body : RowFits c.requires.fits.0 (length c.args.point.now) (row_of c.deref-in-Guard.result.now) =
    subst (λ (l : List Item). RowFits c.requires.fits.0 (length c.args.point.now) (row_of l)) (sym c.deref-in-Guard.ensures.value) fits.1 in
    let fewer : row_size (row_of c.in-Guard.body.items) < item_size (item_of c.args.item.now) = guarded_smaller (item_of c.args.item.now) c.in-Guard.rows.items (row_of c.in-Guard.body.items) is in
    let d : row_size (row_of c.deref-in-Guard.result.now) < t = omega (arith, c.decreases, ap (λ (l : List Item). row_size (row_of l)) c.deref-in-Guard.ensures.value) in
    (d, ((c.requires.fits.0, body), c.requires.point))
