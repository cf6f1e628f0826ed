use Rattle.std.proofs.Common.{Bool, false, List, ℕ, ◌<◌, ◌≡◌, ◌∙◌, sym, ap, subst, arith, map, get_or, length}
use Rattle.std.proofs.lemmas.List.{length-map, get_or-map, get_or_default}
use Rattle.affine_form.specs.System.{AllOver}
use Rattle.affine_form.specs.Rows.{direction_of, earlier_row, order_rows}
use Rattle.affine_form.proofs.RowLemmas.{order_rows-over}
use Rattle.affine_form.proofs.Steps.{order-step, order-last, order-none, pushed-one}
use Rattle.iolb_model.specs.Program.{upward}
use Rattle.affine_form.proofs.rows.order_rows.Goals as goal
use Rattle.affine_form.proofs.rows.order_rows.Goals.{then-level-down+in_ok-earlier_row+in_ok-push, else-level-down}

-- the direction of a loop at its place
direction-at : (down : List Bool) (i : ℕ) (d : Bool) → d ≡ get_or down i d → i < length down → direction_of d ≡ get_or (map direction_of down) i (direction_of d)
direction-at down i d is below = ap direction_of is ∙ sym (get_or-map direction_of down i d (direction_of d) below)

pub loop-i-preserved : goal.loop-i-preserved
loop-i-preserved c =
    let down = c.args.down.now in
    let below : c.loop-i.i < length down = omega (arith, c.loop-i-test.true, c.requires.level_in) in
    let direction = get_or (map direction_of down) c.loop-i.i upward in
    order-step c.args.vars c.args.level c.loop-i.i (map direction_of down) direction c.args.ys.now c.args.xs.now c.index-ys-i.result c.index-xs-i.result
    c.loop-i.rows.items c.push_equal.new.rows.items (order_rows c.args.vars (map direction_of down) c.args.level c.args.ys.now c.args.xs.now) c.loop-i-test.true
    (omega (arith, length-map down direction_of, below))
    (omega (arith, below, c.requires.ys_enough)) (omega (arith, below, c.requires.xs_enough))
    (get_or_default (map direction_of down) c.loop-i.i upward direction (omega (arith, length-map down direction_of, below)))
    c.index-ys-i.is c.index-xs-i.is
    c.in_ok-push_equal.ensures
    c.loop-i.invariant

pub returns : goal.returns
returns c =
    let ys = c.args.ys.now in
    let xs = c.args.xs.now in
    let loops = map direction_of c.args.down.now in
    let whole = order_rows c.args.vars loops c.args.level ys xs in
    let ended : c.loop-i.i ≡ c.args.level = omega arith in
    let many : length loops ≡ length c.args.down.now = length-map c.args.down.now direction_of in
    let is : c.if-level-down.rows.items ≡ whole = elim c.if-level-down.branch [
      | then-level-down+in_ok-earlier_row+in_ok-push w ↦
          ap (λ r. r.items) w.rows-is
          ∙ order-last c.args.vars c.args.level c.loop-i.i loops (direction_of (get_or c.args.down.now c.args.level false)) ys xs w.index-ys-level.result w.index-xs-level.result c.loop-i.rows.items w.push.new.self.items whole
          ended (omega (arith, w.if-level-down.true, many)) (omega (arith, w.if-level-down.true, c.requires.ys_enough)) (omega (arith, w.if-level-down.true, c.requires.xs_enough))
          (direction-at c.args.down.now c.args.level (get_or c.args.down.now c.args.level false) (get_or_default c.args.down.now c.args.level false (get_or c.args.down.now c.args.level false) w.if-level-down.true) w.if-level-down.true)
          w.index-ys-level.is w.index-xs-level.is
          (pushed-one c.loop-i.rows.items w.push.new.self.items w.in_ok-earlier_row.field-0 (earlier_row c.args.vars (direction_of (get_or c.args.down.now c.args.level false)) w.index-ys-level.result w.index-xs-level.result) w.in_ok-push.ensures.items w.in_ok-earlier_row.ensures)
          c.loop-i.invariant
      | else-level-down w ↦
          ap (λ r. r.items) w.rows-is
          ∙ order-none c.args.vars c.args.level c.loop-i.i loops ys xs c.loop-i.rows.items whole ended (omega (arith, w.if-level-down.false, many)) c.loop-i.invariant
    ] in
    record {
      rows = is;
      over = subst (AllOver c.args.vars) (sym is) (order_rows-over c.args.vars loops c.args.level ys xs c.requires.ys_within c.requires.xs_within);
    }
