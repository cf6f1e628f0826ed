use Rattle.std.proofs.Common.{◌≡◌, ◌-◌, ◌++◌, drop, map}
use Rattle.affine_form.specs.Rows.{direction_of, order_rows}
use Rattle.affine_form.proofs.rows.order_rows.Given as goal

abbrev pub invariant-loop-i : goal.invariant-loop-i
invariant-loop-i l =
    l.rows.items ++ order_rows l.vars (drop l.i (map direction_of l.down)) (l.level - l.i) (drop l.i l.ys) (drop l.i l.xs) ≡ order_rows l.vars (map direction_of l.down) l.level l.ys l.xs
