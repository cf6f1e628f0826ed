use Rattle.std.proofs.Common.{◌≤◌, length, List, subst}
use Rattle.iolb_model.specs.Form.{AffineForm}
use Rattle.int_sets.proofs.Held.{row-more, one-held}
use Rattle.int_sets.proofs.half.small_halves.Goals as goal

pub loop-i-preserved : goal.loop-i-preserved
loop-i-preserved c = record {
  halves = c.in_ok-push_row.ensures.halves;
  held = row-more c.loop-i.halves.items c.push_row.new.halves.items c.loop-i.i c.in_ok-push_row.ensures.kept c.in_ok-push_row.ensures.row c.loop-i.invariant.held;
}

pub returns-clause-all : goal.returns-clause-all
returns-clause-all c =
    rw c.in_ok-push.ensures.items
    (one-held c.args.system.now.rows c.loop-i.halves.items c.no_row.result c.loop-i.i c.no_row.ensures.weights
    (subst (λ (xs : List AffineForm). length xs ≤ c.loop-i.i) c.rows-row-items.ensures.rows c.loop-i-test.false) c.loop-i.invariant.held)
