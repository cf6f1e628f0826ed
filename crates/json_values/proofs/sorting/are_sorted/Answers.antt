-- One key more that is above the last.
use Rattle.std.proofs.Common.{sym, ◌∙◌, arith}
use Rattle.json_values.proofs.InOrder.{sorted-more, sorted-one}
use Rattle.json_values.proofs.sorting.are_sorted.Goals as goal

pub loop-next-init : goal.loop-next-init
loop-next-init c = record { some = omega arith; sorted = sorted-one c.args.members.now }

pub loop-next-preserved : goal.loop-next-preserved
loop-next-preserved c = record {
  some = omega (arith, c.loop-next.invariant.some);
  sorted = sorted-more c.args.members.now c.loop-next.next c.index-members-next.result c.index-members-next-in-loop-next.result c.loop-next.invariant.some (omega (arith, c.loop-next-test.true))
      c.loop-next.invariant.sorted (sym c.cmp.ensures ∙ c.in-Less.is);
}
