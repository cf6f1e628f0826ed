use Rattle.std.proofs.Common.{◌-◌, arith, length}
use Rattle.domain_count.proofs.BoundsFit.{BoundsFit-read}
use Rattle.domain_count.proofs.Variables.{sums-use}
use Rattle.domain_count.proofs.Steps.{sum-ended, sum-step, sum-refused, sums-ended, sums-further}
use Rattle.domain_count.proofs.count.sum_up.Goals as goal

pub summed-requires : goal.summed-requires
summed-requires c =
    (BoundsFit-read c.args.params (c.loop-k.k - 1) c.args.bounds.now c.index-bounds-k.result c.requires.fit (omega arith) c.index-bounds-k.is).0.small

pub loop-k-preserved : goal.loop-k-preserved
loop-k-preserved c =
    let step = sum-step c.args.params (c.loop-k.k - 1) c.loop-k.k c.args.bounds.now c.args.sums.now c.index-bounds-k.result c.index-sums-k.result c.loop-k.total c.in-Ok.outer (omega arith)
    c.loop-k.invariant.0 c.requires.one_each c.index-bounds-k.is c.index-sums-k.is c.loop-k.invariant.1 c.in-Ok.ensures.total in (
      step.0,
      step.1,
      sums-further c.args.params (c.loop-k.k - 1) c.loop-k.k (length c.args.bounds.now) c.args.bounds.now c.args.sums.now c.args.place.now c.args.key c.in-Ok.outer (omega arith)
          c.loop-k.invariant.0 step.1 c.loop-k.invariant.2,
    )

pub returns-in-Err-clause-refused : goal.returns-in-Err-clause-refused
returns-in-Err-clause-refused c =
    sum-refused c.args.params (c.loop-k.k - 1) c.loop-k.k (length c.args.bounds.now) c.args.bounds.now c.args.sums.now c.args.place.now c.args.key c.index-bounds-k.result c.index-sums-k.result
    c.loop-k.total c.in-Err.fault c.sum_refusal.result (omega arith) c.loop-k.invariant.0 c.requires.one_each c.index-bounds-k.is c.index-sums-k.is c.loop-k.invariant.1
    c.loop-k.invariant.2 c.in-Err.ensures.legal c.in-Err.ensures.fails c.sum_refusal.ensures

pub returns-clause-holds : goal.returns-clause-holds
returns-clause-holds c =
    sums-ended c.args.params c.loop-k.k (length c.args.bounds.now) c.args.bounds.now c.args.sums.now c.args.place.now c.args.key (omega arith) c.loop-k.invariant.2

pub returns-clause-parameters : goal.returns-clause-parameters
returns-clause-parameters c =
    sums-use c.args.params c.args.bounds.now c.args.sums.now c.loop-k.total c.den-den.ensures.legal c.requires.few c.requires.fit
    (sum-ended c.args.params c.loop-k.k c.args.bounds.now c.args.sums.now c.loop-k.total (omega arith) c.loop-k.invariant.1)
