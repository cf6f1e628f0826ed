use Rattle.std.proofs.Common.{rules}
use Rattle.domain_count.specs.Antidifference.{IsAntidifference}
use Rattle.domain_count.specs.Faults.{fault_of}
use Rattle.domain_count.proofs.Steps.{fails-through}
use Rattle.domain_count.proofs.Summing.{fails-second}
use Rattle.domain_count.proofs.summation.summed.Goals as goal

pub returns-then-not-same-clause-fails : goal.returns-then-not-same-clause-fails
returns-then-not-same-clause-fails c = record {
  difference = c.in_ok-difference.difference;
  backward = c.in_ok-difference.ensures.difference;
  other = λ same. let yes = c.same.ensures.exact.1 same in let no = c.if-not-same.true in absurd (search rules);
}

pub returns-in_err-between-clause-fails : goal.returns-in_err-between-clause-fails
returns-in_err-between-clause-fails c =
    let is : IsAntidifference c.args.var c.args.summand.now c.args.sum.now
    = record { difference = c.in_ok-difference.difference; backward = c.in_ok-difference.ensures.difference; same = c.same.ensures.exact.0 (search rules) } in
    fails-through c.args.var c.args.bounds.now c.args.summand.now c.args.sum.now c.from_residual-in_err-between.result (fault_of c.in_err-between.field-0.0) c.from_residual-in_err-between.ensures.1
    (fails-second c.args.var c.args.bounds.now c.args.summand.now c.args.sum.now c.in_err-between.field-0.0 is (λ e. c.in_err-between.ensures.wide (search rules)))

pub returns-clause-total : goal.returns-clause-total
returns-clause-total c = record {
  legal = c.den-den.ensures.legal;
  antidifference = record {
    difference = c.in_ok-difference.difference;
    backward = c.in_ok-difference.ensures.difference;
    same = c.same.ensures.exact.0 (search rules);
  };
  between = c.in_ok-between.ensures.total;
}
