use Rattle.std.proofs.Common.{arith}
use Rattle.joint_partition.proofs.LowestTerms.{divisor-some, lowest-is}
use Rattle.joint_partition.proofs.numbers.lowest_terms.Goals as goal

pub nonzero_div-result : goal.nonzero_div-result
nonzero_div-result c = omega (arith, divisor-some c.args.over c.args.under c.gcd-common.result c.gcd-common.ensures c.requires)

pub nonzero_div-result-2 : goal.nonzero_div-result-2
nonzero_div-result-2 c = omega (arith, divisor-some c.args.over c.args.under c.gcd-common.result c.gcd-common.ensures c.requires)

pub returns : goal.returns
returns c = lowest-is c.args.over c.args.under c.gcd-common.result c.gcd-common.ensures
