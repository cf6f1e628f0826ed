use Rattle.std.proofs.Common.{ℕ, arith}
use Rattle.std.proofs.lemmas.List.Sums.{sum_by-drop_more}
use Rattle.poly_tree.proofs.print_order.total_degree.Goals as goal

pub loop-exponent-preserved : goal.loop-exponent-preserved
loop-exponent-preserved c =
    let i = c.loop-exponent.exponent-index in (
      omega (arith, sum_by-drop_more (λ (x : ℕ). x) c.args.exponents.now i 0 c.loop-exponent-test.true, c.loop-exponent.invariant.0),
      omega (arith, c.loop-exponent.invariant.1, (c.type_inv.exponents i).fits),
    )
