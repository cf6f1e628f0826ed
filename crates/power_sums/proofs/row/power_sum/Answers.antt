use Rattle.std.proofs.Common.{rules, ◌≡◌, sym, subst}
use Rattle.std.specs.Prelude.{slice_get, IfSome}
use Rattle.power_sums.specs.PowerSum.{IsPowerSum}
use Rattle.power_sums.specs.declared.row.TheConstants.{ROWS}
use Rattle.power_sums.proofs.Table.{table}
use Rattle.power_sums.proofs.row.power_sum.Goals as goal

pub returns-clause-sum : goal.returns-clause-sum
returns-clause-sum c =
    let is : c.copied.result ≡ slice_get ROWS c.args.d = search rules in
    subst (λ r. IfSome r (λ row. IsPowerSum c.args.d row.num row.den)) (sym is) (table c.args.d)
