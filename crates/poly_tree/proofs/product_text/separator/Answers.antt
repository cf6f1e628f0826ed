use Rattle.std.proofs.Common.{Bool, [], ap, sym, cond}
use Rattle.std.specs.Prelude.{codes}
use Rattle.poly_tree.proofs.product_text.separator.Goals as goal

pub returns-then-started : goal.returns-then-started
returns-then-started c = ap (λ (b : Bool). cond b (codes "*") []) (sym c.if-started.true)

pub returns-else-started : goal.returns-else-started
returns-else-started c = ap (λ (b : Bool). cond b (codes "*") []) (sym c.if-started.false)
