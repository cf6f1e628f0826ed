use Rattle.std.proofs.Common.{arith}
use Rattle.poly_tree.proofs.Trees.{joined-over}
use Rattle.poly_tree.proofs.join.join.Goals as goal

pub returns-then-len-ge2 : goal.returns-then-len-ge2
returns-then-len-ge2 c =
    joined-over c.args.var c.args.parts.items c.trim.new.parts c.trim.ensures.trimmed c.trim.ensures.nonzero (omega (arith, c.if-len-ge2.true, c.len.ensures, c.trim.new.parts.ok.0))
