use Rattle.poly_tree.specs.Tree.{expansion, expansions}
use Rattle.poly_tree.proofs.Made.{raised-low}
use Rattle.poly_tree.proofs.raise.raise_low.Goals as goal

pub returns : goal.returns
returns c =
    raised-low c.args.var (expansion c.args.tree.now) (expansion c.join.result) (expansions c.parts_in.result.now) (expansions c.in_ok-parts.parts.items) c.parts_in.ensures c.in_ok-parts.ensures c.join.ensures
