use Rattle.poly_tree.proofs.Trees.{ends_by}
use Rattle.poly_tree.proofs.join.ends_in_zero.Goals as goal

pub returns-in-Some : goal.returns-in-Some
returns-in-Some c = ends_by c.args.parts.now c.in-Some.last.now c.is_zero.result (c.in-Some.ensures.value) c.is_zero.ensures
