use Rattle.std.proofs.Common.{take}
use Rattle.poly_tree.specs.Expansion.{IsAffine}
use Rattle.poly_tree.specs.Tree.{expansion}
use Rattle.poly_tree.proofs.affine.form_tree.Given as goal

abbrev pub invariant-loop-var : goal.invariant-loop-var
invariant-loop-var l = IsAffine (take l.var l.coefficient-items) l.form.constant (expansion l.tree)
