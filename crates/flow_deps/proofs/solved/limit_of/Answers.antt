use Rattle.std.proofs.Common.{◌∙◌, ap, arith}
use Rattle.std.proofs.Math.IntN.{pos}
use Rattle.affine_form.specs.Form.{variables}
use Rattle.affine_form.proofs.RowLemmas.{length-difference}
use Rattle.flow_deps.proofs.solved.limit_of.Goals as goal

pub returns : goal.returns
returns c =
    ap variables c.in_ok-difference.ensures
    ∙ length-difference c.args.vars c.new-zero.result c.args.row.now (pos 0) (omega (arith, ap variables c.new-zero.ensures, c.new.ensures.len)) (omega (arith, c.requires.over))
