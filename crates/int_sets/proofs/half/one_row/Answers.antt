use Rattle.std.proofs.Common.{rules, FitsSigned, ap, ◌∙◌, ℤ, pos, ◌*ℤ◌}
use mir.Syntax.{w128}
use Rattle.std.proofs.lemmas.Int.{to_z-of_z}
use Rattle.int_sets.proofs.Sums.{one-half}
use Rattle.int_sets.proofs.half.one_row.Goals as goal

pub returns-clause-half : goal.returns-clause-half
returns-clause-half c =
    let fits : FitsSigned w128 c.multiple.result = search rules in
    let fits_second : FitsSigned w128 c.multiple-2.result = search rules in
    let fits_constant : FitsSigned w128 c.constant.result = search rules in
    rw (to_z-of_z w128 c.multiple.result fits, to_z-of_z w128 c.multiple-2.result fits_second)
    (one-half c.args.system.now.rows c.args.number c.args.times c.args.row.now c.args.value c.multiple.result c.multiple-2.result
    c.requires.row c.requires.value c.requires.small c.constant.ensures.legal.1.1 c.requires.times
    (simp (to_z-of_z w128 c.args.value c.ranges.value) at c.multiple.ensures)
    (simp (to_z-of_z w128 c.constant.result fits_constant) at c.multiple-2.ensures ∙ ap (λ (z : ℤ). pos c.args.times *ℤ z) c.constant.ensures.constant))
